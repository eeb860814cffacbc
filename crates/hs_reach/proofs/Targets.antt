-- Whether each edge leads to a vertex, as a test.
use Rattle.std.proofs.Common.{ℕ, zero, suc, ◌<◌, ◌≡◌, ◌↔◌, ◌||◌, List, [], ◌∷◌, Bool, true, false, eqb, length, nat_lt, refl, sym, subst, arith, rules}
use Rattle.std.specs.List.{list_all}
use Rattle.std.proofs.lemmas.Bool.{and_parts, eqb-true, eq-eqb, false≢true, or_left, or_right, and_from}
use Rattle.hs_expr.specs.Lists.{has}
use Rattle.hs_reach.specs.Reaching.{TargetsAreVertices, has_edge}

row-within : (m : ℕ) (row : List ℕ) (k : ℕ) → list_all (λ to. nat_lt to m) row ≡ true → has row k ≡ true → k < m
row-within m [] k e h = absurd (false≢true h)
row-within m (n ∷ row) k e h = let parts = and_parts (nat_lt n m) (list_all (λ to. nat_lt to m) row) e in go (row-within m row k parts.1) parts.0 (eqb k n) refl h
  where
    go : (has row k ≡ true → k < m) → nat_lt n m ≡ true → (b : Bool) → eqb k n ≡ b → (b || has row k) ≡ true → k < m
    go later small true t f = let same = eqb-true k n t in subst (λ j. j < m) (sym same) (grind (arith, rules, small))
    go later small false t f = later f

within-row : (m : ℕ) (row : List ℕ) → ((k : ℕ) → has row k ≡ true → k < m) → list_all (λ to. nat_lt to m) row ≡ true
within-row m [] h = refl
within-row m (n ∷ row) h =
    let first : n < m = h n (or_left (eqb n n) (has row n) (eq-eqb n n refl)) in
    let small : nat_lt n m ≡ true = grind (arith, rules, first) in
    and_from (nat_lt n m) (list_all (λ to. nat_lt to m) row) small (within-row m row (λ k f. h k (or_right (eqb k n) (has row k) f)))

rows-within : (m : ℕ) (graph : List (List ℕ)) (n k : ℕ) → list_all (list_all (λ to. nat_lt to m)) graph ≡ true → has_edge graph n k ≡ true → k < m
rows-within m [] n k e h = absurd (false≢true h)
rows-within m (row ∷ graph) zero k e h = row-within m row k (and_parts (list_all (λ to. nat_lt to m) row) (list_all (list_all (λ to. nat_lt to m)) graph) e).0 h
rows-within m (row ∷ graph) (suc n) k e h = rows-within m graph n k (and_parts (list_all (λ to. nat_lt to m) row) (list_all (list_all (λ to. nat_lt to m)) graph) e).1 h

within-rows : (m : ℕ) (graph : List (List ℕ)) → ((n k : ℕ) → has_edge graph n k ≡ true → k < m) → list_all (list_all (λ to. nat_lt to m)) graph ≡ true
within-rows m [] h = refl
within-rows m (row ∷ graph) h = and_from (list_all (λ to. nat_lt to m) row) (list_all (list_all (λ to. nat_lt to m)) graph) (within-row m row (h zero)) (within-rows m graph (λ n. h (suc n)))

pub says_targets : (graph : List (List ℕ)) → (list_all (list_all (λ to. nat_lt to (length graph))) graph ≡ true) ↔ TargetsAreVertices graph
says_targets graph = (λ e n k. rows-within (length graph) graph n k e, within-rows (length graph) graph)
