-- Lists of numbers.
use Rattle.std.proofs.Common.{ℕ, zero, suc, ◌+◌, ◌<◌, ◌≤◌, ◌≢◌, ◌≡◌, ◌||◌, List, [], ◌∷◌, ◌++◌, Bool, true, false, eqb, get_or, length, replicate, Option, refl, ap, sym, ◌∙◌, arith}
use Rattle.std.specs.List.{All, range_with_len}
use Rattle.std.proofs.lemmas.Bool.{eq-eqb, or_right}
use Rattle.std.proofs.lemmas.List.{replicate-append-replicate}
use Rattle.std.proofs.lemmas.List.Elements.{All-nil, All-cons}
use Rattle.std.proofs.lemmas.List.Folds.{list_any_at}
use Rattle.hs_expr.specs.Lists.{has}
use Rattle.hs_reach.specs.Searching.{IsSearchOf}
use Rattle.hs_reach.proofs.Searches.{apart, found-within}
use Rattle.hs_expr.proofs.Lists.{All-by_has}
use Rattle.hs_expr.proofs.Items.{range-more}

pub range-has : (a m n : ℕ) → a ≤ n → n < a + m → has (range_with_len a m) n ≡ true
range-has a zero n low high = absurd (omega arith)
range-has a (suc m) n low high = go (λ l h. range-has (a + 1) m n l h) (eqb n a) refl
  where
    go : (a + 1 ≤ n → n < a + 1 + m → has (range_with_len (a + 1) m) n ≡ true) → (b : Bool) → eqb n a ≡ b → (b || has (range_with_len (a + 1) m) n) ≡ true
    go later true e = refl
    go later false e = let other : n ≢ a = apart n a e in later (grind (arith, low, other)) (omega (arith, high))

pub range-below : (a m b : ℕ) → a + m ≤ b → All (λ n. n < b) (range_with_len a m)
range-below a zero b h = All-nil (λ n. n < b)
range-below a (suc m) b h = All-cons (λ n. n < b) a (range_with_len (a + 1) m) (omega (arith, h)) (range-below (a + 1) m b (omega (arith, h)))

pub one-more : {A : Type 0} (m : ℕ) (a : A) → replicate (m + 1) a ≡ replicate m a ++ a ∷ []
one-more m a = sym (replicate-append-replicate m 1 a)

pub nothing-past : (xs : List Bool) (k : ℕ) → length xs ≤ k → get_or xs k false ≡ false
nothing-past [] k h = refl
nothing-past (x ∷ xs) zero h = absurd (omega (arith, h))
nothing-past (x ∷ xs) (suc k) h = nothing-past xs k (omega (arith, h))

pub vertices-more : (m : ℕ) → range_with_len 0 (m + 1) ≡ range_with_len 0 m ++ m ∷ []
vertices-more m =
    let next : m + 1 ≡ suc m = omega arith in
    let same : 0 + m ≡ m = omega arith in
    ap (range_with_len 0) next ∙ range-more 0 m ∙ ap (λ k. range_with_len 0 m ++ k ∷ []) same

pub finished-within : (graph : List (List ℕ)) (tried : List ℕ) (starts : List (Option ℕ)) (path finished : List ℕ) → IsSearchOf graph tried starts path finished → All (λ n. n < length graph) finished
finished-within graph tried starts path finished u =
    All-by_has (λ n. n < length graph) finished
    (λ n h. let within = found-within starts n (u.found n ∙ or_right (has path n) (has finished n) h) in let long = u.marks in omega (arith, within, long))

pub has-at : (ns : List ℕ) (i : ℕ) → i < length ns → has ns (get_or ns i 0) ≡ true
has-at ns i h = list_any_at (eqb (get_or ns i 0)) ns i 0 h (eq-eqb (get_or ns i 0) (get_or ns i 0) refl)
