-- Paths, and lists of vertices.
use Rattle.std.proofs.Common.{ℕ, ◌≡◌, ◌||◌, ◌⊎◌, inl, inr, List, [], ◌∷◌, Bool, true, false, cond, eqb, Some, refl, ap, sym, ◌∙◌, subst}
use Rattle.std.specs.List.{find, list_any}
use Rattle.std.proofs.lemmas.Bool.{eqb-true, eq-eqb, false≢true, or_left, or_right}
use Rattle.std.proofs.lemmas.Option.{none-some, same_Some}
use Rattle.hs_expr.specs.Lists.{has}
use Rattle.hs_types.specs.Reachability.{HasEdge, Reaches, by_way_of, direct, reaches}
use Rattle.hs_types.proofs.Edges.{edge-from_test, edge-test}
use Rattle.hs_types.proofs.Paths.{says_reaches}
use Rattle.hs_reach.specs.Reaching.{Path, advance, has_edge, has_path, stay}

-- ---- paths and the test

pub path-from_reaches : (graph : List (List ℕ)) (n k : ℕ) → Reaches graph n k → Path graph n k
path-from_reaches graph n k (direct _ _ edge) = advance n k k (edge-test graph n k edge) (stay k)
path-from_reaches graph n l (by_way_of _ k _ edge rest) = advance n k l (edge-test graph n k edge) (path-from_reaches graph k l rest)

pub edge-reaches : (graph : List (List ℕ)) (n k l : ℕ) → has_edge graph n k ≡ true → (k ≡ l) ⊎ Reaches graph k l → Reaches graph n l
edge-reaches graph n k l h (inl e) = direct n l (subst (λ j. HasEdge graph n j) e (edge-from_test graph n k h))
edge-reaches graph n k l h (inr b) = by_way_of n k l (edge-from_test graph n k h) b

pub path-cases : (graph : List (List ℕ)) (n k : ℕ) → Path graph n k → (n ≡ k) ⊎ Reaches graph n k
path-cases graph n _ (stay _) = inl refl
path-cases graph n l (advance _ k _ edge rest) = inr (edge-reaches graph n k l edge (path-cases graph k l rest))

pub path-from_test : (graph : List (List ℕ)) (n k : ℕ) → has_path graph n k ≡ true → Path graph n k
unfolding has_path
path-from_test graph n k h = go (eqb n k) refl h
  where
    go : (b : Bool) → eqb n k ≡ b → (b || reaches graph n k) ≡ true → Path graph n k
    go true e f = subst (λ j. Path graph n j) (eqb-true n k e) (stay n)
    go false e f = path-from_reaches graph n k ((says_reaches graph n k).0 f)

pub has_path-from : (graph : List (List ℕ)) (n k : ℕ) → Path graph n k → has_path graph n k ≡ true
unfolding has_path
has_path-from graph n k p = go (path-cases graph n k p)
  where
    go : (n ≡ k) ⊎ Reaches graph n k → has_path graph n k ≡ true
    go (inl e) = or_left (eqb n k) (reaches graph n k) (eq-eqb n k e)
    go (inr b) = or_right (eqb n k) (reaches graph n k) ((says_reaches graph n k).1 b)

pub through : (graph : List (List ℕ)) (n k l : ℕ) → Path graph n k → Path graph k l → Path graph n l
through graph n _ l (stay _) q = q
through graph n k l (advance _ j _ edge rest) q = advance n j l edge (through graph j k l rest q)

pub has_path-itself : (graph : List (List ℕ)) (n : ℕ) → has_path graph n n ≡ true
has_path-itself graph n = has_path-from graph n n (stay n)

pub has_path-edge : (graph : List (List ℕ)) (n k : ℕ) → has_edge graph n k ≡ true → has_path graph n k ≡ true
has_path-edge graph n k h = has_path-from graph n k (advance n k k h (stay k))

pub has_path-through : (graph : List (List ℕ)) (n k l : ℕ) → has_path graph n k ≡ true → has_path graph k l ≡ true → has_path graph n l ≡ true
has_path-through graph n k l p q = has_path-from graph n l (through graph n k l (path-from_test graph n k p) (path-from_test graph k l q))

-- ---- tests over lists

-- A number among these that passes.
pub any-of : (p : ℕ → Bool) (ns : List ℕ) (k : ℕ) → has ns k ≡ true → p k ≡ true → list_any p ns ≡ true
any-of p [] k h t = absurd (false≢true h)
any-of p (n ∷ ns) k h t = go (λ f. any-of p ns k f t) (eqb k n) refl h
  where
    go : (has ns k ≡ true → list_any p ns ≡ true) → (b : Bool) → eqb k n ≡ b → (b || has ns k) ≡ true → (p n || list_any p ns) ≡ true
    go later true e f = or_left (p n) (list_any p ns) (ap p (sym (eqb-true k n e)) ∙ t)
    go later false e f = or_right (p n) (list_any p ns) (later f)

-- ---- the first that passes

pub first-passes : (p : ℕ → Bool) (ns : List ℕ) (k : ℕ) → find p ns ≡ Some k → p k ≡ true
first-passes p [] k e = absurd (none-some k e)
first-passes p (n ∷ ns) k e = go (first-passes p ns k) (p n) refl e
  where
    go : (find p ns ≡ Some k → p k ≡ true) → (b : Bool) → p n ≡ b → cond b (Some n) (find p ns) ≡ Some k → p k ≡ true
    go later true t f = ap p (sym (same_Some n k f)) ∙ t
    go later false t f = later f

pub first-there : (p : ℕ → Bool) (ns : List ℕ) (k : ℕ) → has ns k ≡ true → p k ≡ true → (n : ℕ) × (find p ns ≡ Some n)
first-there p [] k h t = absurd (false≢true h)
first-there p (m ∷ ns) k h t = go (λ f. first-there p ns k f t) (p m) refl (eqb k m) refl h
  where
    go : (has ns k ≡ true → (n : ℕ) × (find p ns ≡ Some n)) → (a : Bool) → p m ≡ a → (b : Bool) → eqb k m ≡ b → (b || has ns k) ≡ true → (n : ℕ) × (cond a (Some m) (find p ns) ≡ Some n)
    go later true s b e f = (m, refl)
    go later false s true e f = absurd (false≢true (sym s ∙ ap p (sym (eqb-true k m e)) ∙ t))
    go later false s false e f = later f
