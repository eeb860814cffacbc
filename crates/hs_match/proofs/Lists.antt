-- Numbers in lists, and tables of truth values.
use Rattle.std.proofs.Common.{set, replicate, slice_get, Some, ap, zero, suc, ℕ, ◌<◌, ◌≡◌, ◌⊎◌, List, [], ◌∷◌, ◌++◌, length, get_or, Bool, true, false, refl, arith, inl, inr}
use Rattle.std.proofs.lemmas.Grind.{common_steps}
use Rattle.hs_expr.specs.Lists.{has}
use Rattle.hs_expr.proofs.Lists.{has-here, has_cases}

-- one more item
pub has-push : (ns : List ℕ) (m n : ℕ) → has (ns ++ m ∷ []) n ≡ true → (has ns n ≡ true) ⊎ (n ≡ m)
has-push [] m n h = elim (has_cases n m [] h) [ inl e ↦ inr e | inr none ↦ inl none ]
has-push (k ∷ ns) m n h = elim (has_cases n k (ns ++ m ∷ []) h) [
  | inl e ↦ inl (rw (← e) (has-here n ns))
  | inr later ↦ elim (has-push ns m n later) [ inl h ↦ inl (grind (arith, common_steps, h)) | inr e ↦ inr e ]
]

-- a place of a table that is read as true
pub read_true : (xs : List Bool) (i : ℕ) → get_or xs i false ≡ true → slice_get xs i ≡ Some true
read_true [] i h = cc
read_true (x ∷ xs) zero h = ap Some h
read_true (x ∷ xs) (suc i) h = read_true xs i h

-- what is true after one place is set
pub set_true : (xs : List Bool) (i d : ℕ) → slice_get (set xs i true) d ≡ Some true → (slice_get xs d ≡ Some true) ⊎ (d ≡ i)
set_true [] i d h = inl h
set_true (x ∷ xs) zero zero h = inr refl
set_true (x ∷ xs) zero (suc d) h = inl h
set_true (x ∷ xs) (suc i) zero h = inl h
set_true (x ∷ xs) (suc i) (suc d) h = elim (set_true xs i d h) [ inl before ↦ inl before | inr here ↦ inr (ap suc here) ]

pub set_kept : (xs : List Bool) (i d : ℕ) → slice_get xs d ≡ Some true → slice_get (set xs i true) d ≡ Some true
set_kept [] i d h = h
set_kept (x ∷ xs) zero zero h = refl
set_kept (x ∷ xs) zero (suc d) h = h
set_kept (x ∷ xs) (suc i) zero h = h
set_kept (x ∷ xs) (suc i) (suc d) h = set_kept xs i d h

pub set_here : (xs : List Bool) (i : ℕ) → i < length xs → slice_get (set xs i true) i ≡ Some true
set_here [] i h = absurd (omega arith)
set_here (x ∷ xs) zero h = refl
set_here (x ∷ xs) (suc i) h = set_here xs i (omega arith)

pub none_true : (n d : ℕ) → slice_get (replicate n false) d ≡ Some true → ⊥
none_true zero d h = cc
none_true (suc n) zero h = cc
none_true (suc n) (suc d) h = none_true n d h
