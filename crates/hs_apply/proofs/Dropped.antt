-- Items beside those that pass, item by item.
use Rattle.std.proofs.Common.{ℕ, ◌+◌, ◌<◌, ◌≤◌, ◌≡◌, zero, suc, List, [], ◌∷◌, Bool, true, false, length, drop, slice_get, slice_index, refl, arith, ap, subst, ◌∙◌}
use Rattle.std.proofs.lemmas.List.{drop_all}
use Rattle.std.specs.Option.{option_map, unwrap_or}
use Rattle.hs_expr.specs.Lists.{beside}

beside-nil : {A : Type 0} (q : A → Bool) (xs : List A) → beside {B = ℕ} q xs [] ≡ []
beside-nil q [] = refl
beside-nil q (x ∷ xs) = refl

pub drop-nil : {A : Type 0} (i : ℕ) → drop {A = A} i [] ≡ []
drop-nil i = drop_all i [] (omega arith)

next : {A : Type 0} (q : A → Bool) (xs : List A) (ns : List ℕ) (i : ℕ) → unwrap_or (option_map q (slice_get xs i)) false ≡ true → i < length ns → beside q (drop i xs) (drop i ns) ≡ slice_index ns i ∷ beside q (drop (suc i) xs) (drop (suc i) ns)
next q [] ns i h lt = absurd (cc h)
next q (x ∷ xs) [] i h lt = absurd (omega (arith, lt))
next q (x ∷ xs) (n ∷ ns) zero h lt = rw h refl
next q (x ∷ xs) (n ∷ ns) (suc i) h lt = next q xs ns i h (omega (arith, lt))

skipped : {A : Type 0} (q : A → Bool) (xs : List A) (ns : List ℕ) (i : ℕ) → unwrap_or (option_map q (slice_get xs i)) false ≡ false → i < length ns → beside q (drop i xs) (drop i ns) ≡ beside q (drop (suc i) xs) (drop (suc i) ns)
skipped {A} q [] ns i h lt = rw (drop-nil {A = A} i) refl
skipped q (x ∷ xs) [] i h lt = absurd (omega (arith, lt))
skipped q (x ∷ xs) (n ∷ ns) zero h lt = rw h refl
skipped q (x ∷ xs) (n ∷ ns) (suc i) h lt = skipped q xs ns i h (omega (arith, lt))

-- An item that passes gives what is beside it, and one that doesn't gives nothing.
pub beside_next : {A : Type 0} (q : A → Bool) (xs : List A) (ns : List ℕ) (i : ℕ) → unwrap_or (option_map q (slice_get xs i)) false ≡ true → i < length ns → beside q (drop i xs) (drop i ns) ≡ slice_index ns i ∷ beside q (drop (i + 1) xs) (drop (i + 1) ns)
beside_next q xs ns i h lt = subst (λ (k : ℕ). beside q (drop i xs) (drop i ns) ≡ slice_index ns i ∷ beside q (drop k xs) (drop k ns)) (let e : suc i ≡ i + 1 = omega arith in e) (next q xs ns i h lt)

pub beside_skipped : {A : Type 0} (q : A → Bool) (xs : List A) (ns : List ℕ) (i : ℕ) → unwrap_or (option_map q (slice_get xs i)) false ≡ false → i < length ns → beside q (drop i xs) (drop i ns) ≡ beside q (drop (i + 1) xs) (drop (i + 1) ns)
beside_skipped q xs ns i h lt = subst (λ (k : ℕ). beside q (drop i xs) (drop i ns) ≡ beside q (drop k xs) (drop k ns)) (let e : suc i ≡ i + 1 = omega arith in e) (skipped q xs ns i h lt)

pub beside_done : {A : Type 0} (q : A → Bool) (xs : List A) (ns : List ℕ) (i : ℕ) → length ns ≤ i → beside q (drop i xs) (drop i ns) ≡ []
beside_done q xs ns i le = ap (beside q (drop i xs)) (drop_all i ns le) ∙ beside-nil q (drop i xs)
