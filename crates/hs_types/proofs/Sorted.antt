-- What searches by number tell.
use Rattle.std.proofs.Common.{ℕ, zero, suc, inl, inr, nat_lt, Ok, Err, ◌≡◌, ◌<◌, List, [], ◌∷◌, length, get_or, true, false, not, eqb, Result, refl, sym, ap, arith, is_ok, ◌+◌, ◌≤◌, map}
use Rattle.std.proofs.lemmas.Bool.Decides.{nat_tests}
use Rattle.std.proofs.lemmas.Bool.{cases_Bool, eq-eqb, ne_eqb, or_left, or_right}
use Rattle.std.proofs.lemmas.List.Sorted.{searched}
use Rattle.std.specs.List.Sorted.{IsBinarySearchResult, IsPartitionedBy, IsPartitionPoint}
use Rattle.std.specs.List.{All, filter}
use Rattle.std.specs.Ordering.{nat_cmp}
use Rattle.hs_expr.specs.Lists.{Rise, has}
use Rattle.hs_types.specs.Writing.{AreRising}
use Rattle.hs_types.specs.declared.graph.Object.{Object}

pub rises : {A : Type 0} (f : A → ℕ) (low : ℕ) (xs : List A) (high : ℕ) → Rise low (map f xs) high → (i j : ℕ) (d : A) → i ≤ j → j < length xs → (low ≤ f (get_or xs i d)) × (f (get_or xs i d) ≤ f (get_or xs j d))
rises f low [] high r i j d l k = absurd (omega arith)
rises f low (x ∷ xs) high r zero zero d l k = (r.0, omega arith)
rises f low (x ∷ xs) high r zero (suc j) d l k = (r.0, let h = rises f (f x + 1) xs high r.1 j j d (omega arith) (omega arith) in omega (arith, h.0))
rises f low (x ∷ xs) high r (suc i) zero d l k = absurd (omega arith)
rises f low (x ∷ xs) high r (suc i) (suc j) d l k = let h = rises f (f x + 1) xs high r.1 i j d (omega arith) (omega arith) in (omega (arith, h.0, r.0), h.1)

pub parted : (os : List Object) (high n : ℕ) → Rise 0 (map (λ (o : Object). o.number) os) high → IsPartitionedBy (λ o. nat_lt o.number n) os
parted os high n r i j d l k h = let t = rises (λ (o : Object). o.number) 0 os high r i j d l k in grind (arith, nat_tests)

-- What stands at a place does not hang on what is given in its stead.
same_default : {A : Type 0} (xs : List A) (i : ℕ) (d e : A) → i < length xs → get_or xs i d ≡ get_or xs i e
same_default [] i d e l = absurd (omega arith)
same_default (x ∷ xs) zero d e l = refl
same_default (x ∷ xs) (suc i) d e l = same_default xs i d e (omega arith)

-- Where the place of a number has another number, or is behind all, no object has it.
pub missing : (os : List Object) (high n i : ℕ) → Rise 0 (map (λ (o : Object). o.number) os) high → IsPartitionPoint (λ (o : Object). nat_lt o.number n ≡ true) (λ (o : Object). nat_lt o.number n ≡ false) os i → (i < length os → (o : Object) × (o ≡ get_or os i o) × (o.number ≡ n → ⊥)) → All (λ o. o.number ≡ n → ⊥) os
missing os high n i r p other k d l e = elim (cases_Bool (nat_lt k i)) [
  | inl h ↦ let b = p.0 k d (omega arith) (grind (arith, nat_tests)) in grind (arith, nat_tests)
  | inr h ↦
      let up : i ≤ k = grind (arith, nat_tests) in
      let o = other (omega (arith, up, l)) in
      let b = p.1 i o.0 (omega arith) (omega (arith, up, l)) in
      let t = (rises (λ (o : Object). o.number) 0 os high r i k o.0 up l).1 in
      let j : o.0.number ≡ (get_or os i o.0).number = ap (λ (o : Object). o.number) o.1 in
      let s : (get_or os k o.0).number ≡ (get_or os k d).number = ap (λ (o : Object). o.number) (same_default os k o.0 d l) in
      o.2 (grind (arith, nat_tests))
]

-- Tests that answer alike keep alike.
pub filter_alike : {A : Type 0} (f : A → ℕ) (ms ns : List ℕ) → ((n : ℕ) → has ms n ≡ has ns n) → (xs : List A) → filter (λ x. not (has ms (f x))) xs ≡ filter (λ x. not (has ns (f x))) xs
filter_alike f ms ns same xs = ap (λ q. filter q xs) (λ i x. not (same (f x) i))

has_at : (ns : List ℕ) (n i : ℕ) → i < length ns → get_or ns i 0 ≡ n → has ns n ≡ true
has_at [] n i l e = absurd (omega arith)
has_at (m ∷ ns) n zero l e = or_left (eqb n m) (has ns n) (eq-eqb n m (sym e))
has_at (m ∷ ns) n (suc i) l e = or_right (eqb n m) (has ns n) (has_at ns n i (omega arith) e)

has_nowhere : (ns : List ℕ) (n : ℕ) → ((k : ℕ) → k < length ns → get_or ns k 0 ≡ n → ⊥) → has ns n ≡ false
has_nowhere [] n h = refl
has_nowhere (m ∷ ns) n h = rw (ne_eqb n m (λ e. h 0 (omega arith) (sym e))) (has_nowhere ns n (λ k l e. h (suc k) (omega arith) e))

pub among : (ns : List ℕ) (n : ℕ) (r : Result ℕ ℕ) → AreRising ns → IsBinarySearchResult (λ y. nat_cmp y n) ns r → is_ok r ≡ has ns n
among ns n (Ok i) rising found = let t = searched ns n (Ok i) found rising in sym (has_at ns n i t.0 t.1)
among ns n (Err i) rising found = let t = searched ns n (Err i) found rising in sym (has_nowhere ns n (λ k l e. elim (cases_Bool (nat_lt k i)) [
  | inl h ↦ let b = t.1 k (grind (arith, nat_tests)) in omega arith
  | inr h ↦ let b = t.2 k (grind (arith, nat_tests)) l in omega arith
]))
