-- The index of a number among items whose numbers rise.
use Rattle.std.proofs.Common.{ℕ, zero, suc, ◌+◌, ◌<◌, ◌≤◌, ◌≡◌, List, [], ◌∷◌, true, false, eqb, length, ltb, map, Option, Some, None, is_some, slice_get, refl, ap, subst, sym, ◌∙◌, arith}
use Rattle.std.proofs.lemmas.Bool.{eq-eqb, eqb-true, false≢true, lt-ltb, ltb-false, ltb-true, ne_eqb}
use Rattle.std.proofs.lemmas.Option.{get_or_from_slice_get, slice_get_within}
use Rattle.std.proofs.lemmas.List.Sorted.{IsPartitionedBy-ltb}
use Rattle.std.specs.List.{list_any, position, position_or_len}
use Rattle.std.specs.List.Sorted.{IsNonDecreasingBy, IsPartitionedBy}
use Rattle.std.specs.Option.{option_map_or}
use Rattle.hs_expr.specs.Lists.{Rise}
use Rattle.hs_expr.proofs.Items.{is_some-position}
use Rattle.hs_expr.proofs.Lists.{Rise-at}
use Rattle.hs_graph.proofs.Runs.{IsBegin, next_begin}

module _ {A : Type 0} (f : A → ℕ) where
  before_first : (low : ℕ) (xs : List A) (high i : ℕ) (x : A) → Rise low (map f xs) high → slice_get xs i ≡ Some x → position_or_len (λ y. eqb (f y) (f x)) xs ≡ i
  before_first low [] high i x r at = cc
  before_first low (y ∷ ys) high zero x r at = let same : y ≡ x = cc in rw (eq-eqb (f y) (f x) (ap f same)) refl
  before_first low (y ∷ ys) high (suc i) x r at =
      let here = (Rise-at f (f y + 1) ys high r.1 i x (slice_get_within ys i x at)).0 in
      let above : f y + 1 ≤ f x = subst (λ (z : A). f y + 1 ≤ f z) (get_or_from_slice_get ys i x x at) here in
      rw (ne_eqb (f y) (f x) (λ q. omega (arith, above, q))) (let rest = before_first (f y + 1) ys high i x r.1 at in omega (arith, rest))

  -- What is at an index has that index by its number.
  pub index_by_number : (xs : List A) (high i n : ℕ) (x : A) → Rise 0 (map f xs) high → slice_get xs i ≡ Some x → f x ≡ n → position (λ y. eqb (f y) n) xs ≡ Some i
  index_by_number xs high i n x r at is =
      rw (← is) (rw (before_first 0 xs high i x r at) (rw (lt-ltb i (length xs) (slice_get_within xs i x at)) refl))

  -- The same where a test says what is there.
  pub index_at : (xs : List A) (high i n : ℕ) → Rise 0 (map f xs) high → option_map_or (λ y. eqb (f y) n) (slice_get xs i) false ≡ true → position (λ y. eqb (f y) n) xs ≡ Some i
  index_at xs high i n r is = go (slice_get xs i) refl is
    where
      go : (o : Option A) → slice_get xs i ≡ o → option_map_or (λ y. eqb (f y) n) o false ≡ true → position (λ y. eqb (f y) n) xs ≡ Some i
      go None at e = absurd (false≢true e)
      go (Some x) at e = index_by_number xs high i n x r at (eqb-true (f x) n e)

  rising : (low : ℕ) (xs : List A) (high : ℕ) → Rise low (map f xs) high → IsNonDecreasingBy f xs
  rising low [] high r i j d le lt = absurd (omega (arith, lt))
  rising low (x ∷ xs) high r zero zero d le lt = omega arith
  rising low (x ∷ xs) high r zero (suc j) d le lt = let above = (Rise-at f (f x + 1) xs high r.1 j d (omega (arith, lt))).0 in omega (arith, above)
  rising low (x ∷ xs) high r (suc i) zero d le lt = absurd (omega (arith, le))
  rising low (x ∷ xs) high r (suc i) (suc j) d le lt = rising (f x + 1) xs high r.1 i j d (omega (arith, le)) (omega (arith, lt))

  -- Numbers below a bound come first.
  pub parted : (xs : List A) (high n : ℕ) → Rise 0 (map f xs) high → IsPartitionedBy (λ y. ltb (f y) n) xs
  parted xs high n r = IsPartitionedBy-ltb f xs n (rising 0 xs high r)

  above_all : (low : ℕ) (xs : List A) (high n : ℕ) → n < low → Rise low (map f xs) high → list_any (λ y. eqb (f y) n) xs ≡ false
  above_all low [] high n l r = refl
  above_all low (y ∷ ys) high n l r = let le = r.0 in rw (ne_eqb (f y) n (λ q. omega (arith, l, le, q))) (above_all (f y + 1) ys high n (omega (arith, l, le)) r.1)

  absent : (low : ℕ) (xs : List A) (high n b : ℕ) → Rise low (map f xs) high → IsBegin f n xs b → option_map_or (λ y. eqb (f y) n) (slice_get xs b) false ≡ false → list_any (λ y. eqb (f y) n) xs ≡ false
  absent low [] high n b r point other = refl
  absent low (y ∷ ys) high n zero r point other =
      let from = ltb-false (f y) n (point.1 0 y (omega arith) (omega arith)) in
      rw other (above_all (f y + 1) ys high n (omega (arith, from)) r.1)
  absent low (y ∷ ys) high n (suc b) r point other =
      let below = ltb-true (f y) n (point.0 0 y (omega arith) (omega arith)) in
      rw (ne_eqb (f y) n (λ q. omega (arith, below, q))) (absent (f y + 1) ys high n b r.1 (next_begin f n y ys b point) other)

  -- Where the first number from n on isn't n, none is.
  pub no_index : (xs : List A) (high n b : ℕ) → Rise 0 (map f xs) high → IsBegin f n xs b → option_map_or (λ y. eqb (f y) n) (slice_get xs b) false ≡ false → position (λ y. eqb (f y) n) xs ≡ None
  no_index xs high n b r point other = go (position (λ y. eqb (f y) n) xs) (is_some-position (λ y. eqb (f y) n) xs ∙ absent 0 xs high n b r point other)
    where
      go : (o : Option ℕ) → is_some o ≡ false → o ≡ None
      go None e = refl
      go (Some i) e = absurd (false≢true (sym e))
