-- Items of lists by their indices: what holds of each, and which pass a test.
use Rattle.std.proofs.Common.{ℕ, zero, suc, ◌+◌, ◌<◌, ◌≡◌, ◌⊎◌, ◌||◌, ◌++◌, List, [], ◌∷◌, Bool, true, false, cond, not, eqb, ltb, length, take, get_or, slice_get, nat_lt, Option, Some, None, IsSomeAnd, is_some, refl, ap, sym, ◌∙◌, subst, arith, inl, inr, add-zero}
use Rattle.std.proofs.lemmas.Bool.{cases_Bool, false≢true, eq-eqb, eqb-true, ltb-true, or_cases, or_left, or_parts, or_right}
use Rattle.std.proofs.lemmas.Bool.Decides.{nat_tests}
use Rattle.std.proofs.lemmas.List.Elements.{All-append, All-head, All-nil, All-tail}
use Rattle.std.proofs.lemmas.Option.{get_or_from_slice_get, none-some, same_Some, slice_get-get_or, slice_get_within}
use Rattle.std.proofs.lemmas.Cmp.{nat_list_eq_equiv}
use Rattle.std.proofs.lemmas.List.Folds.{list_any_at}
use Rattle.std.proofs.lemmas.List.FromFn.{length-range_with_len, get_or-range_with_len}
use Rattle.std.specs.Cmp.Lexicographic.{bytes_decides}
use Rattle.std.specs.Option.{option_map}
use Rattle.std.specs.List.{All, filter, find, list_any, position, position_or_len, range_with_len}
use Rattle.hs_expr.specs.Lists.{Differ, EachPair, has, same_text}
use Rattle.hs_expr.specs.Verdict.{each_from}

-- An item of a list has what all items have.
pub All-at : {A : Type 0} (P : A → Type 0) (xs : List A) (i : ℕ) (x : A) → All P xs → slice_get xs i ≡ Some x → P x
All-at P xs i x a at = subst P (get_or_from_slice_get xs i x x at) (a i x (slice_get_within xs i x at))

-- All items have what each has at its index.
pub All-from : {A : Type 0} (P : A → Type 0) (xs : List A) → ((i : ℕ) (x : A) → slice_get xs i ≡ Some x → P x) → All P xs
All-from P xs h = λ k d low. h k (get_or xs k d) (slice_get-get_or xs k d low)

-- Where the fact holds of an item, there is one.
pub item_at : {A : Type 0} (P : A → Type 0) (found : Option A) → IsSomeAnd found P → (x : A) × (found ≡ Some x) × P x
item_at P None h = absurd h
item_at P (Some x) h = (x, refl, h)

pub All-each_from : {A B : Type 0} (P : B → Type 0) (finds : ℕ → A → List B) (n : ℕ) (xs : List A) → ((i : ℕ) (x : A) → slice_get xs i ≡ Some x → All P (finds (n + i) x)) → All P (each_from finds n xs)
All-each_from P finds n [] h = All-nil P
All-each_from P finds n (x ∷ xs) h =
    All-append P (finds n x) (each_from finds (n + 1) xs)
    (subst (λ k. All P (finds k x)) (add-zero n) (h 0 x refl))
    (All-each_from P finds (n + 1) xs (λ i y at. subst (λ k. All P (finds k y)) (let e : n + suc i ≡ n + 1 + i = omega arith in e) (h (suc i) y at)))

-- No item is at two indices.
pub Differ-from : {A : Type 0} (xs : List A) → ((i j : ℕ) (x y : A) → i < j → slice_get xs i ≡ Some x → slice_get xs j ≡ Some y → x ≡ y → ⊥) → Differ xs
Differ-from [] h = tt
Differ-from {A} (x ∷ xs) h = (
  All-from (λ (y : A). x ≡ y → ⊥) xs (λ j y at. h 0 (suc j) x y (omega arith) refl at),
  Differ-from xs (λ i j y z low at_i at_j. h (suc i) (suc j) y z (omega arith) at_i at_j),
)

pub Differ-at : {A : Type 0} (xs : List A) → Differ xs → (i j : ℕ) (x y : A) → i < j → slice_get xs i ≡ Some x → slice_get xs j ≡ Some y → x ≡ y → ⊥
Differ-at [] d i j x y low at_i at_j same = cc
Differ-at {A} (z ∷ xs) d zero zero x y low at_i at_j same = absurd (omega arith)
Differ-at {A} (z ∷ xs) d zero (suc j) x y low at_i at_j same = All-at (λ (u : A). z ≡ u → ⊥) xs j y d.0 at_j (let e : z ≡ x = cc in e ∙ same)
Differ-at {A} (z ∷ xs) d (suc i) zero x y low at_i at_j same = absurd (omega arith)
Differ-at {A} (z ∷ xs) d (suc i) (suc j) x y low at_i at_j same = Differ-at xs d.1 i j x y (omega arith) at_i at_j same

pub has-append : (ms ns : List ℕ) (n : ℕ) → has (ms ++ ns) n ≡ (has ms n || has ns n)
has-append [] ns n = refl
has-append (m ∷ ms) ns n = ap (λ b. eqb n m || b) (has-append ms ns n) ∙ or_assoc (eqb n m) (has ms n) (has ns n)
  where
    or_assoc : (a b c : Bool) → (a || (b || c)) ≡ ((a || b) || c)
    or_assoc true b c = refl
    or_assoc false b c = refl

pub has_at : (ns : List ℕ) (i n : ℕ) → slice_get ns i ≡ Some n → has ns n ≡ true
has_at [] i n at = cc
has_at (m ∷ ns) zero n at = let same : m ≡ n = cc in or_left (eqb n m) (has ns n) (eq-eqb n m (sym same))
has_at (m ∷ ns) (suc i) n at = or_right (eqb n m) (has ns n) (has_at ns i n at)

pub has-filter : (p : ℕ → Bool) (ns : List ℕ) (n : ℕ) → has (filter p ns) n ≡ true → (has ns n ≡ true) × (p n ≡ true)
has-filter p [] n e = absurd (false≢true e)
has-filter p (m ∷ ns) n e = go (p m) refl e (has-filter p ns n)
  where
    go : (b : Bool) → p m ≡ b → has (cond b (m ∷ filter p ns) (filter p ns)) n ≡ true → (has (filter p ns) n ≡ true → (has ns n ≡ true) × (p n ≡ true)) → (has (m ∷ ns) n ≡ true) × (p n ≡ true)
    go true is e later = elim (or_cases (eqb n m) (has (filter p ns) n) e) [
      | inl same ↦ (or_left (eqb n m) (has ns n) same, ap p (eqb-true n m same) ∙ is)
      | inr there ↦ (or_right (eqb n m) (has ns n) (later there).0, (later there).1)
    ]
    go false is e later = (or_right (eqb n m) (has ns n) (later e).0, (later e).1)

pub has-kept : (p : ℕ → Bool) (ns : List ℕ) (n : ℕ) → has ns n ≡ true → p n ≡ true → has (filter p ns) n ≡ true
has-kept p [] n e h = e
has-kept p (m ∷ ns) n e h = go (p m) refl (or_cases (eqb n m) (has ns n) e) (λ there. has-kept p ns n there h)
  where
    go : (b : Bool) → p m ≡ b → (eqb n m ≡ true) ⊎ (has ns n ≡ true) → (has ns n ≡ true → has (filter p ns) n ≡ true) → has (cond b (m ∷ filter p ns) (filter p ns)) n ≡ true
    go true is (inl same) later = or_left (eqb n m) (has (filter p ns) n) same
    go true is (inr there) later = or_right (eqb n m) (has (filter p ns) n) (later there)
    go false is (inl same) later = absurd (false≢true (sym is ∙ ap p (sym (eqb-true n m same)) ∙ h))
    go false is (inr there) later = later there

-- What all pairs of items have that have these facts.
pub EachPair-all : {A : Type 0} (R : A → A → Type 0) (P : A → Type 0) → ((x y : A) → P x → P y → R x y) → (xs : List A) → All P xs → EachPair R xs
EachPair-all R P f [] a = tt
EachPair-all {A} R P f (x ∷ xs) a = (
  All-from (R x) xs (λ i y at. f x y (All-head P x xs a) (All-at P xs i y (All-tail P x xs a) at)),
  EachPair-all R P f xs (All-tail P x xs a),
)

pub All-across : {A : Type 0} (R : A → A → Type 0) (P Q : A → Type 0) → ((x y : A) → P x → Q y → R x y) → (xs ys : List A) → All P xs → All Q ys → All (λ x. All (R x) ys) xs
All-across {A} R P Q f xs ys a b = All-from (λ (x : A). All (R x) ys) xs (λ i x at_x. All-from (R x) ys (λ j y at_y. f x y (All-at P xs i x a at_x) (All-at Q ys j y b at_y)))

pub slice_get-take : {A : Type 0} (xs : List A) (n i : ℕ) → i < n → slice_get (take n xs) i ≡ slice_get xs i
slice_get-take xs zero i h = absurd (omega arith)
slice_get-take [] (suc n) i h = refl
slice_get-take (x ∷ xs) (suc n) zero h = refl
slice_get-take (x ∷ xs) (suc n) (suc i) h = slice_get-take xs n i (omega arith)

pub first_below : (b : Bool) (n len : ℕ) (any : Bool) → ltb n len ≡ any → ltb (cond (not b) (1 + n) 0) (suc len) ≡ (b || any)
first_below true n len any e = grind (arith, nat_tests)
first_below false n len any e = sym (sym e ∙ grind (arith, nat_tests))

pub below_any : {A : Type 0} (p : A → Bool) (xs : List A) → ltb (position_or_len p xs) (length xs) ≡ list_any p xs
below_any p [] = refl
below_any p (x ∷ xs) = first_below (p x) (position_or_len p xs) (length xs) (list_any p xs) (below_any p xs)

pub is_some-cond : {A : Type 0} (b : Bool) (x : A) → is_some (cond b (Some x) None) ≡ b
is_some-cond true x = refl
is_some-cond false x = refl

-- There is a first index exactly if an item passes.
pub is_some-position : {A : Type 0} (p : A → Bool) (xs : List A) → is_some (position p xs) ≡ list_any p xs
is_some-position p xs = is_some-cond (ltb (position_or_len p xs) (length xs)) (position_or_len p xs) ∙ below_any p xs

-- An item before an index below which no item passes doesn't pass.
pub none_before : {A : Type 0} (p : A → Bool) (xs : List A) (j i : ℕ) (x : A) → list_any p (take j xs) ≡ false → i < j → slice_get xs i ≡ Some x → p x ≡ false
none_before p [] j i x none low at = cc
none_before p (y ∷ xs) zero i x none low at = absurd (omega arith)
none_before p (y ∷ xs) (suc j) zero x none low at = let same : x ≡ y = cc in ap p same ∙ (or_parts (p y) (list_any p (take j xs)) none).0
none_before p (y ∷ xs) (suc j) (suc i) x none low at = none_before p xs j i x (or_parts (p y) (list_any p (take j xs)) none).1 (omega arith) at

-- An item that passes.
pub any_at : {A : Type 0} (p : A → Bool) (xs : List A) (i : ℕ) (x : A) → slice_get xs i ≡ Some x → p x ≡ true → list_any p xs ≡ true
any_at p [] i x at is = cc
any_at p (y ∷ xs) zero x at is = let same : y ≡ x = cc in or_left (p y) (list_any p xs) (ap p same ∙ is)
any_at p (y ∷ xs) (suc i) x at is = or_right (p y) (list_any p xs) (any_at p xs i x at is)

pub position_within : {A : Type 0} (p : A → Bool) (xs : List A) (n : ℕ) → position p xs ≡ Some n → n < length xs
position_within p xs n e = go (nat_lt (position_or_len p xs) (length xs)) refl e
  where
    go : (b : Bool) → nat_lt (position_or_len p xs) (length xs) ≡ b → cond b (Some (position_or_len p xs)) None ≡ Some n → n < length xs
    go true low e = subst (λ k. k < length xs) (same_Some (position_or_len p xs) n e) (ltb-true (position_or_len p xs) (length xs) low)
    go false low e = absurd (none-some n e)

pub find_none : {A : Type 0} (p : A → Bool) (xs : List A) → All (λ x. p x ≡ false) xs → find p xs ≡ None
find_none p [] a = refl
find_none {A} p (x ∷ xs) a = go (p x) (All-head (λ (x : A). p x ≡ false) x xs a) (find_none p xs (All-tail (λ (x : A). p x ≡ false) x xs a))
  where
    go : (b : Bool) → b ≡ false → find p xs ≡ None → cond b (Some x) (find p xs) ≡ None
    go true e rest = absurd (false≢true (sym e))
    go false e rest = rest

-- Tests that agree find the same.
pub find-same : {A : Type 0} (p q : A → Bool) (xs : List A) → ((x : A) → p x ≡ q x) → find p xs ≡ find q xs
find-same p q [] h = refl
find-same p q (x ∷ xs) h = rw (h x, find-same p q xs h) refl

-- One of the numbers passes.
pub one_passing : (p : ℕ → Bool) (ns : List ℕ) → list_any p ns ≡ true → (n : ℕ) × (has ns n ≡ true) × (p n ≡ true)
one_passing p [] e = absurd (false≢true e)
one_passing p (n ∷ ns) e = elim (or_cases (p n) (list_any p ns) e) [
  | inl here ↦ (n, or_left (eqb n n) (has ns n) (eq-eqb n n refl), here)
  | inr there ↦ let found = one_passing p ns there in (found.0, or_right (eqb found.0 n) (has ns found.0) found.1, found.2)
]

pub found-has : (p : ℕ → Bool) (ns : List ℕ) (n : ℕ) → find p ns ≡ Some n → has ns n ≡ true
found-has p [] n e = absurd (none-some n e)
found-has p (m ∷ ns) n e = elim (cases_Bool (p m)) [
  | inl passes ↦ let here : Some m ≡ Some n = rw passes at e in or_left (eqb n m) (has ns n) (eq-eqb n m (sym (same_Some m n here)))
  | inr fails ↦ let later : find p ns ≡ Some n = rw fails at e in or_right (eqb n m) (has ns n) (found-has p ns n later)
]

-- A range that is one number longer.
pub range-more : (from n : ℕ) → range_with_len from (suc n) ≡ range_with_len from n ++ (from + n) ∷ []
range-more from zero = ap (λ k. k ∷ []) (sym (add-zero from))
range-more from (suc n) = ap (λ ks. from ∷ ks) (range-more (from + 1) n ∙ ap (λ k. range_with_len (from + 1) n ++ k ∷ []) (let e : from + 1 + n ≡ from + suc n = omega arith in e))

-- Lists that are the same have the same first item and the same rest.
pub head_same : {A : Type 0} (x y : A) (xs ys : List A) → x ∷ xs ≡ y ∷ ys → x ≡ y
head_same x y xs ys e = cc

pub tail_same : {A : Type 0} (x y : A) (xs ys : List A) → x ∷ xs ≡ y ∷ ys → xs ≡ ys
tail_same x y xs ys e = cc

pub text_same : (s t : List ℕ) → same_text s t ≡ true → s ≡ t
text_same s t e = (bytes_decides s t).0 e

pub same_text-from : (s t : List ℕ) → s ≡ t → same_text s t ≡ true
same_text-from s t e = (bytes_decides s t).1 e

pub option_map-some : {A B : Type 0} (f : A → B) (o : Option A) (y : B) → option_map f o ≡ Some y → (x : A) × (o ≡ Some x) × (f x ≡ y)
option_map-some f None y e = absurd (none-some y e)
option_map-some f (Some x) y e = (x, refl, same_Some (f x) y e)

pub same_text-itself : (t : List ℕ) → same_text t t ≡ true
same_text-itself t = nat_list_eq_equiv.refl t

-- A number of a range that passes.
pub any_in_range : (p : ℕ → Bool) (n k : ℕ) → k < n → p k ≡ true → list_any p (range_with_len 0 n) ≡ true
any_in_range p n k low is =
    let within : k < length (range_with_len 0 n) = rw (length-range_with_len 0 n) low in
    let there : get_or (range_with_len 0 n) k 0 ≡ k = get_or-range_with_len 0 n k 0 low ∙ omega arith in
    list_any_at p (range_with_len 0 n) k 0 within (ap p there ∙ is)
