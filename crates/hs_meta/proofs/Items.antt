-- Items of lists: what holds of each, what differs, and at which places they are.
use Rattle.std.proofs.Common.{ℕ, zero, suc, ◌+◌, ◌<◌, ◌≤◌, ◌≡◌, ◌⊎◌, ◌++◌, List, [], ◌∷◌, Bool, true, false, cond, not, eqb, map, length, get_or, slice_get, Some, refl, ap, sym, ◌∙◌, arith, inl, inr, add-zero}
use Rattle.std.proofs.lemmas.Bool.{false≢true, eq-eqb, eqb-true, eqb-false, ne_eqb, not-true, or_cases, or_left, or_parts, or_right}
use Rattle.std.proofs.lemmas.List.Elements.{All-cons, All-filter, All-head, All-nil, All-tail, All-weaker, filter_passes}
use Rattle.std.proofs.lemmas.List.Sums.{count_by-le-length, length-filter}
use Rattle.std.specs.List.{All, AllPairs, filter, flat_map, range_with_len}
use Rattle.hs_expr.specs.Verdict.{each_from}
use Rattle.hs_expr.specs.Lists.{Differ, EachPair, each_once, has, places_from}
use Rattle.hs_expr.proofs.Items.{has-append, has-filter, has-kept}
use Rattle.hs_expr.proofs.Lists.{All-has}

-- ---- lists that are made item by item

pub length-each_one : {A B : Type 0} (make : ℕ → A → B) (n : ℕ) (xs : List A) → length (each_from (λ k x. make k x ∷ []) n xs) ≡ length xs
length-each_one make n [] = refl
length-each_one make n (x ∷ xs) = ap suc (length-each_one make (n + 1) xs)

one_at : {A B : Type 0} (make : ℕ → A → B) (n : ℕ) (xs : List A) (i : ℕ) (x : A) → slice_get xs i ≡ Some x → slice_get (each_from (λ k x. make k x ∷ []) n xs) i ≡ Some (make (n + i) x)
one_at make n [] i x at = cc
one_at make n (y ∷ xs) zero x at = let same : y ≡ x = cc in ap (λ z. Some (make n z)) same ∙ ap (λ k. Some (make k x)) (sym (add-zero n))
one_at make n (y ∷ xs) (suc i) x at = one_at make (n + 1) xs i x at ∙ ap (λ k. Some (make k x)) (let e : n + 1 + i ≡ n + suc i = omega arith in e)

-- What is made of the item at a place.
pub each_one_at : {A B : Type 0} (make : ℕ → A → B) (xs : List A) (i : ℕ) (x : A) → slice_get xs i ≡ Some x → slice_get (each_from (λ k x. make k x ∷ []) 0 xs) i ≡ Some (make i x)
each_one_at make xs i x at = one_at make 0 xs i x at ∙ ap (λ k. Some (make k x)) (let e : 0 + i ≡ i = omega arith in e)

pub map-each_one : {A B C : Type 0} (f : B → C) (g : A → C) (make : ℕ → A → B) (n : ℕ) (xs : List A) → ((k : ℕ) (x : A) → f (make k x) ≡ g x) → map f (each_from (λ k x. make k x ∷ []) n xs) ≡ map g xs
map-each_one f g make n [] h = refl
map-each_one f g make n (x ∷ xs) h = ap (λ y. y ∷ map f (each_from (λ k x. make k x ∷ []) (n + 1) xs)) (h n x) ∙ ap (λ ys. g x ∷ ys) (map-each_one f g make (n + 1) xs h)

-- ---- items that differ

pub AllPairs-from : {A : Type 0} (R : A → A → Type 0) (xs : List A) → EachPair R xs → AllPairs R xs
AllPairs-from R [] e = λ i j d a b. absurd (omega arith)
AllPairs-from R (x ∷ xs) e = λ i j d a b. pair_at R x xs e (AllPairs-from R xs e.1) i j d a b where
  pair_at : {A : Type 0} (R : A → A → Type 0) (x : A) (xs : List A) → EachPair R (x ∷ xs) → AllPairs R xs → (i j : ℕ) (d : A) → i < j → j < length (x ∷ xs) → R (get_or (x ∷ xs) i d) (get_or (x ∷ xs) j d)
  pair_at R x xs e rest i zero d a b = absurd (omega arith)
  pair_at R x xs e rest zero (suc j) d a b = e.0 j d (omega arith)
  pair_at R x xs e rest (suc i) (suc j) d a b = rest i j d (omega arith) (omega arith)

-- ---- numbers among others

apart : (n : ℕ) (ns : List ℕ) → has ns n ≡ false → All (λ k. n ≡ k → ⊥) ns
apart n [] e = All-nil (λ k. n ≡ k → ⊥)
apart n (m ∷ ns) e = let parts = or_parts (eqb n m) (has ns n) e in All-cons (λ k. n ≡ k → ⊥) m ns (eqb-false n m parts.0) (apart n ns parts.1)

absent : (n : ℕ) (ns : List ℕ) → All (λ k. n ≡ k → ⊥) ns → (k : ℕ) → has ns k ≡ true → not (eqb k n) ≡ true
absent n ns a k e = ap not (ne_eqb k n (λ same. All-has (λ k. n ≡ k → ⊥) ns k a e (sym same)))

pub Differ-filter : (p : ℕ → Bool) (ns : List ℕ) → Differ ns → Differ (filter p ns)
Differ-filter p [] d = tt
Differ-filter p (n ∷ ns) d = go (p n) (Differ-filter p ns d.1) (All-filter p (λ k. n ≡ k → ⊥) ns d.0)
  where
    go : (b : Bool) → Differ (filter p ns) → All (λ k. n ≡ k → ⊥) (filter p ns) → Differ (cond b (n ∷ filter p ns) (filter p ns))
    go true rest a = (a, rest)
    go false rest a = rest

pub Differ-each_once : (ns : List ℕ) → Differ (each_once ns)
Differ-each_once [] = tt
Differ-each_once (n ∷ ns) = (
  All-weaker (λ k. not (eqb k n) ≡ true) (λ k. n ≡ k → ⊥) (λ k e same. eqb-false k n (not-true (eqb k n) e) (sym same)) (filter (λ k. not (eqb k n)) (each_once ns)) (filter_passes (λ k. not (eqb k n)) (each_once ns)),
  Differ-filter (λ k. not (eqb k n)) (each_once ns) (Differ-each_once ns),
)

pub has-each_once : (ns : List ℕ) (k : ℕ) → has (each_once ns) k ≡ true → has ns k ≡ true
has-each_once [] k e = e
has-each_once (n ∷ ns) k e = elim (or_cases (eqb k n) (has (filter (λ j. not (eqb j n)) (each_once ns)) k) e) [
  | inl same ↦ or_left (eqb k n) (has ns k) same
  | inr there ↦ or_right (eqb k n) (has ns k) (has-each_once ns k (has-filter (λ j. not (eqb j n)) (each_once ns) k there).0)
]

pub has-flat_map : (f : ℕ → List ℕ) (ns : List ℕ) (k : ℕ) → has (flat_map f ns) k ≡ true → (n : ℕ) × (has ns n ≡ true) × (has (f n) k ≡ true)
has-flat_map f [] k e = absurd (false≢true e)
has-flat_map f (n ∷ ns) k e = elim (or_cases (has (f n) k) (has (flat_map f ns) k) (sym (has-append (f n) (flat_map f ns) k) ∙ e)) [
  | inl here ↦ (n, or_left (eqb n n) (has ns n) (eq-eqb n n refl), here)
  | inr there ↦ let found = has-flat_map f ns k there in (found.0, or_right (eqb found.0 n) (has ns found.0) found.1, found.2)
]

range_apart : (a n k : ℕ) → a < n → All (λ m. a ≡ m → ⊥) (range_with_len n k)
range_apart a n zero h = All-nil (λ m. a ≡ m → ⊥)
range_apart a n (suc k) h = All-cons (λ m. a ≡ m → ⊥) n (range_with_len (n + 1) k) (λ e. absurd (omega arith)) (range_apart a (n + 1) k (omega arith))

pub Differ-range : (n k : ℕ) → Differ (range_with_len n k)
Differ-range n zero = tt
Differ-range n (suc k) = (range_apart n (n + 1) k (omega arith), Differ-range (n + 1) k)

fewer_without : (ns : List ℕ) (n : ℕ) → has ns n ≡ true → length (filter (λ k. not (eqb k n)) ns) < length ns
fewer_without [] n e = absurd (false≢true e)
fewer_without (m ∷ ns) n e = go (eqb m n) refl (or_cases (eqb n m) (has ns n) e) (fewer_without ns n) (no_more (λ k. not (eqb k n)) ns)
  where
    no_more : (p : ℕ → Bool) (ns : List ℕ) → length (filter p ns) ≤ length ns
    no_more p ns = omega (arith, length-filter p ns, count_by-le-length p ns)

    go : (b : Bool) → eqb m n ≡ b → (eqb n m ≡ true) ⊎ (has ns n ≡ true) → (has ns n ≡ true → length (filter (λ k. not (eqb k n)) ns) < length ns) → length (filter (λ k. not (eqb k n)) ns) ≤ length ns →
        length (cond (not b) (m ∷ filter (λ k. not (eqb k n)) ns) (filter (λ k. not (eqb k n)) ns)) < suc (length ns)
    go true is found later few = omega arith
    go false is (inl same) later few = absurd (eqb-false m n is (sym (eqb-true n m same)))
    go false is (inr there) later few = let l = later there in omega arith

-- Numbers that differ and are all among others are no more than those.
pub no_more_than : (ms ns : List ℕ) → Differ ms → ((n : ℕ) → has ms n ≡ true → has ns n ≡ true) → length ms ≤ length ns
no_more_than [] ns d h = omega arith
no_more_than (m ∷ ms) ns d h =
    let rest = no_more_than ms (filter (λ k. not (eqb k m)) ns) d.1
    (λ k e. has-kept (λ k. not (eqb k m)) ns k (h k (or_right (eqb k m) (has ms k) e)) (absent m ms d.0 k e)) in
    let fewer = fewer_without ns m (h m (or_left (eqb m m) (has ms m) (eq-eqb m m refl))) in
    omega arith

-- ---- places

pub places-append : {A : Type 0} (n : ℕ) (t : A → Bool) (xs ys : List A) → places_from n t (xs ++ ys) ≡ places_from n t xs ++ places_from (n + length xs) t ys
places-append n t [] ys = ap (λ k. places_from k t ys) (sym (add-zero n))
places-append n t (x ∷ xs) ys =
    let rest : places_from (n + 1) t (xs ++ ys) ≡ places_from (n + 1) t xs ++ places_from (n + suc (length xs)) t ys =
    places-append (n + 1) t xs ys ∙ ap (λ k. places_from (n + 1) t xs ++ places_from k t ys) (let e : n + 1 + length xs ≡ n + suc (length xs) = omega arith in e) in
    elim (t x) as (λ b. cond b (n ∷ places_from (n + 1) t (xs ++ ys)) (places_from (n + 1) t (xs ++ ys)) ≡ cond b (n ∷ places_from (n + 1) t xs) (places_from (n + 1) t xs) ++ places_from (n + suc (length xs)) t ys) [
      | true ↦ ap (λ ks. n ∷ ks) rest
      | false ↦ rest
    ]

pub places-none : {A : Type 0} (n : ℕ) (t : A → Bool) (xs : List A) → All (λ x. t x ≡ false) xs → places_from n t xs ≡ []
places-none n t [] a = refl
places-none n t (x ∷ xs) a = rw (All-head (λ x. t x ≡ false) x xs a) (places-none (n + 1) t xs (All-tail (λ x. t x ≡ false) x xs a))

pub places-every : {A : Type 0} (n : ℕ) (t : A → Bool) (xs : List A) → All (λ x. t x ≡ true) xs → places_from n t xs ≡ range_with_len n (length xs)
places-every n t [] a = refl
places-every n t (x ∷ xs) a = rw (All-head (λ x. t x ≡ true) x xs a) (ap (λ ks. n ∷ ks) (places-every (n + 1) t xs (All-tail (λ x. t x ≡ true) x xs a)))

-- What is at a number that is a place.
place_from : {A : Type 0} (n : ℕ) (t : A → Bool) (xs : List A) (k : ℕ) → has (places_from n t xs) k ≡ true → (i : ℕ) × (x : A) × (k ≡ n + i) × (slice_get xs i ≡ Some x) × (t x ≡ true)
place_from n t [] k e = absurd (false≢true e)
place_from {A} n t (x ∷ xs) k e = go (t x) refl e (place_from (n + 1) t xs k)
  where
    later : ((i : ℕ) × (y : A) × (k ≡ n + 1 + i) × (slice_get xs i ≡ Some y) × (t y ≡ true)) → (i : ℕ) × (y : A) × (k ≡ n + i) × (slice_get (x ∷ xs) i ≡ Some y) × (t y ≡ true)
    later (i, y, same, at, is) = (suc i, y, omega arith, at, is)

    go : (b : Bool) → t x ≡ b → has (cond b (n ∷ places_from (n + 1) t xs) (places_from (n + 1) t xs)) k ≡ true → (has (places_from (n + 1) t xs) k ≡ true → (i : ℕ) × (y : A) × (k ≡ n + 1 + i) × (slice_get xs i ≡ Some y) × (t y ≡ true)) →
        (i : ℕ) × (y : A) × (k ≡ n + i) × (slice_get (x ∷ xs) i ≡ Some y) × (t y ≡ true)
    go true is e rest = elim (or_cases (eqb k n) (has (places_from (n + 1) t xs) k) e) [
      | inl same ↦ (0, x, eqb-true k n same ∙ sym (add-zero n), refl, is)
      | inr there ↦ later (rest there)
    ]
    go false is e rest = later (rest e)

pub place_at : {A : Type 0} (t : A → Bool) (xs : List A) (k : ℕ) → has (places_from 0 t xs) k ≡ true → (x : A) × (slice_get xs k ≡ Some x) × (t x ≡ true)
place_at t xs k e =
    let found = place_from 0 t xs k e in
    let same : found.0 ≡ k = omega (arith, found.2) in
    (found.1, ap (slice_get xs) (sym same) ∙ found.3, found.4)

has_place : {A : Type 0} (n : ℕ) (t : A → Bool) (xs : List A) (i : ℕ) (x : A) → slice_get xs i ≡ Some x → t x ≡ true → has (places_from n t xs) (n + i) ≡ true
has_place n t [] i x at is = cc
has_place n t (y ∷ xs) zero x at is =
    let same : y ≡ x = cc in
    rw (ap t same ∙ is) (or_left (eqb (n + 0) n) (has (places_from (n + 1) t xs) (n + 0)) (eq-eqb (n + 0) n (add-zero n)))
has_place n t (y ∷ xs) (suc i) x at is =
    let rest : has (places_from (n + 1) t xs) (n + suc i) ≡ true = ap (has (places_from (n + 1) t xs)) (let e : n + suc i ≡ n + 1 + i = omega arith in e) ∙ has_place (n + 1) t xs i x at is in
    elim (t y) as (λ b. has (cond b (n ∷ places_from (n + 1) t xs) (places_from (n + 1) t xs)) (n + suc i) ≡ true) [
      | true ↦ or_right (eqb (n + suc i) n) (has (places_from (n + 1) t xs) (n + suc i)) rest
      | false ↦ rest
    ]

pub at_place : {A : Type 0} (t : A → Bool) (xs : List A) (k : ℕ) (x : A) → slice_get xs k ≡ Some x → t x ≡ true → has (places_from 0 t xs) k ≡ true
at_place t xs k x at is = ap (has (places_from 0 t xs)) (let e : k ≡ 0 + k = omega arith in e) ∙ has_place 0 t xs k x at is

pub length-places : {A : Type 0} (n : ℕ) (t : A → Bool) (xs : List A) → length (places_from n t xs) ≡ length (filter t xs)
length-places n t [] = refl
length-places n t (x ∷ xs) =
    let rest = length-places (n + 1) t xs in
    elim (t x) as (λ b. length (cond b (n ∷ places_from (n + 1) t xs) (places_from (n + 1) t xs)) ≡ length (cond b (x ∷ filter t xs) (filter t xs))) [
      | true ↦ ap suc rest
      | false ↦ rest
    ]

-- ---- first places
