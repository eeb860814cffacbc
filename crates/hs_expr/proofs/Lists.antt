-- Lemmas on the words on lists.
use Rattle.std.proofs.Common.{ℕ, suc, zero, ◌+◌, ◌-◌, ◌<◌, ◌≤◌, ◌≡◌, ◌⊎◌, inl, inr, List, [], ◌∷◌, ◌++◌, map, length, get_or, Bool, true, false, eqb, Option, Some, None, IsSomeAnd, slice_get, refl, sym, ap, ◌∙◌, subst, arith, zero-add}
use Rattle.std.specs.List.{All, AllByRecursion, AllZip, filter, filter_map, find, flat_map}
use Rattle.std.specs.Option.{option_map}
use Rattle.std.proofs.lemmas.Bool.{eqb-true, eq-eqb, ne_eqb, cases_Bool, both_ways, or_cases, or_right, or_left, or_from, cond-true, cond-false, false_from_ne_true}
use Rattle.std.proofs.lemmas.List.Elements.{All-nil, All-cons, All-head, All-tail, All-append, All-weaker, All-filter}
use Rattle.hs_expr.specs.Lists.{has, beside, Apart, Differ, EachPair, Rise}

-- What the test finds passes it, and has what all items have.
pub find-passes : {A : Type 0} (p : A → Bool) (xs : List A) (x : A) → find p xs ≡ Some x → p x ≡ true
find-passes p [] x h = absurd (cc)
find-passes {A} p (y ∷ ys) x h = elim (cases_Bool (p y)) [
  | inl e ↦ let k : Some y ≡ Some x = sym (cond-true (p y) (Some y) (find p ys) e) ∙ h in let same : y ≡ x = cc in rw (← same) e
  | inr e ↦ find-passes p ys x (sym (cond-false (p y) (Some y) (find p ys) e) ∙ h)
]

pub All-find : {A : Type 0} (P : A → Type 0) (p : A → Bool) (xs : List A) (x : A) → All P xs → find p xs ≡ Some x → P x
All-find P p [] x a h = absurd (cc)
All-find {A} P p (y ∷ ys) x a h = elim (cases_Bool (p y)) [
  | inl e ↦ let k : Some y ≡ Some x = sym (cond-true (p y) (Some y) (find p ys) e) ∙ h in let same : y ≡ x = cc in subst P same (All-head P y ys a)
  | inr e ↦ All-find P p ys x (All-tail P y ys a) (sym (cond-false (p y) (Some y) (find p ys) e) ∙ h)
]

pub find-map : {A B : Type 0} (p : B → Bool) (f : A → B) (xs : List A) → find p (map f xs) ≡ option_map f (find (λ x. p (f x)) xs)
find-map p f [] = refl
find-map p f (x ∷ xs) = elim (cases_Bool (p (f x))) [
  | inl e ↦ rw e refl
  | inr e ↦ rw e (find-map p f xs)
]

-- What holds of those that pass.
pub All-kept : {A : Type 0} (P Q : A → Type 0) (q : A → Bool) (xs : List A) → ((x : A) → q x ≡ true → P x → Q x) → All P xs → All Q (filter q xs)
All-kept P Q q [] f a = All-nil Q
All-kept P Q q (x ∷ xs) f a = elim (cases_Bool (q x)) [
  | inl e ↦ rw e (All-cons Q x (filter q xs) (f x e (All-head P x xs a)) (All-kept P Q q xs f (All-tail P x xs a)))
  | inr e ↦ rw e (All-kept P Q q xs f (All-tail P x xs a))
]

-- What holds of those that pass holds of each that passes.
pub All-of_filter : {A : Type 0} (P : A → Type 0) (q : A → Bool) (xs : List A) → All P (filter q xs) → All (λ x. q x ≡ true → P x) xs
All-of_filter P q [] a = All-nil (λ x. q x ≡ true → P x)
All-of_filter P q (x ∷ xs) a = elim (cases_Bool (q x)) [
  | inl e ↦ let k : All P (x ∷ filter q xs) = rw e at a in All-cons (λ x. q x ≡ true → P x) x xs (λ t. All-head P x (filter q xs) k) (All-of_filter P q xs (All-tail P x (filter q xs) k))
  | inr e ↦ All-cons (λ x. q x ≡ true → P x) x xs (λ t. absurd (both_ways (q x) e t)) (All-of_filter P q xs (rw e at a))
]

pub All-both : {A : Type 0} (P Q : A → Type 0) (xs : List A) → All P xs → All Q xs → All (λ x. P x × Q x) xs
All-both P Q xs a b k d l = (a k d l, b k d l)

pub All-each : {A : Type 0} (P : A → Type 0) (xs : List A) → ((x : A) → P x) → All P xs
All-each P xs f k d l = f (get_or xs k d)

pub All-front : {A : Type 0} (P : A → Type 0) (xs ys : List A) → All P (xs ++ ys) → All P xs
All-front P [] ys a = All-nil P
All-front P (x ∷ xs) ys a = All-cons P x xs (All-head P x (xs ++ ys) a) (All-front P xs ys (All-tail P x (xs ++ ys) a))

pub All-rest_of : {A : Type 0} (P : A → Type 0) (xs ys : List A) → All P (xs ++ ys) → All P ys
All-rest_of P [] ys a = a
All-rest_of P (x ∷ xs) ys a = All-rest_of P xs ys (All-tail P x (xs ++ ys) a)

pub All-of_map : {A B : Type 0} (P : B → Type 0) (f : A → B) (xs : List A) → All P (map f xs) → All (λ x. P (f x)) xs
All-of_map P f [] a = All-nil (λ x. P (f x))
All-of_map P f (x ∷ xs) a = All-cons (λ x. P (f x)) x xs (All-head P (f x) (map f xs) a) (All-of_map P f xs (All-tail P (f x) (map f xs) a))

pub All-flat_map : {A B : Type 0} (P : B → Type 0) (f : A → List B) (xs : List A) → All (λ x. All P (f x)) xs → All P (flat_map f xs)
All-flat_map P f [] a = All-nil P
All-flat_map P f (x ∷ xs) a = All-append P (f x) (flat_map f xs) (All-head (λ x. All P (f x)) x xs a) (All-flat_map P f xs (All-tail (λ x. All P (f x)) x xs a))

pub All-of_flat_map : {A B : Type 0} (P : B → Type 0) (f : A → List B) (xs : List A) → All P (flat_map f xs) → All (λ x. All P (f x)) xs
All-of_flat_map P f [] a = All-nil (λ x. All P (f x))
All-of_flat_map P f (x ∷ xs) a = All-cons (λ x. All P (f x)) x xs (All-front P (f x) (flat_map f xs) a) (All-of_flat_map P f xs (All-rest_of P (f x) (flat_map f xs) a))

pub All-filter_map : {A B : Type 0} (P : B → Type 0) (f : A → Option B) (xs : List A) → All (λ x. (y : B) → f x ≡ Some y → P y) xs → All P (filter_map f xs)
All-filter_map P f [] a = All-nil P
All-filter_map {A} {B} P f (x ∷ xs) a = go (All-filter_map P f xs (All-tail Q x xs a)) (f x) refl
  where
    Q : A → Type 0
    Q x = (y : B) → f x ≡ Some y → P y

    go : All P (filter_map f xs) → (o : Option B) → f x ≡ o → All P (filter_map f (x ∷ xs))
    go rest None e = rw e rest
    go rest (Some y) e = rw e (All-cons P y (filter_map f xs) (All-head Q x xs a y e) rest)

-- What f and h give the same of, item by item.
pub filter_map-same : {A B : Type 0} (f h : A → Option B) (xs : List A) → All (λ x. f x ≡ h x) xs → filter_map f xs ≡ filter_map h xs
filter_map-same f h [] a = refl
filter_map-same f h (x ∷ xs) a = rw (All-head (λ x. f x ≡ h x) x xs a, filter_map-same f h xs (All-tail (λ x. f x ≡ h x) x xs a)) refl

pub map-same : {A B : Type 0} (f h : A → B) (xs : List A) → All (λ x. f x ≡ h x) xs → map f xs ≡ map h xs
map-same f h [] a = refl
map-same f h (x ∷ xs) a = rw (All-head (λ x. f x ≡ h x) x xs a, map-same f h xs (All-tail (λ x. f x ≡ h x) x xs a)) refl

pub flat_map-same : {A B : Type 0} (f h : A → List B) (xs : List A) → All (λ x. f x ≡ h x) xs → flat_map f xs ≡ flat_map h xs
flat_map-same f h [] a = refl
flat_map-same f h (x ∷ xs) a = rw (All-head (λ x. f x ≡ h x) x xs a, flat_map-same f h xs (All-tail (λ x. f x ≡ h x) x xs a)) refl

pub map-append : {A B : Type 0} (f : A → B) (xs ys : List A) → map f (xs ++ ys) ≡ map f xs ++ map f ys
map-append f [] ys = refl
map-append f (x ∷ xs) ys = ap (λ l. f x ∷ l) (map-append f xs ys)

-- One of the numbers.
pub has-here : (n : ℕ) (ns : List ℕ) → has (n ∷ ns) n ≡ true
has-here n ns = or_left (eqb n n) (has ns n) (eq-eqb n n refl)

pub has-later : (n m : ℕ) (ns : List ℕ) → has ns n ≡ true → has (m ∷ ns) n ≡ true
has-later n m ns h = or_right (eqb n m) (has ns n) h

pub has_cases : (n m : ℕ) (ns : List ℕ) → has (m ∷ ns) n ≡ true → (n ≡ m) ⊎ (has ns n ≡ true)
has_cases n m ns h = elim (or_cases (eqb n m) (has ns n) h) [ inl e ↦ inl (eqb-true n m e) | inr e ↦ inr e ]

pub has-append_left : (n : ℕ) (ms ns : List ℕ) → has ms n ≡ true → has (ms ++ ns) n ≡ true
has-append_left n [] ns h = absurd (both_ways false refl h)
has-append_left n (m ∷ ms) ns h = elim (has_cases n m ms h) [
  | inl e ↦ or_left (eqb n m) (has (ms ++ ns) n) (eq-eqb n m e)
  | inr l ↦ has-later n m (ms ++ ns) (has-append_left n ms ns l)
]

pub has-append_right : (n : ℕ) (ms ns : List ℕ) → has ns n ≡ true → has (ms ++ ns) n ≡ true
has-append_right n [] ns h = h
has-append_right n (m ∷ ms) ns h = has-later n m (ms ++ ns) (has-append_right n ms ns h)

pub has-append_cases : (n : ℕ) (ms ns : List ℕ) → has (ms ++ ns) n ≡ true → (has ms n ≡ true) ⊎ (has ns n ≡ true)
has-append_cases n [] ns h = inr h
has-append_cases n (m ∷ ms) ns h = elim (has_cases n m (ms ++ ns) h) [
  | inl e ↦ inl (or_left (eqb n m) (has ms n) (eq-eqb n m e))
  | inr l ↦ elim (has-append_cases n ms ns l) [ inl k ↦ inl (has-later n m ms k) | inr k ↦ inr k ]
]

pub has-neither : (n : ℕ) (ms ns : List ℕ) → has ms n ≡ false → has ns n ≡ false → has (ms ++ ns) n ≡ false
has-neither n ms ns a b = false_from_ne_true (has (ms ++ ns) n) (λ h. elim (has-append_cases n ms ns h) [ inl k ↦ both_ways (has ms n) a k | inr k ↦ both_ways (has ns n) b k ])

-- What holds of each number holds of one of them.
pub All-has : (P : ℕ → Type 0) (ns : List ℕ) (n : ℕ) → All P ns → has ns n ≡ true → P n
All-has P [] n a h = absurd (both_ways false refl h)
All-has P (m ∷ ns) n a h = elim (has_cases n m ns h) [ inl e ↦ subst P (sym e) (All-head P m ns a) | inr l ↦ All-has P ns n (All-tail P m ns a) l ]

pub All-by_has : (P : ℕ → Type 0) (ns : List ℕ) → ((n : ℕ) → has ns n ≡ true → P n) → All P ns
All-by_has P [] f = All-nil P
All-by_has P (n ∷ ns) f = All-cons P n ns (f n (has-here n ns)) (All-by_has P ns (λ m h. f m (has-later m n ns h)))

pub Apart-has : (ms ns : List ℕ) (n : ℕ) → Apart ms ns → has ms n ≡ true → has ns n ≡ false
Apart-has ms ns n a h = All-has (λ n. has ns n ≡ false) ms n a h

pub Apart-other_way : (ms ns : List ℕ) (n : ℕ) → Apart ms ns → has ns n ≡ true → has ms n ≡ false
Apart-other_way ms ns n a h = false_from_ne_true (has ms n) (λ k. both_ways (has ns n) (Apart-has ms ns n a k) h)

-- Rising lists.
pub Rise_within : (low : ℕ) (ns : List ℕ) (high : ℕ) → Rise low ns high → low ≤ high
Rise_within low [] high r = r
Rise_within low (n ∷ ns) high r = omega (arith, Rise_within (n + 1) ns high r.1)

pub Rise-lower : (a low : ℕ) (ns : List ℕ) (high : ℕ) → a ≤ low → Rise low ns high → Rise a ns high
Rise-lower a low [] high l r = omega arith
Rise-lower a low (n ∷ ns) high l r = (omega arith, r.1)

pub Rise-append : (low : ℕ) (ms : List ℕ) (mid : ℕ) (ns : List ℕ) (high : ℕ) → Rise low ms mid → Rise mid ns high → Rise low (ms ++ ns) high
Rise-append low [] mid ns high a b = Rise-lower low mid ns high a b
Rise-append low (m ∷ ms) mid ns high a b = (a.0, Rise-append (m + 1) ms mid ns high a.1 b)

pub Rise-filter : {A : Type 0} (f : A → ℕ) (q : A → Bool) (low : ℕ) (xs : List A) (high : ℕ) → Rise low (map f xs) high → Rise low (map f (filter q xs)) high
Rise-filter f q low [] high r = r
Rise-filter f q low (x ∷ xs) high r = elim (cases_Bool (q x)) [
  | inl e ↦ rw e (r.0, Rise-filter f q (f x + 1) xs high r.1)
  | inr e ↦ rw e (Rise-filter f q low xs high (Rise-lower low (f x + 1) (map f xs) high (omega arith) r.1))
]

-- What is found is below the end; below the beginning, and from the end on, nothing is found.
pub Rise-found : {A : Type 0} (f : A → ℕ) (low : ℕ) (xs : List A) (high n : ℕ) (x : A) → Rise low (map f xs) high → find (λ x. eqb (f x) n) xs ≡ Some x → n < high
Rise-found f low [] high n x r h = absurd (cc)
Rise-found f low (y ∷ ys) high n x r h = elim (cases_Bool (eqb (f y) n)) [
  | inl e ↦ omega (arith, eqb-true (f y) n e, Rise_within (f y + 1) (map f ys) high r.1)
  | inr e ↦ Rise-found f (f y + 1) ys high n x r.1 (sym (cond-false (eqb (f y) n) (Some y) (find (λ x. eqb (f x) n) ys) e) ∙ h)
]

pub Rise_missing : {A : Type 0} (f : A → ℕ) (low : ℕ) (xs : List A) (high n : ℕ) → n < low → Rise low (map f xs) high → find (λ x. eqb (f x) n) xs ≡ None
Rise_missing f low [] high n l r = refl
Rise_missing f low (y ∷ ys) high n l r = rw (ne_eqb (f y) n (λ e. omega arith)) (Rise_missing f (f y + 1) ys high n (omega arith) r.1)

pub Rise_past : {A : Type 0} (f : A → ℕ) (low : ℕ) (xs : List A) (high n : ℕ) → Rise low (map f xs) high → high ≤ n → find (λ x. eqb (f x) n) xs ≡ None
Rise_past f low [] high n r l = refl
Rise_past f low (x ∷ xs) high n r l = rw (ne_eqb (f x) n (λ e. omega (arith, Rise_within (f x + 1) (map f xs) high r.1))) (Rise_past f (f x + 1) xs high n r.1 l)

-- Each item is what is found at its number.
pub Rise-at : {A : Type 0} (f : A → ℕ) (low : ℕ) (xs : List A) (high : ℕ) → Rise low (map f xs) high → All (λ x. (low ≤ f x) × (find (λ y. eqb (f y) (f x)) xs ≡ Some x)) xs
Rise-at f low [] high r = All-nil (λ x. (low ≤ f x) × (find (λ y. eqb (f y) (f x)) [] ≡ Some x))
Rise-at f low (y ∷ ys) high r = All-cons (λ x. (low ≤ f x) × (find (λ z. eqb (f z) (f x)) (y ∷ ys) ≡ Some x)) y ys (r.0, rw (eq-eqb (f y) (f y) refl) refl)
    (All-weaker (λ x. (f y + 1 ≤ f x) × (find (λ z. eqb (f z) (f x)) ys ≡ Some x)) (λ x. (low ≤ f x) × (find (λ z. eqb (f z) (f x)) (y ∷ ys) ≡ Some x)) (λ x h. (omega (arith, h.0, r.0), rw (ne_eqb (f y) (f x) (λ e. omega (arith, h.0))) h.1)) ys (Rise-at f (f y + 1) ys high r.1))

-- Relations place by place. One in the place of another, at numbers or items of which a fact holds.
pub AllZip-with : {A : Type 0} (P : ℕ → Type 0) (R S : A → ℕ → Type 0) → ((x : A) (n : ℕ) → P n → R x n → S x n) → (xs : List A) (ns : List ℕ) → All P ns → AllZip R xs ns → AllZip S xs ns
AllZip-with P R S f [] [] a h = tt
AllZip-with P R S f [] (n ∷ ns) a h = absurd h
AllZip-with P R S f (x ∷ xs) [] a h = absurd h
AllZip-with P R S f (x ∷ xs) (n ∷ ns) a h = (f x n (All-head P n ns a) h.0, AllZip-with P R S f xs ns (All-tail P n ns a) h.1)

pub AllZip-items : {A : Type 0} (P : A → Type 0) (R S : A → ℕ → Type 0) → ((x : A) (n : ℕ) → P x → R x n → S x n) → (xs : List A) (ns : List ℕ) → All P xs → AllZip R xs ns → AllZip S xs ns
AllZip-items P R S f [] [] a h = tt
AllZip-items P R S f [] (n ∷ ns) a h = absurd h
AllZip-items P R S f (x ∷ xs) [] a h = absurd h
AllZip-items P R S f (x ∷ xs) (n ∷ ns) a h = (f x n (All-head P x xs a) h.0, AllZip-items P R S f xs ns (All-tail P x xs a) h.1)

pub AllZip-right : {A B : Type 0} (R : A → B → Type 0) (P : B → Type 0) → ((x : A) (n : B) → R x n → P n) → (xs : List A) (ns : List B) → AllZip R xs ns → All P ns
AllZip-right R P f [] [] h = All-nil P
AllZip-right R P f [] (n ∷ ns) h = absurd h
AllZip-right R P f (x ∷ xs) [] h = absurd h
AllZip-right R P f (x ∷ xs) (n ∷ ns) h = All-cons P n ns (f x n h.0) (AllZip-right R P f xs ns h.1)

pub AllZip-append : {A : Type 0} (R : A → ℕ → Type 0) (xs ys : List A) (ms ns : List ℕ) → AllZip R xs ms → AllZip R ys ns → AllZip R (xs ++ ys) (ms ++ ns)
AllZip-append R [] ys [] ns a b = b
AllZip-append R [] ys (m ∷ ms) ns a b = absurd a
AllZip-append R (x ∷ xs) ys [] ns a b = absurd a
AllZip-append R (x ∷ xs) ys (m ∷ ms) ns a b = (a.0, AllZip-append R xs ys ms ns a.1 b)

-- What is beside those that pass is among what is there.
pub beside-has : {A : Type 0} (q : A → Bool) (xs : List A) (ns : List ℕ) (n : ℕ) → has (beside q xs ns) n ≡ true → has ns n ≡ true
beside-has q [] ns n h = absurd (both_ways false refl h)
beside-has q (x ∷ xs) [] n h = h
beside-has q (x ∷ xs) (m ∷ ns) n h = elim (cases_Bool (q x)) [
  | inl e ↦ elim (has_cases n m (beside q xs ns) (rw e at h)) [ inl s ↦ or_left (eqb n m) (has ns n) (eq-eqb n m s) | inr l ↦ has-later n m ns (beside-has q xs ns n l) ]
  | inr e ↦ has-later n m ns (beside-has q xs ns n (rw e at h))
]

pub All-beside : {A B : Type 0} (P : B → Type 0) (q : A → Bool) (xs : List A) (ys : List B) → All P ys → All P (beside q xs ys)
All-beside P q [] ys a = All-nil P
All-beside P q (x ∷ xs) [] a = All-nil P
All-beside P q (x ∷ xs) (y ∷ ys) a = elim (cases_Bool (q x)) [
  | inl e ↦ rw e (All-cons P y (beside q xs ys) (All-head P y ys a) (All-beside P q xs ys (All-tail P y ys a)))
  | inr e ↦ rw e (All-beside P q xs ys (All-tail P y ys a))
]

pub Differ-beside : {A B : Type 0} (q : A → Bool) (xs : List A) (ys : List B) → Differ ys → Differ (beside q xs ys)
Differ-beside q [] ys d = tt
Differ-beside q (x ∷ xs) [] d = tt
Differ-beside q (x ∷ xs) (y ∷ ys) d = elim (cases_Bool (q x)) [
  | inl e ↦ rw e (All-beside (λ z. y ≡ z → ⊥) q xs ys d.0, Differ-beside q xs ys d.1)
  | inr e ↦ rw e (Differ-beside q xs ys d.1)
]

-- A number among others that differ.
pub Differ-apart : (n : ℕ) (ns : List ℕ) → All (λ m. n ≡ m → ⊥) ns → has ns n ≡ false
Differ-apart n [] a = refl
Differ-apart n (m ∷ ns) a = or_from (eqb n m) (has ns n) (ne_eqb n m (All-head (λ m. n ≡ m → ⊥) m ns a)) (Differ-apart n ns (All-tail (λ m. n ≡ m → ⊥) m ns a))

pub Differ-not : (n : ℕ) (ns : List ℕ) → has ns n ≡ false → All (λ m. n ≡ m → ⊥) ns
Differ-not n ns h = All-by_has (λ m. n ≡ m → ⊥) ns (λ m k e. both_ways (has ns n) h (subst (λ (j : ℕ). has ns j ≡ true) (sym e) k))

pub EachPair-append : {A : Type 0} (R : A → A → Type 0) (xs ys : List A) → EachPair R xs → EachPair R ys → All (λ x. All (R x) ys) xs → EachPair R (xs ++ ys)
EachPair-append R [] ys a b c = b
EachPair-append R (x ∷ xs) ys a b c = (All-append (R x) xs ys a.0 (All-head (λ x. All (R x) ys) x xs c), EachPair-append R xs ys a.1 b (All-tail (λ x. All (R x) ys) x xs c))

pub EachPair-front : {A : Type 0} (R : A → A → Type 0) (xs ys : List A) → EachPair R (xs ++ ys) → EachPair R xs
EachPair-front R [] ys d = tt
EachPair-front R (x ∷ xs) ys d = (All-front (R x) xs ys d.0, EachPair-front R xs ys d.1)

pub EachPair-rest : {A : Type 0} (R : A → A → Type 0) (xs ys : List A) → EachPair R (xs ++ ys) → EachPair R ys
EachPair-rest R [] ys d = d
EachPair-rest R (x ∷ xs) ys d = EachPair-rest R xs ys d.1

pub EachPair-across : {A : Type 0} (R : A → A → Type 0) (xs ys : List A) → EachPair R (xs ++ ys) → All (λ x. All (R x) ys) xs
EachPair-across R [] ys d = All-nil (λ x. All (R x) ys)
EachPair-across R (x ∷ xs) ys d = All-cons (λ x. All (R x) ys) x xs (All-rest_of (R x) xs ys d.0) (EachPair-across R xs ys d.1)

-- Items of a list by their places.
pub slice_get-append : {A : Type 0} (P : A → Type 0) (xs ys : List A) (i : ℕ) → IsSomeAnd (slice_get xs i) P → IsSomeAnd (slice_get (xs ++ ys) i) P
slice_get-append P [] ys i h = absurd h
slice_get-append P (x ∷ xs) ys zero h = h
slice_get-append P (x ∷ xs) ys (suc i) h = slice_get-append P xs ys i h

pub slice_get-behind : {A : Type 0} (P : A → Type 0) (xs ys : List A) (i k : ℕ) → k ≡ length xs + i → IsSomeAnd (slice_get ys i) P → IsSomeAnd (slice_get (xs ++ ys) k) P
slice_get-behind P [] ys i k e h = rw (e, zero-add) h
slice_get-behind P (x ∷ xs) ys i zero e h = absurd (omega arith)
slice_get-behind P (x ∷ xs) ys i (suc k) e h = slice_get-behind P xs ys i k (omega arith) h

pub slice_get-first : {A : Type 0} (xs ys : List A) (n : ℕ) → n < length xs → slice_get (xs ++ ys) n ≡ slice_get xs n
slice_get-first [] ys n l = absurd (omega arith)
slice_get-first (x ∷ xs) ys zero l = refl
slice_get-first (x ∷ xs) ys (suc n) l = slice_get-first xs ys n (omega arith)

pub slice_get-last : {A : Type 0} (xs ys : List A) (n : ℕ) → length xs ≤ n → slice_get (xs ++ ys) n ≡ slice_get ys (n - length xs)
slice_get-last [] ys n l = let e : n - 0 ≡ n = omega arith in rw e refl
slice_get-last (x ∷ xs) ys zero l = absurd (omega arith)
slice_get-last (x ∷ xs) ys (suc n) l = let e : suc n - length (x ∷ xs) ≡ n - length xs = omega arith in rw e (slice_get-last xs ys n (omega arith))

pub has-flat_map_none : {A : Type 0} (h : A → List ℕ) (xs : List A) (n : ℕ) → All (λ x. has (h x) n ≡ false) xs → has (flat_map h xs) n ≡ false
has-flat_map_none h [] n a = refl
has-flat_map_none h (x ∷ xs) n a = has-neither n (h x) (flat_map h xs) (All-head (λ x. has (h x) n ≡ false) x xs a) (has-flat_map_none h xs n (All-tail (λ x. has (h x) n ≡ false) x xs a))

pub EachPair-flat_map : {A B : Type 0} (R : B → B → Type 0) (h : A → List B) (xs : List A) → All (λ x. EachPair R (h x)) xs → EachPair (λ x y. All (λ a. All (R a) (h y)) (h x)) xs → EachPair R (flat_map h xs)
EachPair-flat_map R h [] a p = tt
EachPair-flat_map {A} {B} R h (x ∷ xs) a p = EachPair-append R (h x) (flat_map h xs) (All-head (λ x. EachPair R (h x)) x xs a) (EachPair-flat_map R h xs (All-tail (λ x. EachPair R (h x)) x xs a) p.1) (across (h x) xs p.0)
  where
    across : (as' : List B) (ys : List A) → All (λ y. All (λ a. All (R a) (h y)) as') ys → All (λ a. All (R a) (flat_map h ys)) as'
    across as' ys q k d l = All-flat_map (R (get_or as' k d)) h ys (All-weaker (λ y. All (λ a. All (R a) (h y)) as') (λ y. All (R (get_or as' k d)) (h y)) (λ y i. i k d l) ys q)

pub EachPair-weaker : {A : Type 0} (R S : A → A → Type 0) → ((x y : A) → R x y → S x y) → (xs : List A) → EachPair R xs → EachPair S xs
EachPair-weaker R S f [] p = tt
EachPair-weaker R S f (x ∷ xs) p = (All-weaker (R x) (S x) (f x) xs p.0, EachPair-weaker R S f xs p.1)

-- A relation of two items of which something more is known of each.
pub EachPair-known : {A : Type 0} (P : A → Type 0) (R S : A → A → Type 0) → ((x y : A) → P x → P y → R x y → S x y) → (xs : List A) → All P xs → EachPair R xs → EachPair S xs
EachPair-known P R S f [] a p = tt
EachPair-known P R S f (x ∷ xs) a p = (All-weaker (λ y. P y × R x y) (S x) (λ y i. f x y (All-head P x xs a) i.0 i.1) xs (All-both P (R x) xs (All-tail P x xs a) p.0), EachPair-known P R S f xs (All-tail P x xs a) p.1)

-- A number that is in a list that differs from a second.
pub Differ-across : (ms ns : List ℕ) (n : ℕ) → Differ (ms ++ ns) → has ms n ≡ true → has ns n ≡ false
Differ-across ms ns n d h = Differ-apart n ns (All-has (λ m. All (λ k. m ≡ k → ⊥) ns) ms n (EachPair-across (λ x y. x ≡ y → ⊥) ms ns d) h)

pub Differ-across_back : (ms ns : List ℕ) (n : ℕ) → Differ (ms ++ ns) → has ns n ≡ true → has ms n ≡ false
Differ-across_back ms ns n d h = false_from_ne_true (has ms n) (λ k. both_ways (has ns n) (Differ-across ms ns n d k) h)

-- Some of the numbers are none of those that all of them are apart from.
pub has_not : (ms ns : List ℕ) (n : ℕ) → ((k : ℕ) → has ms k ≡ true → has ns k ≡ true) → has ns n ≡ false → has ms n ≡ false
has_not ms ns n f h = false_from_ne_true (has ms n) (λ k. both_ways (has ns n) h (f n k))

pub below_differs : (m n : ℕ) → m < n → m ≡ n → ⊥
below_differs m n l e = absurd (omega arith)

-- What holds of one item, or of two, holds of the list of them.
pub All-one : {A : Type 0} (P : A → Type 0) (x : A) → P x → All P (x ∷ [])
All-one P x h = All-cons P x [] h (All-nil P)

pub All-two : {A : Type 0} (P : A → Type 0) (x y : A) → P x → P y → All P (x ∷ y ∷ [])
All-two P x y h k = All-cons P x (y ∷ []) h (All-one P y k)

-- Pairs of what a function gives, and of those that pass.
pub EachPair-filter : {A : Type 0} (R : A → A → Type 0) (q : A → Bool) (xs : List A) → EachPair R xs → EachPair R (filter q xs)
EachPair-filter R q [] p = tt
EachPair-filter R q (x ∷ xs) p = elim (cases_Bool (q x)) [
  | inl e ↦ rw e (All-filter q (R x) xs p.0, EachPair-filter R q xs p.1)
  | inr e ↦ rw e (EachPair-filter R q xs p.1)
]

pub EachPair-filter_map : {A B : Type 0} (R : A → A → Type 0) (S : B → B → Type 0) (f : A → Option B) → ((x y : A) (v w : B) → f x ≡ Some v → f y ≡ Some w → R x y → S v w) → (xs : List A) → EachPair R xs → EachPair S (filter_map f xs)
EachPair-filter_map R S f g [] p = tt
EachPair-filter_map {A} {B} R S f g (x ∷ xs) p = go (EachPair-filter_map R S f g xs p.1) (f x) refl
  where
    go : EachPair S (filter_map f xs) → (o : Option B) → f x ≡ o → EachPair S (filter_map f (x ∷ xs))
    go rest None e = rw e rest
    go rest (Some v) e = rw e (All-filter_map (S v) f xs (All-weaker (R x) (λ y. (w : B) → f y ≡ Some w → S v w) (λ y r w k. g x y v w e k r) xs p.0), rest)

-- No more pass a test than there are.
pub length-filter-le : {A : Type 0} (q : A → Bool) (xs : List A) → length (filter q xs) ≤ length xs
length-filter-le q [] = omega arith
length-filter-le q (x ∷ xs) = elim (cases_Bool (q x)) [
  | inl e ↦ rw e (omega (arith, length-filter-le q xs))
  | inr e ↦ rw e (omega (arith, length-filter-le q xs))
]

pub item_within : {A : Type 0} (xs : List A) (k : ℕ) → k < length xs → (x : A) × (slice_get xs k ≡ Some x)
item_within [] k l = absurd (omega arith)
item_within (x ∷ xs) zero l = (x, refl)
item_within (x ∷ xs) (suc k) l = item_within xs k (omega arith)

-- Nothing is beside items of which none passes.
pub beside_none : {A B : Type 0} (test : A → Bool) (xs : List A) (ys : List B) → All (λ x. test x ≡ false) xs → beside test xs ys ≡ []
beside_none test [] ys h = refl
beside_none test (x ∷ xs) [] h = refl
beside_none {A} test (x ∷ xs) (y ∷ ys) h = rw (All-head (λ (x : A). test x ≡ false) x xs h) (beside_none test xs ys (All-tail (λ (x : A). test x ≡ false) x xs h))

pub All-from_recursion : {A : Type 0} (P : A → Type 0) (xs : List A) → AllByRecursion P xs → All P xs
All-from_recursion P [] h = All-nil P
All-from_recursion P (x ∷ xs) h = All-cons P x xs h.0 (All-from_recursion P xs h.1)

-- For `using`, whose names have no dash.
pub ruleset all_from_recursion = (All-from_recursion)
