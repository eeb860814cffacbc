-- Items of lists: what is picked out of a list, what is made of each, and what is found by a test.
use Rattle.std.proofs.Common.{ℕ, zero, suc, ◌+◌, ◌<◌, ◌≤◌, ◌≡◌, ◌++◌, List, [], ◌∷◌, Bool, true, false, not, cond, map, length, nat_le, take, slice_get, nat_lt, ◌||◌, if◌then◌else◌, Option, Some, None, is_some, refl, ap, sym, subst, ◌∙◌, inl, inr, arith, add-zero}
use Rattle.std.proofs.lemmas.Bool.{and_parts, false≢true, le-leb, ltb-true}
use Rattle.std.proofs.lemmas.List.{length-map, length-take-le}
use Rattle.std.proofs.lemmas.List.Folds.{find_at}
use Rattle.std.proofs.lemmas.List.Elements.{All-append, All-cons, All-head, All-nil, All-tail}
use Rattle.std.proofs.lemmas.Option.{none-some, same_Some, slice_get_cases}
use Rattle.std.specs.List.{All, cons_option, filter, filter_map, find, flat_map, list_all, list_any, position, position_or_len}
use Rattle.hs_expr.specs.Verdict.{each_from}
use Rattle.hs_expr.specs.Lists.{EachPair}
use Rattle.hs_expr.proofs.Items.{All-from}

-- ---- at a place

-- The relation holds between all items where it holds at each two places.
pub EachPair-from : {A : Type 0} (R : A → A → Type 0) (xs : List A) → ((i j : ℕ) (x y : A) → i < j → slice_get xs i ≡ Some x → slice_get xs j ≡ Some y → R x y) → EachPair R xs
EachPair-from R [] h = tt
EachPair-from R (x ∷ xs) h = (
  All-from (R x) xs (λ j y at. h 0 (suc j) x y (omega arith) refl at),
  EachPair-from R xs (λ i j y z low at_i at_j. h (suc i) (suc j) y z (omega arith) at_i at_j),
)

pub EachPair-map : {A B : Type 0} (R : B → B → Type 0) (f : A → B) (xs : List A) → EachPair (λ x y. R (f x) (f y)) xs → EachPair R (map f xs)
EachPair-map R f [] d = tt
EachPair-map R f (x ∷ xs) d = (all_mapped (R (f x)) f xs d.0, EachPair-map R f xs d.1)
  where
    all_mapped : {A B : Type 0} (P : B → Type 0) (f : A → B) (xs : List A) → All (λ x. P (f x)) xs → All P (map f xs)
    all_mapped P f [] a = All-nil P
    all_mapped {A} P f (x ∷ xs) a = All-cons P (f x) (map f xs) (All-head (λ (x : A). P (f x)) x xs a) (all_mapped P f xs (All-tail (λ (x : A). P (f x)) x xs a))

-- The rest continues after the end of the front.
pub slice_get-rest : {A : Type 0} (xs ys : List A) (i n : ℕ) → n ≡ length xs + i → slice_get (xs ++ ys) n ≡ slice_get ys i
slice_get-rest [] ys i n e = let same : n ≡ i = omega arith in ap (slice_get ys) same
slice_get-rest (x ∷ xs) ys i zero e = absurd (omega arith)
slice_get-rest (x ∷ xs) ys i (suc n) e = slice_get-rest xs ys i n (omega arith)

-- There are at most n items, where none follows n others.
pub few_items : {A : Type 0} (n : ℕ) (xs : List A) → ((k : ℕ) (x : A) → slice_get xs k ≡ Some x → nat_le n (length (take k xs)) ≡ false) → length xs ≤ n
few_items n xs h = elim (slice_get_cases xs n).1 [
  | inl there ↦
      let whole = length-take-le n xs (let low = there.1 in omega arith) in
      absurd (false≢true (sym (h n there.0 there.2) ∙ le-leb n (length (take n xs)) (omega arith)))
  | inr past ↦ past.0
]

pub list_all-at : {A : Type 0} (p : A → Bool) (xs : List A) (k : ℕ) (x : A) → list_all p xs ≡ true → slice_get xs k ≡ Some x → p x ≡ true
list_all-at p [] k x e at = cc
list_all-at p (y ∷ xs) zero x e at = ap p (let same : x ≡ y = cc in same) ∙ (and_parts (p y) (list_all p xs) e).0
list_all-at p (y ∷ xs) (suc k) x e at = list_all-at p xs k x (and_parts (p y) (list_all p xs) e).1 at

-- ---- picked items

-- What is made of an item, where it passes the test.
abbrev pub where_passes : {A B : Type 0} → (A → Bool) → (A → B) → A → Option B
where_passes test f x = cond (test x) (Some (f x)) None

pub filtered : {A B : Type 0} (test : A → Bool) (f : A → B) (xs : List A) → map f (filter test xs) ≡ filter_map (where_passes test f) xs
filtered test f [] = refl
filtered test f (x ∷ xs) = go (test x) (filtered test f xs)
  where
    go : (b : Bool) → map f (filter test xs) ≡ filter_map (where_passes test f) xs → map f (cond b (x ∷ filter test xs) (filter test xs)) ≡ cons_option (cond b (Some (f x)) None) (filter_map (where_passes test f) xs)
    go true rest = ap (λ ys. f x ∷ ys) rest
    go false rest = rest

pub passes : {A B : Type 0} (test : A → Bool) (f : A → B) (x : A) (y : B) → where_passes test f x ≡ Some y → (test x ≡ true) × (f x ≡ y)
passes test f x y e = go (test x) e
  where
    go : (b : Bool) → cond b (Some (f x)) None ≡ Some y → (b ≡ true) × (f x ≡ y)
    go true e = (refl, same_Some (f x) y e)
    go false e = absurd (none-some y e)

-- What holds of all that is made of the items.
pub All-filter_map : {A B : Type 0} (P : B → Type 0) (f : A → Option B) (xs : List A) → ((k : ℕ) (x : A) (y : B) → slice_get xs k ≡ Some x → f x ≡ Some y → P y) → All P (filter_map f xs)
All-filter_map P f [] h = All-nil P
All-filter_map {A} {B} P f (x ∷ xs) h = go (f x) refl (All-filter_map P f xs (λ k z y at. h (suc k) z y at))
  where
    go : (o : Option B) → f x ≡ o → All P (filter_map f xs) → All P (cons_option o (filter_map f xs))
    go None is rest = rest
    go (Some y) is rest = All-cons P y (filter_map f xs) (h 0 x y refl is) rest

pub EachPair-filter_map : {A B : Type 0} (R : B → B → Type 0) (f : A → Option B) (xs : List A) → ((i j : ℕ) (x y : A) (a b : B) → i < j → slice_get xs i ≡ Some x → slice_get xs j ≡ Some y → f x ≡ Some a → f y ≡ Some b → R a b) → EachPair R (filter_map f xs)
EachPair-filter_map R f [] h = tt
EachPair-filter_map {A} {B} R f (x ∷ xs) h = go (f x) refl (EachPair-filter_map R f xs (λ i j y z a b low at_i at_j. h (suc i) (suc j) y z a b (omega arith) at_i at_j))
  where
    go : (o : Option B) → f x ≡ o → EachPair R (filter_map f xs) → EachPair R (cons_option o (filter_map f xs))
    go None is rest = rest
    go (Some a) is rest = (All-filter_map (R a) f xs (λ k y b at made. h 0 (suc k) x y a b (omega arith) refl at is made), rest)

-- Where the items are made of others first.
pub filter_map-map : {A B C : Type 0} (f : B → Option C) (g : A → B) (xs : List A) → filter_map f (map g xs) ≡ filter_map (λ x. f (g x)) xs
filter_map-map f g [] = refl
filter_map-map f g (x ∷ xs) = ap (cons_option (f (g x))) (filter_map-map f g xs)

pub All-made : {A B C : Type 0} (P : C → Type 0) (f : B → Option C) (g : A → B) (xs : List A) → ((k : ℕ) (x : A) (y : C) → slice_get xs k ≡ Some x → f (g x) ≡ Some y → P y) → All P (filter_map f (map g xs))
All-made P f g xs h = subst (All P) (sym (filter_map-map f g xs)) (All-filter_map P (λ x. f (g x)) xs h)

-- No more is made than items pass a test that each of which something is made passes.
pub fewer_made : {A B : Type 0} (p : A → Bool) (f : A → Option B) (xs : List A) → ((k : ℕ) (x : A) (y : B) → slice_get xs k ≡ Some x → f x ≡ Some y → p x ≡ true) → length (filter_map f xs) ≤ length (filter p xs)
fewer_made p f [] h = omega arith
fewer_made {A} {B} p f (x ∷ xs) h = go (p x) (f x) refl refl (fewer_made p f xs (λ k z y at. h (suc k) z y at))
  where
    go : (b : Bool) (o : Option B) → p x ≡ b → f x ≡ o → length (filter_map f xs) ≤ length (filter p xs) → length (cons_option o (filter_map f xs)) ≤ length (cond b (x ∷ filter p xs) (filter p xs))
    go true (Some y) t is rest = omega arith
    go true None t is rest = omega arith
    go false None t is rest = rest
    go false (Some y) t is rest = absurd (false≢true (sym t ∙ h 0 x y refl is))

-- Of what is made no more passes a test than items pass another, where each of which such is made does.
pub fewer_pass : {A B : Type 0} (p : A → Bool) (q : B → Bool) (f : A → Option B) (xs : List A) → ((k : ℕ) (x : A) (y : B) → slice_get xs k ≡ Some x → f x ≡ Some y → q y ≡ true → p x ≡ true) → length (filter q (filter_map f xs)) ≤ length (filter p xs)
fewer_pass p q f [] h = omega arith
fewer_pass {A} {B} p q f (x ∷ xs) h = go (p x) (f x) refl refl (fewer_pass p q f xs (λ k z y at. h (suc k) z y at))
  where
    made : (b c : Bool) (y : B) → p x ≡ b → f x ≡ Some y → q y ≡ c → length (filter q (filter_map f xs)) ≤ length (filter p xs) → length (cond c (y ∷ filter q (filter_map f xs)) (filter q (filter_map f xs))) ≤ length (cond b (x ∷ filter p xs) (filter p xs))
    made true true y t is s rest = omega arith
    made true false y t is s rest = omega arith
    made false true y t is s rest = absurd (false≢true (sym t ∙ h 0 x y refl is s))
    made false false y t is s rest = rest

    go : (b : Bool) (o : Option B) → p x ≡ b → f x ≡ o → length (filter q (filter_map f xs)) ≤ length (filter p xs) → length (filter q (cons_option o (filter_map f xs))) ≤ length (cond b (x ∷ filter p xs) (filter p xs))
    go b (Some y) t is rest = made b (q y) y t is refl rest
    go true None t is rest = omega arith
    go false None t is rest = rest

-- ---- lists that are made item by item

pub All-flat_map : {A B : Type 0} (P : B → Type 0) (f : A → List B) (xs : List A) → ((x : A) → All P (f x)) → All P (flat_map f xs)
All-flat_map P f [] h = All-nil P
All-flat_map P f (x ∷ xs) h = All-append P (f x) (flat_map f xs) (h x) (All-flat_map P f xs h)

-- ---- found by a test

pub find_here : {A : Type 0} (p : A → Bool) (xs : List A) (x : A) → find p xs ≡ Some x → (k : ℕ) × (slice_get xs k ≡ Some x) × (p x ≡ true)
find_here p [] x e = absurd (none-some x e)
find_here {A} p (z ∷ xs) x e = go (p z) refl e (find_here p xs x)
  where
    go : (b : Bool) → p z ≡ b → cond b (Some z) (find p xs) ≡ Some x → (find p xs ≡ Some x → (k : ℕ) × (slice_get xs k ≡ Some x) × (p x ≡ true)) → (k : ℕ) × (slice_get (z ∷ xs) k ≡ Some x) × (p x ≡ true)
    go true t e rest = (0, e, ap p (sym (same_Some z x e)) ∙ t)
    go false t e rest = let found = rest e in (suc found.0, found.1, found.2)

-- An item that passes is found, or one before it.
pub find_some : {A : Type 0} (p : A → Bool) (xs : List A) (i : ℕ) (x : A) → slice_get xs i ≡ Some x → p x ≡ true → is_some (find p xs) ≡ true
find_some p [] i x at e = absurd (none-some x at)
find_some {A} p (z ∷ xs) zero x at e = go (p z) (ap p (same_Some z x at) ∙ e)
  where
    go : (b : Bool) → b ≡ true → is_some (cond b (Some z) (find p xs)) ≡ true
    go true e = refl
    go false e = absurd (false≢true e)
find_some {A} p (z ∷ xs) (suc i) x at e = go (p z) (find_some p xs i x at e)
  where
    go : (b : Bool) → is_some (find p xs) ≡ true → is_some (cond b (Some z) (find p xs)) ≡ true
    go true e = refl
    go false e = e

-- What is made of the first that passes is the first of what is made, where the tests agree.
pub find-filter_map : {A B : Type 0} (p : A → Bool) (q : B → Bool) (f : A → Option B) (xs : List A) (x : A) (y : B) → ((z : A) (w : B) → f z ≡ Some w → q w ≡ p z) → find p xs ≡ Some x → f x ≡ Some y → find q (filter_map f xs) ≡ Some y
find-filter_map p q f [] x y agree e made = absurd (none-some x e)
find-filter_map {A} {B} p q f (z ∷ xs) x y agree e made = go (p z) refl e (find-filter_map p q f xs x y agree)
  where
    chosen : (b : Bool) → b ≡ true → (rest : Option B) → cond b (Some y) rest ≡ Some y
    chosen true e rest = refl
    chosen false e rest = absurd (false≢true e)

    passed : (b : Bool) (w : B) → b ≡ false → (rest : Option B) → cond b (Some w) rest ≡ rest
    passed true w e rest = absurd (false≢true (sym e))
    passed false w e rest = refl

    later : (o : Option B) → f z ≡ o → p z ≡ false → find q (filter_map f xs) ≡ Some y → find q (cons_option o (filter_map f xs)) ≡ Some y
    later None is t rest = rest
    later (Some w) is t rest = passed (q w) w (agree z w is ∙ t) (find q (filter_map f xs)) ∙ rest

    go : (b : Bool) → p z ≡ b → cond b (Some z) (find p xs) ≡ Some x → (find p xs ≡ Some x → f x ≡ Some y → find q (filter_map f xs) ≡ Some y) → find q (cons_option (f z) (filter_map f xs)) ≡ Some y
    go true t e rest =
        let same : f z ≡ Some y = ap f (same_Some z x e) ∙ made in
        ap (λ (o : Option B). find q (cons_option o (filter_map f xs))) same ∙ chosen (q y) (agree z y same ∙ t) (find q (filter_map f xs))
    go false t e rest = later (f z) refl t (rest e made)

-- What is found of the items is found of what is made of them.
pub any_made : {A B : Type 0} (p : A → Bool) (q : B → Bool) (f : A → B) (xs : List A) → ((x : A) → q (f x) ≡ p x) → is_some (find p xs) ≡ true → list_any q (map f xs) ≡ true
any_made p q f [] agree e = absurd (false≢true e)
any_made {A} p q f (x ∷ xs) agree e = go (p x) (q (f x)) (agree x) e (any_made p q f xs agree)
  where
    go : (b c : Bool) → c ≡ b → is_some (cond b (Some x) (find p xs)) ≡ true → (is_some (find p xs) ≡ true → list_any q (map f xs) ≡ true) → (c || list_any q (map f xs)) ≡ true
    go true c same e rest = rw same refl
    go false c same e rest = rw same (rest e)

-- Of the items that pass one test all pass another.
pub all_filtered : {A : Type 0} (p q : A → Bool) (xs : List A) → list_all p (filter q xs) ≡ true → (k : ℕ) (x : A) → slice_get xs k ≡ Some x → q x ≡ true → p x ≡ true
all_filtered p q [] e k x at is = absurd (none-some x at)
all_filtered p q (z ∷ xs) e zero x at is = first (q z) refl e
  where
    first : (b : Bool) → q z ≡ b → list_all p (cond b (z ∷ filter q xs) (filter q xs)) ≡ true → p x ≡ true
    first true t e = ap p (sym (same_Some z x at)) ∙ (and_parts (p z) (list_all p (filter q xs)) e).0
    first false t e = absurd (false≢true (sym t ∙ ap q (same_Some z x at) ∙ is))
all_filtered p q (z ∷ xs) e (suc k) x at is = all_filtered p q xs (rest (q z) e) k x at is
  where
    rest : (b : Bool) → list_all p (cond b (z ∷ filter q xs) (filter q xs)) ≡ true → list_all p (filter q xs) ≡ true
    rest true e = (and_parts (p z) (list_all p (filter q xs)) e).1
    rest false e = e

-- Where no item is left out, all are kept.
pub each_kept : {A : Type 0} (left_out : ℕ → A → Bool) (n : ℕ) (xs : List A) → ((k : ℕ) (x : A) → slice_get xs k ≡ Some x → left_out (n + k) x ≡ false) → each_from (λ i x. if left_out i x then [] else x ∷ []) n xs ≡ xs
each_kept left_out n [] h = refl
each_kept {A} left_out n (x ∷ xs) h =
    go (left_out n x) (ap (λ i. left_out i x) (sym (add-zero n)) ∙ h 0 x refl)
    (each_kept left_out (n + 1) xs (λ k y at. let later : n + 1 + k ≡ n + suc k = omega arith in ap (λ i. left_out i y) later ∙ h (suc k) y at))
  where
    go : (b : Bool) → b ≡ false → each_from (λ i x. if left_out i x then [] else x ∷ []) (n + 1) xs ≡ xs → (if b then [] else x ∷ []) ++ each_from (λ i x. if left_out i x then [] else x ∷ []) (n + 1) xs ≡ x ∷ xs
    go true e rest = absurd (false≢true (sym e))
    go false e rest = ap (λ ys. x ∷ ys) rest

-- ---- places

pub some_within : {A : Type 0} (xs : List A) (n : ℕ) → n < length xs → is_some (slice_get xs n) ≡ true
some_within [] n low = absurd (omega arith)
some_within (x ∷ xs) zero low = refl
some_within (x ∷ xs) (suc n) low = some_within xs n (omega arith)

pub position_mapped : {A B : Type 0} (p : B → Bool) (f : A → B) (xs : List A) → position p (map f xs) ≡ position (λ x. p (f x)) xs
position_mapped p f xs = rw (or_len_mapped p f xs, length-map xs f) refl
  where
    or_len_mapped : {A B : Type 0} (p : B → Bool) (f : A → B) (xs : List A) → position_or_len p (map f xs) ≡ position_or_len (λ x. p (f x)) xs
    or_len_mapped p f [] = refl
    or_len_mapped p f (x ∷ xs) = ap (λ n. cond (not (p (f x))) (1 + n) 0) (or_len_mapped p f xs)

-- What isn't found has no place.
pub position_absent : {A : Type 0} (p : A → Bool) (xs : List A) → find p xs ≡ None → position p xs ≡ None
position_absent {A} p xs none = go (nat_lt (position_or_len p xs) (length xs)) refl
  where
    go : (b : Bool) → nat_lt (position_or_len p xs) (length xs) ≡ b → cond b (Some (position_or_len p xs)) None ≡ None
    go true low = absurd (false≢true (sym (ap (λ (o : Option A). is_some o) (sym (find_at p xs) ∙ none)) ∙ some_within xs (position_or_len p xs) (ltb-true (position_or_len p xs) (length xs) low)))
    go false low = refl
