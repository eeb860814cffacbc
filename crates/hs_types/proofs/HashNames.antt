-- Names of new objects.
use Rattle.std.proofs.Common.{ℕ, suc, zero, ◌+◌, ◌<◌, ◌≤◌, ◌^◌, ◌≡◌, inl, inr, List, [], ◌∷◌, ◌++◌, map, length, get_or, Bool, refl, sym, ap, ◌∙◌, arith}
use Rattle.std.specs.List.{All, filter}
use Rattle.std.specs.Fmt.{decimal}
use Rattle.std.specs.Int.Digits.{digits_of}
use Rattle.std.proofs.lemmas.Bool.{cases_Bool}
use Rattle.std.proofs.lemmas.Fmt.{decimal_digit, decimal-digits_of, length-decimal-le}
use Rattle.std.proofs.lemmas.Int.Digits.{same_from_digits_of, first_digits_of}
use Rattle.std.proofs.lemmas.List.Elements.{All-nil, All-cons, All-weaker, All-map, All-filter}
use Rattle.hs_types.specs.Plan.{MadeObject}
use Rattle.hs_expr.specs.Lists.{Differ}
use Rattle.hs_types.specs.Step.{new_objects}
use Rattle.hs_types.specs.TypedGraph.{hash_name}
use Rattle.hs_expr.proofs.Lists.{All-of_map, EachPair-append}

unmapped : (xs ys : List ℕ) → map (λ d. 48 + d) xs ≡ map (λ d. 48 + d) ys → xs ≡ ys
unmapped [] [] e = refl
unmapped [] (y ∷ ys) e = absurd (cc)
unmapped (x ∷ xs) [] e = absurd (cc)
unmapped (x ∷ xs) (y ∷ ys) e =
    let head : 48 + x ≡ 48 + y = cc in let tail : map (λ d. 48 + d) xs ≡ map (λ d. 48 + d) ys = cc in
    let same : x ≡ y = omega arith in let rest : xs ≡ ys = unmapped xs ys tail in cc

-- The digits of a number above zero don't begin with a zero.
not_zero : (k : ℕ) → 0 < k → map (λ d. 48 + d) (digits_of 10 k) ≡ 48 ∷ [] → ⊥
not_zero k l e = go (digits_of 10 k) refl e
  where
    go : (ds : List ℕ) → digits_of 10 k ≡ ds → map (λ d. 48 + d) ds ≡ 48 ∷ [] → ⊥
    go [] f e = absurd (cc)
    go (d ∷ ds) f e = let h : 48 + d ≡ 48 = cc in let first : 0 < get_or (digits_of 10 k) 0 0 = first_digits_of 10 k (omega arith) l in let d0 : 0 < d = rw f at first in omega arith

abbrev tail_of : List ℕ → List ℕ
tail_of [] = []
tail_of (x ∷ xs) = xs

-- Different numbers give different names.
pub hash_name-same : (j k : ℕ) → hash_name j ≡ hash_name k → j ≡ k
hash_name-same zero zero e = refl
hash_name-same zero (suc k) e = absurd (not_zero (suc k) (omega arith) (sym (ap tail_of e)))
hash_name-same (suc j) zero e = absurd (not_zero (suc j) (omega arith) (ap tail_of e))
hash_name-same (suc j) (suc k) e = same_from_digits_of 10 (suc j) (suc k) (omega arith) (unmapped (digits_of 10 (suc j)) (digits_of 10 (suc k)) (ap tail_of e))

-- A name is that of a number from k on and below the end.
abbrev pub IsNew : ℕ → ℕ → List ℕ → Type 0
IsNew k end name = (j : ℕ) × (k ≤ j) × (j < end) × (name ≡ hash_name j)

pub names_new : (n k : ℕ) (os : List MadeObject) → All (λ o. IsNew k (k + length os) o.name) (new_objects n k os)
names_new n k [] = All-nil (λ o. IsNew k (k + 0) o.name)
names_new n k (o ∷ os) = All-cons (λ x. IsNew k (k + length (o ∷ os)) x.name) (record { number = n; name = hash_name k; class = o.class; slots = o.slots }) (new_objects (n + 1) (k + 1) os) (k, omega arith, omega arith, refl)
    (All-weaker (λ x. IsNew (k + 1) ((k + 1) + length os) x.name) (λ x. IsNew k (k + length (o ∷ os)) x.name) (λ x h. (h.0, omega (arith, h.1), omega (arith, h.2), h.3)) (new_objects (n + 1) (k + 1) os) (names_new (n + 1) (k + 1) os))

new_differ : (n k : ℕ) (os : List MadeObject) → Differ (map (λ o. o.name) (new_objects n k os))
new_differ n k [] = tt
new_differ n k (o ∷ os) = (All-map (λ name. hash_name k ≡ name → ⊥) (λ x. x.name) (new_objects (n + 1) (k + 1) os) (All-weaker (λ x. IsNew (k + 1) ((k + 1) + length os) x.name) (λ x. hash_name k ≡ x.name → ⊥) (λ x h e. let same : k ≡ h.0 = hash_name-same k h.0 (e ∙ h.3) in omega (arith, h.1)) (new_objects (n + 1) (k + 1) os) (names_new (n + 1) (k + 1) os)), new_differ (n + 1) (k + 1) os)

pub Differ-filter : {A B : Type 0} (f : A → B) (q : A → Bool) (xs : List A) → Differ (map f xs) → Differ (map f (filter q xs))
Differ-filter f q [] d = tt
Differ-filter f q (x ∷ xs) d = elim (cases_Bool (q x)) [
  | inl e ↦ rw e (kept f q x xs d.0, Differ-filter f q xs d.1)
  | inr e ↦ rw e (Differ-filter f q xs d.1)
]
  where
    kept : {A B : Type 0} (f : A → B) (q : A → Bool) (x : A) (xs : List A) → All (λ y. f x ≡ y → ⊥) (map f xs) → All (λ y. f x ≡ y → ⊥) (map f (filter q xs))
    kept f q x xs a = All-map (λ y. f x ≡ y → ⊥) f (filter q xs) (All-filter q (λ y. f x ≡ f y → ⊥) xs (All-of_map (λ y. f x ≡ y → ⊥) f xs a))

-- Old names, which are below the next one, and new ones differ, and all are below the next one then.
pub names-differ : (old : List (List ℕ)) (n next : ℕ) (os : List MadeObject) → Differ old → All (λ x. (k : ℕ) → x ≡ hash_name k → k < next) old → Differ (old ++ map (λ o. o.name) (new_objects n next os))
names-differ old n next os d below = EachPair-append (λ x y. x ≡ y → ⊥) old new d (new_differ n next os) (All-weaker Old (λ x. All (λ y. x ≡ y → ⊥) new) (λ x b. All-map (λ y. x ≡ y → ⊥) (λ o. o.name) (new_objects n next os) (All-weaker (λ o. IsNew next (next + length os) o.name) (λ o. x ≡ o.name → ⊥) (λ o k e. let less : k.0 < next = b k.0 (e ∙ k.3) in omega (arith, k.1)) (new_objects n next os) (names_new n next os))) old below)
  where
    new : List (List ℕ)
    new = map (λ o. o.name) (new_objects n next os)

    Old : List ℕ → Type 0
    Old x = (k : ℕ) → x ≡ hash_name k → k < next

pub names-below : (n next : ℕ) (os : List MadeObject) → All (λ o. (k : ℕ) → o.name ≡ hash_name k → k < next + length os) (new_objects n next os)
names-below n next os = All-weaker (λ o. IsNew next (next + length os) o.name) (λ o. (k : ℕ) → o.name ≡ hash_name k → k < next + length os) (λ o j k e. let same : j.0 ≡ k = hash_name-same j.0 k (sym j.3 ∙ e) in omega (arith, j.2)) (new_objects n next os) (names_new n next os)

-- No number's name has a zero in front of further digits.
pub no_leading_zero : (k d : ℕ) (rest : List ℕ) → hash_name k ≡ 35 ∷ 48 ∷ d ∷ rest → ⊥
no_leading_zero zero d rest e = absurd (cc)
no_leading_zero (suc k) d rest e = go (digits_of 10 (suc k)) refl (ap tail_of e)
  where
    go : (ds : List ℕ) → digits_of 10 (suc k) ≡ ds → map (λ d. 48 + d) ds ≡ 48 ∷ d ∷ rest → ⊥
    go [] f e = absurd (cc)
    go (x ∷ xs) f e = let h : 48 + x ≡ 48 = cc in let first : 0 < get_or (digits_of 10 (suc k)) 0 0 = first_digits_of 10 (suc k) (omega arith) (omega arith) in let above : 0 < x = rw f at first in omega arith

-- What `#` and the digits of a number take.
pub hashed : (k : ℕ) → k < 10 ^ 10 → 35 ∷ decimal k ≡ hash_name k
hashed zero small = ap (λ ds. 35 ∷ ds) (decimal_digit 0 (omega arith))
hashed (suc k) small = ap (λ ds. 35 ∷ ds) (decimal-digits_of (suc k) (omega arith) (omega (arith, small)))

pub ten_digits : (k : ℕ) → k < 10 ^ 10 → length (decimal k) ≤ 10
ten_digits k small = length-decimal-le 10 k (omega arith) small (omega (arith, small))
