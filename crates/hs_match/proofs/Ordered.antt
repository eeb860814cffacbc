use Rattle.std.proofs.Common.{ℕ, zero, suc, ◌<◌, ◌≤◌, ◌≡◌, ◌≢◌, List, [], ◌∷◌, length, get_or, slice_get, Some, None, true, false, refl, arith, inl, inr, eq-eqb}
use Rattle.std.specs.Prelude.{eqb, nat_lt}
use Rattle.std.specs.List.{find}
use Rattle.std.specs.List.Sorted.{IsPartitionedBy, IsPartitionPoint}
use Rattle.std.proofs.lemmas.Bool.{ltb-true, ltb-false, lt-ltb}
use Rattle.std.proofs.Math.Nat.{eq-or-lt_of_le}
use Rattle.std.proofs.lemmas.Bool.{ne_eqb, cases_lt}
use Rattle.std.proofs.lemmas.Bool.Decides.{eqb_tells}
use Rattle.std.proofs.lemmas.Option.{slice_get_cases, slice_get-get_or, slice_get_within, get_or_from_slice_get}
use Rattle.hs_match.specs.Candidates.{Ascend}

pub Ascend-tail : {A : Type 0} (number : A → ℕ) (x : A) (xs : List A) → Ascend number (x ∷ xs) → Ascend number xs
Ascend-tail number x xs up = λ i j a b p q lt. up (suc i) (suc j) a b p q (omega arith)

-- what is at a place is found by its number
pub find_here : {A : Type 0} (number : A → ℕ) (xs : List A) (i : ℕ) (a : A) → Ascend number xs → slice_get xs i ≡ Some a → find (λ x. eqb (number x) (number a)) xs ≡ Some a
find_here number [] i a up h = cc
find_here number (x ∷ xs) zero a up h = let e : x ≡ a = cc in rw (e, eq-eqb (number a) (number a) refl) refl
find_here number (x ∷ xs) (suc i) a up h =
    let less : number x < number a = up zero (suc i) x a refl h (omega arith) in
    let rest = find_here number xs i a (Ascend-tail number x xs up) h in
    let other : number x ≢ number a = omega arith in
    rw (ne_eqb (number x) (number a) other) rest

-- what is found is somewhere, with the number
pub find_place : {A : Type 0} (number : A → ℕ) (xs : List A) (n : ℕ) (a : A) → find (λ x. eqb (number x) n) xs ≡ Some a → (i : ℕ) × (slice_get xs i ≡ Some a) × (number a ≡ n)
find_place number [] n a h = cc
find_place {A} number (x ∷ xs) n a h =
    elim (eqb_tells (number x) n) [
      | inl here ↦
          let found : Some x ≡ Some a = rw here.0 at h in
          let e : x ≡ a = cc in
          (zero, found, rw (← e) here.1)
      | inr other ↦
          let rest = find_place number xs n a (rw other.0 at h) in
          (suc rest.0, rest.1, rest.2)
    ]

-- nothing is found by a number that nothing has
pub find_none : {A : Type 0} (number : A → ℕ) (xs : List A) (n : ℕ) → ((i : ℕ) (a : A) → slice_get xs i ≡ Some a → number a ≡ n → ⊥) → find (λ x. eqb (number x) n) xs ≡ None
find_none number [] n never = refl
find_none number (x ∷ xs) n never = rw (ne_eqb (number x) n (never zero x refl)) (find_none number xs n (λ i a at e. never (suc i) a at e))

-- where numbers rise, those below a bound are in front
pub Ascend-partitioned : {A : Type 0} (number : A → ℕ) (xs : List A) (from : ℕ) → Ascend number xs → IsPartitionedBy (λ x. nat_lt (number x) from) xs
Ascend-partitioned {A} number xs from up i j d le lt below =
    let b : number (get_or xs j d) < from = ltb-true _ _ below in
    elim (cases_lt i j) [
      | inl less ↦
          let rise : number (get_or xs i d) < number (get_or xs j d) = up i j _ _ (slice_get-get_or xs i d (omega arith)) (slice_get-get_or xs j d lt) less in
          lt-ltb (number (get_or xs i d)) from (omega arith)
      | inr ge ↦ let same : i ≡ j = omega arith in rw same below
    ]

-- the two sides of a place up to which numbers are below a bound
pub before_place : {A : Type 0} (number : A → ℕ) (xs : List A) (from place : ℕ) → IsPartitionPoint (λ x. nat_lt (number x) from ≡ true) (λ x. nat_lt (number x) from ≡ false) xs place →
    (i : ℕ) (a : A) → slice_get xs i ≡ Some a → i < place → number a < from
before_place number xs from place p i a at lt =
    let below = p.0 i a (omega arith) lt in
    ltb-true (number a) from (rw (get_or_from_slice_get xs i a a at) at below)

pub from_place : {A : Type 0} (number : A → ℕ) (xs : List A) (from place : ℕ) → IsPartitionPoint (λ x. nat_lt (number x) from ≡ true) (λ x. nat_lt (number x) from ≡ false) xs place →
    (i : ℕ) (a : A) → slice_get xs i ≡ Some a → place ≤ i → from ≤ number a
from_place number xs from place p i a at le =
    let above = p.1 i a le (slice_get_within xs i a at) in
    ltb-false (number a) from (rw (get_or_from_slice_get xs i a a at) at above)

pub none_past : {A : Type 0} (xs : List A) (i : ℕ) → slice_get xs i ≡ None → length xs ≤ i
none_past xs i h = elim (slice_get_cases xs i).1 [ inl there ↦ let e = there.2 in cc | inr past ↦ past.0 ]

-- the item at the place of a number, or none with the number
pub place_none : {A : Type 0} (number : A → ℕ) (xs : List A) (n place : ℕ) → ((i : ℕ) (a : A) → slice_get xs i ≡ Some a → i < place → number a < n) → slice_get xs place ≡ None →
    find (λ x. eqb (number x) n) xs ≡ None
place_none {A} number xs n place before end = find_none number xs n none
  where
    none : (i : ℕ) (a : A) → slice_get xs i ≡ Some a → number a ≡ n → ⊥
    none i a at e =
        elim (cases_lt i place) [
          | inl less ↦ let b = before i a at less in omega (arith, b)
          | inr ge ↦ let past : length xs ≤ place = none_past xs place end in let within = slice_get_within xs i a at in omega (arith, within)
        ]

pub place_other : {A : Type 0} (number : A → ℕ) (xs : List A) (n place : ℕ) (o : A) → Ascend number xs → ((i : ℕ) (a : A) → slice_get xs i ≡ Some a → i < place → number a < n) →
    ((i : ℕ) (a : A) → slice_get xs i ≡ Some a → place ≤ i → n ≤ number a) → slice_get xs place ≡ Some o → (number o ≡ n → ⊥) → find (λ x. eqb (number x) n) xs ≡ None
place_other {A} number xs n place o up before behind here other = find_none number xs n none
  where
    none : (i : ℕ) (a : A) → slice_get xs i ≡ Some a → number a ≡ n → ⊥
    none i a at e =
        elim (cases_lt i place) [
          | inl less ↦ let b = before i a at less in omega (arith, b)
          | inr ge ↦ elim (eq-or-lt_of_le ge) [
            | inl same ↦ let there : slice_get xs place ≡ Some a = rw same at in let both : o ≡ a = cc in other (rw both e)
            | inr later ↦ let rise = up place i o a here at later in let least = behind place o here (omega arith) in omega (arith, rise, least)
          ]
        ]
