-- Members that are put into an object by key, as a list of the items that they are the members of.
use Rattle.std.proofs.Common.{ℕ, ◌≡◌, List, [], ◌∷◌, Bool, true, false, cond, map, find, Option, Some, None, Ordering, Less, Equal, Greater, nat_cmp, is_eq, refl, ap, sym, ◌∙◌, subst}
use Rattle.std.proofs.lemmas.Cmp.{nat_list_cmp_total, tied_itself}
use Rattle.std.proofs.lemmas.List.Elements.{All-nil, All-cons, All-head, All-tail}
use Rattle.std.proofs.lemmas.Map.Text.{is_eq-slice_cmp}
use Rattle.std.proofs.lemmas.Slice.Eq.{bytes_eq-Decides}
use Rattle.std.specs.Cmp.Lexicographic.{slice_cmp}
use Rattle.std.specs.List.{All}
use Rattle.std.specs.Option.{option_or}
use Rattle.std.specs.Ordering.{match_ordering}
use Rattle.serde_json.specs.Data.{Data, Members, no_members, member, put}
use Rattle.hs_expr.specs.Lists.{Differ, same_text}
use Rattle.hs_json_model.specs.Written.{with_members}

-- An item among others in the order of their keys; one of the same key makes room for it.
abbrev pub placed : {X : Type 0} → (X → List ℕ) → X → List X → List X
placed key x [] = x ∷ []
placed key x (y ∷ ys) = match_ordering (slice_cmp nat_cmp (key x) (key y)) (x ∷ y ∷ ys) (x ∷ ys) (y ∷ placed key x ys)

abbrev pub placed_all : {X : Type 0} → (X → List ℕ) → List X → List X → List X
placed_all key ys [] = ys
placed_all key ys (x ∷ xs) = placed_all key (placed key x ys) xs

-- The items in the order of their keys.
abbrev pub sorted : {X : Type 0} → (X → List ℕ) → List X → List X
sorted key xs = placed_all key [] xs

-- The members of items, in the items' order.
abbrev pub members : {X : Type 0} → (X → List ℕ) → (X → Data) → List X → Members
members key data_of [] = no_members
members key data_of (x ∷ xs) = member (key x) (data_of x) (members key data_of xs)

same_keys : (k l : List ℕ) → slice_cmp nat_cmp k l ≡ Equal → k ≡ l
same_keys k l is = (bytes_eq-Decides k l).0 (sym (is_eq-slice_cmp k l) ∙ ap is_eq is)

same_itself : (k : List ℕ) → slice_cmp nat_cmp k k ≡ Equal
same_itself k = tied_itself nat_list_cmp_total k

put_at : {X : Type 0} (o : Ordering) (key : X → List ℕ) (data_of : X → Data) (x y : X) (ys : List X) → slice_cmp nat_cmp (key x) (key y) ≡ o →
    put (key x) (data_of x) (members key data_of ys) ≡ members key data_of (placed key x ys) →
    match_ordering o (member (key x) (data_of x) (member (key y) (data_of y) (members key data_of ys))) (member (key y) (data_of x) (members key data_of ys)) (member (key y) (data_of y) (put (key x) (data_of x) (members key data_of ys)))
    ≡ members key data_of (match_ordering o (x ∷ y ∷ ys) (x ∷ ys) (y ∷ placed key x ys))
put_at Less key data_of x y ys is later = refl
put_at Equal key data_of x y ys is later = ap (λ k. member k (data_of x) (members key data_of ys)) (sym (same_keys (key x) (key y) is))
put_at Greater key data_of x y ys is later = ap (member (key y) (data_of y)) later

put_placed : {X : Type 0} (key : X → List ℕ) (data_of : X → Data) (x : X) (ys : List X) → put (key x) (data_of x) (members key data_of ys) ≡ members key data_of (placed key x ys)
put_placed key data_of x [] = refl
put_placed key data_of x (y ∷ ys) = put_at (slice_cmp nat_cmp (key x) (key y)) key data_of x y ys refl (put_placed key data_of x ys)

with_placed : {X : Type 0} (key : X → List ℕ) (data_of : X → Data) (ys xs : List X) →
    with_members (members key data_of ys) (map (λ x. (key x, data_of x)) xs) ≡ members key data_of (placed_all key ys xs)
with_placed key data_of ys [] = refl
with_placed key data_of ys (x ∷ xs) =
    ap (λ ms. with_members ms (map (λ x. (key x, data_of x)) xs)) (put_placed key data_of x ys) ∙ with_placed key data_of (placed key x ys) xs

-- The members of items are those of the items in the order of their keys.
pub with_sorted : {X : Type 0} (key : X → List ℕ) (data_of : X → Data) (xs : List X) →
    with_members no_members (map (λ x. (key x, data_of x)) xs) ≡ members key data_of (sorted key xs)
with_sorted key data_of xs = with_placed key data_of [] xs

-- ---- what is found among items in the order of their keys

once : {X : Type 0} (b : Bool) (x y : X) (rest : Option X) → cond b (Some x) rest ≡ cond b (Some x) (cond b (Some y) rest)
once true x y rest = refl
once false x y rest = refl

either_first : {X : Type 0} (a b : Bool) (x y : X) (rest : Option X) → (a ≡ true → b ≡ true → ⊥) → cond b (Some y) (cond a (Some x) rest) ≡ cond a (Some x) (cond b (Some y) rest)
either_first true true x y rest apart = absurd (apart refl refl)
either_first true false x y rest apart = refl
either_first false true x y rest apart = refl
either_first false false x y rest apart = refl

greater_apart : (k l : List ℕ) → slice_cmp nat_cmp k l ≡ Greater → k ≡ l → ⊥
greater_apart k l is same =
    let both : Equal ≡ Greater = sym (same_itself k) ∙ ap (slice_cmp nat_cmp k) same ∙ is in absurd (cc)

found_at : {X : Type 0} (o : Ordering) (key : X → List ℕ) (k : List ℕ) (x y : X) (ys : List X) → slice_cmp nat_cmp (key x) (key y) ≡ o →
    find (λ z. same_text (key z) k) (placed key x ys) ≡ cond (same_text (key x) k) (Some x) (find (λ z. same_text (key z) k) ys) →
    find (λ z. same_text (key z) k) (match_ordering o (x ∷ y ∷ ys) (x ∷ ys) (y ∷ placed key x ys))
    ≡ cond (same_text (key x) k) (Some x) (cond (same_text (key y) k) (Some y) (find (λ z. same_text (key z) k) ys))
found_at Less key k x y ys is later = refl
found_at Equal key k x y ys is later =
    subst (λ (l : List ℕ). cond (same_text (key x) k) (Some x) (find (λ z. same_text (key z) k) ys) ≡ cond (same_text (key x) k) (Some x) (cond (same_text l k) (Some y) (find (λ z. same_text (key z) k) ys)))
    (same_keys (key x) (key y) is) (once (same_text (key x) k) x y (find (λ z. same_text (key z) k) ys))
found_at Greater key k x y ys is later =
    ap (cond (same_text (key y) k) (Some y)) later
    ∙ either_first (same_text (key x) k) (same_text (key y) k) x y (find (λ z. same_text (key z) k) ys)
    (λ s t. greater_apart (key x) (key y) is ((bytes_eq-Decides (key x) k).0 s ∙ sym ((bytes_eq-Decides (key y) k).0 t)))

found_placed : {X : Type 0} (key : X → List ℕ) (k : List ℕ) (x : X) (ys : List X) →
    find (λ z. same_text (key z) k) (placed key x ys) ≡ cond (same_text (key x) k) (Some x) (find (λ z. same_text (key z) k) ys)
found_placed key k x [] = refl
found_placed key k x (y ∷ ys) = found_at (slice_cmp nat_cmp (key x) (key y)) key k x y ys refl (found_placed key k x ys)

-- A key that none of the items has is not found.
pub not_found : {X : Type 0} (key : X → List ℕ) (k : List ℕ) (xs : List X) → All (λ l. k ≡ l → ⊥) (map key xs) → find (λ z. same_text (key z) k) xs ≡ None
not_found key k [] apart = refl
not_found key k (x ∷ xs) apart =
    rest (same_text (key x) k) refl (not_found key k xs (All-tail (λ l. k ≡ l → ⊥) (key x) (map key xs) apart))
  where
    rest : (b : Bool) → same_text (key x) k ≡ b → find (λ z. same_text (key z) k) xs ≡ None → cond b (Some x) (find (λ z. same_text (key z) k) xs) ≡ None
    rest true e none = absurd (All-head (λ l. k ≡ l → ⊥) (key x) (map key xs) apart (sym ((bytes_eq-Decides (key x) k).0 e)))
    rest false e none = none

found_all : {X : Type 0} (key : X → List ℕ) (k : List ℕ) (ys xs : List X) → Differ (map key xs) →
    find (λ z. same_text (key z) k) (placed_all key ys xs) ≡ option_or (find (λ z. same_text (key z) k) xs) (find (λ z. same_text (key z) k) ys)
found_all key k ys [] differ = refl
found_all key k ys (x ∷ xs) differ =
    found_all key k (placed key x ys) xs differ.1
    ∙ ap (option_or (find (λ z. same_text (key z) k) xs)) (found_placed key k x ys)
    ∙ step (same_text (key x) k) refl
  where
    step : (b : Bool) → same_text (key x) k ≡ b →
        option_or (find (λ z. same_text (key z) k) xs) (cond b (Some x) (find (λ z. same_text (key z) k) ys)) ≡ option_or (cond b (Some x) (find (λ z. same_text (key z) k) xs)) (find (λ z. same_text (key z) k) ys)
    step true e =
        ap (λ o. option_or o (Some x)) (not_found key k xs (subst (λ (l : List ℕ). All (λ n. l ≡ n → ⊥) (map key xs)) ((bytes_eq-Decides (key x) k).0 e) differ.0))
    step false e = refl

or_none : {X : Type 0} (o : Option X) → option_or o None ≡ o
or_none None = refl
or_none (Some x) = refl

-- Where keys differ, what is found by its key is the same in the order of keys.
pub found_sorted : {X : Type 0} (key : X → List ℕ) (k : List ℕ) (xs : List X) → Differ (map key xs) →
    find (λ z. same_text (key z) k) (sorted key xs) ≡ find (λ z. same_text (key z) k) xs
found_sorted key k xs differ = found_all key k [] xs differ ∙ or_none (find (λ z. same_text (key z) k) xs)

-- ---- what holds of all items holds of them in the order of their keys

all_at : {X : Type 0} (P : X → Type 0) (o : Ordering) (x y : X) (ys zs : List X) → P x → All P (y ∷ ys) → All P zs → All P (match_ordering o (x ∷ y ∷ ys) (x ∷ ys) (y ∷ zs))
all_at P Less x y ys zs p all later = All-cons P x (y ∷ ys) p all
all_at P Equal x y ys zs p all later = All-cons P x ys p (All-tail P y ys all)
all_at P Greater x y ys zs p all later = All-cons P y zs (All-head P y ys all) later

all_placed : {X : Type 0} (P : X → Type 0) (key : X → List ℕ) (x : X) (ys : List X) → P x → All P ys → All P (placed key x ys)
all_placed P key x [] p all = All-cons P x [] p all
all_placed P key x (y ∷ ys) p all = all_at P (slice_cmp nat_cmp (key x) (key y)) x y ys (placed key x ys) p all (all_placed P key x ys p (All-tail P y ys all))

all_placed_all : {X : Type 0} (P : X → Type 0) (key : X → List ℕ) (ys xs : List X) → All P ys → All P xs → All P (placed_all key ys xs)
all_placed_all P key ys [] these those = these
all_placed_all P key ys (x ∷ xs) these those =
    all_placed_all P key (placed key x ys) xs (all_placed P key x ys (All-head P x xs those) these) (All-tail P x xs those)

pub all_sorted : {X : Type 0} (P : X → Type 0) (key : X → List ℕ) (xs : List X) → All P xs → All P (sorted key xs)
all_sorted P key xs all = all_placed_all P key [] xs (All-nil P) all
