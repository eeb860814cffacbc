-- Words on lists.
use Rattle.std.specs.Prelude.{ℕ, ◌+◌, ◌≤◌, ◌≡◌, List, [], ◌∷◌, Bool, false, not, eqb, nat_eq, cond, Option, Some}
use Rattle.std.specs.List.{All, list_any, filter}
use Rattle.std.specs.Option.{option_map, option_and_then}
use Rattle.std.specs.Cmp.Lexicographic.{pointwise}

-- The number is one of these.
abbrev pub has : List ℕ → ℕ → Bool
has numbers n = list_any (eqb n) numbers

-- No number is in both lists.
abbrev pub Apart : List ℕ → List ℕ → Type 0
Apart these those = All (λ n. has those n ≡ false) these

-- The relation holds between each item and each later one.
abbrev pub EachPair : {A : Type 0} → (A → A → Type 0) → List A → Type 0
EachPair R [] = Unit {0}
EachPair R (x ∷ xs) = All (R x) xs × EachPair R xs

-- No item comes twice.
abbrev pub Differ : {A : Type 0} → List A → Type 0
Differ xs = EachPair (λ x y. x ≡ y → ⊥) xs

-- The numbers rise, from `low` on and below `high`.
abbrev pub Rise : ℕ → List ℕ → ℕ → Type 0
Rise low [] high = low ≤ high
Rise low (n ∷ ns) high = (low ≤ n) × Rise (n + 1) ns high

-- The two texts are the same.
abbrev pub same_text : List ℕ → List ℕ → Bool
same_text = pointwise nat_eq

-- Each number once, at its first place.
abbrev pub each_once : List ℕ → List ℕ
each_once [] = []
each_once (n ∷ ns) = n ∷ filter (λ k. not (eqb k n)) (each_once ns)

-- The places at which an item passes the test, where the first item has this place.
abbrev pub places_from : {A : Type 0} → ℕ → (A → Bool) → List A → List ℕ
places_from i test [] = []
places_from i test (x ∷ xs) =
    cond (test x) (i ∷ places_from (i + 1) test xs) (places_from (i + 1) test xs)

-- The places at which an item passes the test.
abbrev pub places : {A : Type 0} → (A → Bool) → List A → List ℕ
places test xs = places_from 0 test xs

-- The items of the second list at whose places the first has an item that passes the test.
abbrev pub beside : {A B : Type 0} → (A → Bool) → List A → List B → List B
beside test [] ys = []
beside test (x ∷ xs) [] = []
beside test (x ∷ xs) (y ∷ ys) = cond (test x) (y ∷ beside test xs ys) (beside test xs ys)

-- What f gives of each item, where it gives something of each.
abbrev pub map_all : {A B : Type 0} → (A → Option B) → List A → Option (List B)
map_all f [] = Some []
map_all f (x ∷ xs) = option_and_then (λ y. option_map (λ ys. y ∷ ys) (map_all f xs)) (f x)
