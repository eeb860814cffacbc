-- Lists of numbers in lexicographic order, as texts are by their bytes.
use Rattle.std.specs.Prelude.{ℕ, ◌<◌, ◌≡◌, ◌⊎◌, List, [], ◌∷◌, Bool, true, false, ◌&&◌, ◌||◌, eqb, nat_lt, if◌then◌else◌}
use Rattle.std.specs.List.{list_all}

-- The first list comes before the second: at the first place where they differ it has the smaller
-- number, or it ends there.
abbrev pub IsBefore : List ℕ → List ℕ → Type 0
IsBefore xs [] = ⊥
IsBefore [] (y ∷ ys) = Unit {0}
IsBefore (x ∷ xs) (y ∷ ys) = (x < y) ⊎ ((x ≡ y) × IsBefore xs ys)

-- The same order as a test.
abbrev pub is_before : List ℕ → List ℕ → Bool
is_before xs [] = false
is_before [] (y ∷ ys) = true
is_before (x ∷ xs) (y ∷ ys) = nat_lt x y || (eqb x y && is_before xs ys)

-- Each list comes before all later ones.
abbrev pub rises : List (List ℕ) → Bool
rises [] = true
rises (xs ∷ later) = list_all (is_before xs) later && rises later

-- Items in the order of their keys.
abbrev pub insert_by : {A : Type 0} → (A → List ℕ) → A → List A → List A
insert_by key x [] = x ∷ []
insert_by key x (y ∷ ys) =
    if is_before (key y) (key x) then y ∷ insert_by key x ys else x ∷ y ∷ ys

abbrev pub sorted_by : {A : Type 0} → (A → List ℕ) → List A → List A
sorted_by key [] = []
sorted_by key (x ∷ xs) = insert_by key x (sorted_by key xs)
