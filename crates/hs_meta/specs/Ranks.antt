-- An order of classes in which each comes after its supertypes.
use Rattle.std.specs.Prelude.{ℕ, ◌≡◌, ◌<◌, List, [], map, length, Bool, true, not, get_or, count_by}
use Rattle.hs_expr.specs.Lists.{has}

-- How many classes are not below each class, by the rows of what is below.
abbrev pub ranks : List (List Bool) → List ℕ
ranks rows = map (λ row. count_by not row) rows

-- Each supertype of a class is a class, and has a lower rank.
abbrev pub AreRanked : List (List ℕ) → List ℕ → Type 0
AreRanked supers ranks =
    (c s : ℕ) → has (get_or supers c []) s ≡ true
    → (s < length supers) × (get_or ranks s 0 < get_or ranks c 0)
