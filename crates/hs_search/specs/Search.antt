-- The choices that continue a front, and the least of them above a bound.
use Rattle.std.specs.Prelude.{ℕ, ◌≡◌, List, [], ◌∷◌, ◌++◌, Option, Some, None}
use Rattle.hs_expr.specs.Lexicographic.{IsBefore}
use Rattle.hs_search.specs.Choice.{IsChoice, IsLeastList}

-- The list comes after the bound, if there is one.
abbrev pub IsAbove : Option (List ℕ) → List ℕ → Type 0
IsAbove None xs = Unit {0}
IsAbove (Some bound) xs = IsBefore bound xs

-- The least number that a list above the bound can begin with.
abbrev pub floor : Option (List ℕ) → ℕ
floor None = 0
floor (Some []) = 0
floor (Some (x ∷ xs)) = x

-- These numbers make a choice of those in front of them, and come after the bound.
pub record GoesOn (size : ℕ) (Good : List ℕ → Type 0) (bound : Option (List ℕ))
    (front rest : List ℕ) : Type 0 where
  pub choice : IsChoice size Good (front ++ rest)
  pub above : IsAbove bound rest

-- The list is what was in front and the least that makes a choice of it.
pub record GoesOnBest (size : ℕ) (Good : List ℕ → Type 0) (bound : Option (List ℕ))
    (front all : List ℕ) : Type 0 where
  pub rest : List ℕ
  pub joined : all ≡ front ++ rest
  pub best : IsLeastList (GoesOn size Good bound front) rest
