-- Choices of different numbers, on which the search is tried.
use Rattle.std.specs.Prelude.{ℕ, ◌<◌, ◌≡◌, ◌-◌, List, [], Option, Contains, length, slice_get}
use Rattle.hs_search.specs.Choice.{EachFits}

-- A number below the bound that is not there yet.
pub record IsNew (below : ℕ) (front : List ℕ) (x : ℕ) : Type 0 where
  pub small : x < below
  pub fresh : Contains front x → ⊥

-- Different numbers below the bound, with this one as the last.
pub record IsVaried (below : ℕ) (last : Option ℕ) (xs : List ℕ) : Type 0 where
  pub new : EachFits (IsNew below) [] xs
  pub ends : slice_get xs (length xs - 1) ≡ last
