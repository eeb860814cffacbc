-- Choices of numbers: the lists that are searched, and the least of them.
use Rattle.std.specs.Prelude.{ℕ, ◌≡◌, List, [], ◌∷◌, ◌++◌, length}
use Rattle.hs_expr.specs.Lexicographic.{IsBefore}

-- Of the wanted lists, this one is the least.
pub record IsLeastList (Wanted : List ℕ → Type 0) (xs : List ℕ) : Type 0 where
  pub wanted : Wanted xs
  pub least : (others : List ℕ) → Wanted others → IsBefore others xs → ⊥

-- No list is wanted.
abbrev pub IsNone : (List ℕ → Type 0) → Type 0
IsNone Wanted = (xs : List ℕ) → Wanted xs → ⊥

-- A good list of numbers of this length.
pub record IsChoice (size : ℕ) (Good : List ℕ → Type 0) (xs : List ℕ) : Type 0 where
  pub whole : length xs ≡ size
  pub good : Good xs

-- A choice that comes after this list.
pub record IsChoiceAfter (size : ℕ) (Good : List ℕ → Type 0) (after xs : List ℕ) : Type 0 where
  pub choice : IsChoice size Good xs
  pub above : IsBefore after xs

-- No choice begins with these numbers.
abbrev pub IsDeadEnd : ℕ → (List ℕ → Type 0) → List ℕ → Type 0
IsDeadEnd size Good front = (rest : List ℕ) → IsChoice size Good (front ++ rest) → ⊥

-- Each number fits after those before it, the first of them after `front`.
abbrev pub EachFits : (List ℕ → ℕ → Type 0) → List ℕ → List ℕ → Type 0
EachFits Fits front [] = Unit {0}
EachFits Fits front (x ∷ xs) = Fits front x × EachFits Fits (front ++ x ∷ []) xs
