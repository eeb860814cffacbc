-- Choices of different numbers.
use Rattle.std.proofs.Common.{ℕ, List, [], ◌∷◌, ◌++◌, Option, append-nil, append_assoc}
use Rattle.hs_search.specs.Choice.{EachFits, IsDeadEnd}
use Rattle.hs_tests_engine.specs.Varied.{IsNew, IsVaried}

-- A number in the middle fits after those before it.
EachFits-at : (Fits : List ℕ → ℕ → Type 0) (front xs : List ℕ) (x : ℕ) (rest : List ℕ) → EachFits Fits front (xs ++ x ∷ rest) → Fits (front ++ xs) x
EachFits-at Fits front [] x rest h = rw append-nil h.0
EachFits-at Fits front (y ∷ xs) x rest h = rw append_assoc at (EachFits-at Fits (front ++ y ∷ []) xs x rest h.1)

-- A number that is not new leads to no choice.
pub not-new : (below size : ℕ) (last : Option ℕ) (front : List ℕ) (y : ℕ) → (IsNew below front y → ⊥) → IsDeadEnd size (IsVaried below last) (front ++ y ∷ [])
not-new below size last front y old = λ rest choice. old (EachFits-at (IsNew below) [] front y rest (rw append_assoc at choice.good.new))
