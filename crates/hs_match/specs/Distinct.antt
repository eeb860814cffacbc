-- That numbers differ is a proposition: it has one proof at most.
use Rattle.std.specs.Prelude.{ℕ, List, [], ◌∷◌}
use Rattle.std.specs.Coded.{×_prop, Unit-prop}
use Rattle.hs_expr.specs.Lists.{Differ}

-- That numbers differ has one proof at most.
pub Differ-prop : (numbers : List ℕ) → IsProp (Differ numbers)
Differ-prop [] = Unit-prop
Differ-prop (n ∷ ns) = ×_prop (hlevel) (Differ-prop ns)
