-- What names denote in a metamodel.
use Rattle.std.specs.Prelude.{ℕ, List, Option}
use Rattle.std.specs.List.{position}
use Rattle.hs_expr.specs.Lists.{same_text}
use Rattle.hs_types.specs.declared.meta.Metamodel.{Metamodel}

-- The number of the class of this name.
abbrev pub class_named : Metamodel → List ℕ → Option ℕ
class_named m name = position (λ class. same_text name class.name) m.classes
