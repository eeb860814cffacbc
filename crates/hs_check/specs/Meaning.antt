-- What a text without faults means.
use Rattle.std.specs.Prelude.{◌≡◌, List}
use Rattle.hs_text.specs.declared.syntax.Definition.{Definition}
use Rattle.hs_types.specs.declared.meta.Metamodel.{Metamodel}
use Rattle.hs_types.specs.Rules.{Rules}
use Rattle.hs_check.specs.Rules.{rules_meant}
use Rattle.hs_check.specs.Units.{units_meant}

-- The rule set has the rules and the units that the text means.
abbrev pub IsMeant : Metamodel → List Definition → Rules → Type 0
IsMeant m definitions set =
    (set.rules ≡ rules_meant m definitions) × (set.units ≡ units_meant m definitions)
