-- What a call asks of what it calls.
use Rattle.std.specs.Prelude.{List, [], ◌∷◌, ◌++◌}
use Rattle.std.specs.List.{flat_map}
use Rattle.hs_expr.specs.declared.Name.{Name}
use Rattle.hs_text.specs.declared.syntax.Definition.{Definition}
use Rattle.hs_text.specs.declared.syntax.Definition.TheVariants as definition
use Rattle.hs_text.specs.declared.syntax.Param.{Param}

-- The name of a rule or a unit, and its parameters.
pub record NamedParams : Type 0 where
  pub name : Name
  pub params : List Param

abbrev pub named_params : Name → List Param → NamedParams
named_params name params = record { name = name; params = params }

abbrev pub rule_params : Definition → List NamedParams
rule_params (definition.Rule rule) = named_params rule.name rule.params ∷ []
rule_params (definition.Unit unit) = []

abbrev pub unit_params : Definition → List NamedParams
unit_params (definition.Rule rule) = []
unit_params (definition.Unit unit) = named_params unit.name unit.params ∷ []

-- The names and parameters of all that calls may name: the rules, and then the units, so that a
-- rule comes before a unit of its name.
abbrev pub all_params : List Definition → List NamedParams
all_params definitions = flat_map rule_params definitions ++ flat_map unit_params definitions
