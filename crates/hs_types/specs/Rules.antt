-- Rules and units over a metamodel, as plain data.
use Rattle.std.specs.Prelude.{List}
use Rattle.hs_types.specs.declared.meta.Metamodel.{Metamodel}
use Rattle.hs_types.specs.declared.rule.Rule.{Rule}
use Rattle.hs_types.specs.declared.unit.Unit.{Unit as RuleUnit}
use Rattle.hs_types.specs.Limits.{IsSmallMeta}
use Rattle.hs_types.specs.Metamodel.{IsMeta}
use Rattle.hs_types.specs.UnitForm.{IsRuleSet}

pub record Rules : Type 0 where
  pub meta : Metamodel
  pub rules : List Rule
  pub units : List RuleUnit

-- The metamodel is one within the limits, and the rules and units are in their form.
abbrev pub AreFormed : Rules → Type 0
AreFormed rules =
    IsMeta rules.meta × IsSmallMeta rules.meta × IsRuleSet rules.meta rules.rules rules.units
