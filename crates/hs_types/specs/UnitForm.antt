-- The form of units and of rule sets: what the check of a text promises of the set that it
-- lets through.
use Rattle.std.specs.Prelude.{ℕ, ◌≤◌, ◌≡◌, List, ◌++◌, map, length, true, Option, Some, None, IsSome, IsSomeAnd, slice_get}
use Rattle.std.specs.List.{All, filter_map, find, list_any}
use Rattle.std.specs.Option.{option_map}
use Rattle.hs_expr.specs.declared.value.Kind.TheVariants as value
use Rattle.hs_expr.specs.Evaluation.{kind_of}
use Rattle.hs_types.specs.declared.meta.Metamodel.{Metamodel}
use Rattle.hs_types.specs.declared.rule.Direction.TheVariants.{In, Out}
use Rattle.hs_types.specs.declared.rule.Param.{Param}
use Rattle.hs_types.specs.declared.rule.ParamKind.{ParamKind}
use Rattle.hs_types.specs.declared.rule.ParamKind.TheVariants.{Data, Object}
use Rattle.hs_types.specs.declared.rule.Rule.{Rule}
use Rattle.hs_types.specs.declared.unit.Atom.{Atom}
use Rattle.hs_types.specs.declared.unit.Atom.TheVariants as atom
use Rattle.hs_types.specs.declared.unit.Bind.{Bind}
use Rattle.hs_types.specs.declared.unit.Bind.TheVariants.{Give, Take}
use Rattle.hs_types.specs.declared.unit.Body.{Body}
use Rattle.hs_types.specs.declared.unit.Body.TheVariants.{Iterated}
use Rattle.hs_types.specs.declared.unit.Call.{Call}
use Rattle.hs_types.specs.declared.unit.Callee.{Callee}
use Rattle.hs_types.specs.declared.unit.Callee.TheVariants as callee
use Rattle.hs_types.specs.declared.unit.Count.{Count}
use Rattle.hs_types.specs.declared.unit.Count.TheVariants as count
use Rattle.hs_types.specs.declared.unit.Unit.{Unit as RuleUnit}
use Rattle.hs_types.specs.Limits.{IsSmallRule, IsSmallUnit}
use Rattle.hs_expr.specs.Lists.{same_text, Differ}
use Rattle.hs_types.specs.Metamodel.{Conforms, class_at}
use Rattle.hs_types.specs.RuleForm.{IsRule}
use Rattle.hs_types.specs.Reachability.{Reaches}
use Rattle.hs_types.specs.Units.{calls_of}

-- The parameter of this name.
abbrev pub param_named : List Param → List ℕ → Option Param
param_named params name = find (λ param. same_text param.name name) params

-- The parameters of the rule or the unit that is called.
abbrev pub params_of : List Rule → List RuleUnit → Callee → Option (List Param)
params_of rules units (callee.Rule place) = option_map (λ rule. rule.params) (slice_get rules place)
params_of rules units (callee.Unit place) = option_map (λ unit. unit.params) (slice_get units place)

-- What is of the one kind fits the other: data of the same kind, or an object of a class that
-- conforms.
abbrev pub KindFits : Metamodel → ParamKind → ParamKind → Type 0
KindFits m (Data given) (Data wanted) = given ≡ wanted
KindFits m (Object given) (Object wanted) = Conforms m given wanted
KindFits m given wanted = ⊥

-- What a call gives to a parameter of this kind: a value of it, or what a parameter of the unit
-- holds, in or out.
abbrev pub AtomFits : Metamodel → List Param → Atom → ParamKind → Type 0
AtomFits m own (atom.Value v) wanted = Data (kind_of v) ≡ wanted
AtomFits m own (atom.Name name) wanted =
    IsSomeAnd (param_named own name) (λ param. KindFits m param.kind wanted)

-- Where a call puts what it gives back: an out parameter of the unit, for an object of a class that
-- what comes back conforms to.
abbrev pub GoalFits : Metamodel → ParamKind → Param → Type 0
GoalFits m given goal = (goal.direction ≡ Out) × KindFits m given goal.kind

-- An in parameter of what is called is given what fits it, and what an out parameter gives back
-- goes where it fits.
abbrev pub BindFits : Metamodel → List Param → List Param → Bind → Type 0
BindFits m own params (Give name given) =
    IsSomeAnd (param_named params name)
    (λ param. (param.direction ≡ In) × AtomFits m own given param.kind)
BindFits m own params (Take name variable) =
    IsSomeAnd (param_named params name) (λ param. (param.direction ≡ Out)
    × IsSomeAnd (param_named own variable) (GoalFits m param.kind))

-- The name of the parameter that a bind ties.
abbrev pub bound_name : Bind → List ℕ
bound_name (Give name given) = name
bound_name (Take name variable) = name

-- The binds of a call of what has these parameters, inside a unit with its own: each ties a
-- parameter of its own in a way that fits, and each in parameter is tied.
pub record AreBinds (m : Metamodel) (own : List Param) (params : List Param)
    (binds : List Bind) : Type 0 where
  pub differ : Differ (map bound_name binds)
  pub fit : All (BindFits m own params) binds
  pub all_given : All (λ param. param.direction ≡ In
      → list_any (λ bind. same_text (bound_name bind) param.name) binds ≡ true) params

-- What is called is there, and the binds fit it.
abbrev pub CallFits : Metamodel → List Rule → List RuleUnit → List Param → Call → Type 0
CallFits m rules units own call =
    IsSomeAnd (params_of rules units call.callee) (λ params. AreBinds m own params call.binds)

-- A count by name is an in parameter of the unit, for a whole number.
abbrev pub CountFits : List Param → Count → Type 0
CountFits own (count.Literal n) = Unit {0}
CountFits own (count.Param name) =
    IsSomeAnd (param_named own name)
    (λ param. (param.direction ≡ In) × (param.kind ≡ Data value.Int))

abbrev pub BodyFits : List Param → Body → Type 0
BodyFits own (Iterated times call) = CountFits own times
BodyFits own body = Unit {0}

-- A unit's parameter is for a value that is given, or for an object of a class that there is.
abbrev pub UnitParamFits : Metamodel → Param → ParamKind → Type 0
UnitParamFits m param (Data kind) = param.direction ≡ In
UnitParamFits m param (Object class) = IsSome (class_at m class)

-- A unit among these rules and units. Its parameters have names of their own.
pub record IsUnit (m : Metamodel) (rules : List Rule) (units : List RuleUnit)
    (unit : RuleUnit) : Type 0 where
  pub params_differ : Differ (map (λ param. param.name) unit.params)
  pub params_fit : All (λ param. UnitParamFits m param param.kind) unit.params
  pub calls_fit : All (CallFits m rules units unit.params) (calls_of unit.body)
  pub body_fits : BodyFits unit.params unit.body

-- The units that a unit calls, by their places.
abbrev pub unit_in : Callee → Option ℕ
unit_in (callee.Rule place) = None
unit_in (callee.Unit place) = Some place

abbrev pub units_called : RuleUnit → List ℕ
units_called unit = filter_map (λ call. unit_in call.callee) (calls_of unit.body)

-- No unit calls itself, by one step or more.
abbrev pub AreAcyclic : List RuleUnit → Type 0
AreAcyclic units = (place : ℕ) → Reaches (map units_called units) place place → ⊥

-- The rules and units of a set over a metamodel. At most 64 of each, no two of one name.
pub record IsRuleSet (m : Metamodel) (rules : List Rule) (units : List RuleUnit) : Type 0 where
  pub are_rules : All (λ rule. IsRule m rule × IsSmallRule rule) rules
  pub are_units : All (λ unit. IsUnit m rules units unit × IsSmallUnit unit) units
  pub names_differ : Differ (map (λ rule. rule.name) rules ++ map (λ unit. unit.name) units)
  pub acyclic : AreAcyclic units
  pub few_rules : length rules ≤ 64
  pub few_units : length units ≤ 64
