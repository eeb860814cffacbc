-- All faults of units, in the order in which they are reported: unit by unit, and then the cycles.
use Rattle.std.specs.Prelude.{ℕ, List, [], ◌∷◌, ◌++◌, map, length, take, Bool, false, not, ◌&&◌, ◌||◌, nat_le, is_some, if◌then◌else◌, Option, Some, None}
use Rattle.std.specs.List.{filter, filter_map, flat_map, list_all, position}
use Rattle.std.specs.Option.{option_map, option_map_or, option_or}
use Rattle.hs_expr.specs.declared.Kind.{Kind}
use Rattle.hs_expr.specs.declared.Kind.TheVariants as sort
use Rattle.hs_expr.specs.declared.Name.{Name}
use Rattle.hs_expr.specs.Verdict.{each, fault_if}
use Rattle.hs_text.specs.declared.syntax.Atom.{Atom}
use Rattle.hs_text.specs.declared.syntax.Atom.TheVariants as atom
use Rattle.hs_text.specs.declared.syntax.Bind.{Bind}
use Rattle.hs_text.specs.declared.syntax.Bind.TheVariants as bind
use Rattle.hs_text.specs.declared.syntax.Body.{Body}
use Rattle.hs_text.specs.declared.syntax.Body.TheVariants as body
use Rattle.hs_text.specs.declared.syntax.Call.{Call}
use Rattle.hs_text.specs.declared.syntax.Count.{Count}
use Rattle.hs_text.specs.declared.syntax.Count.TheVariants as count
use Rattle.hs_text.specs.declared.syntax.Definition.{Definition}
use Rattle.hs_text.specs.declared.syntax.Definition.TheVariants as definition
use Rattle.hs_text.specs.declared.syntax.Param.{Param}
use Rattle.hs_text.specs.declared.syntax.Rule.{Rule}
use Rattle.hs_text.specs.declared.syntax.Unit.{Unit as WrittenUnit}
use Rattle.hs_types.specs.declared.meta.Metamodel.{Metamodel}
use Rattle.hs_expr.specs.Lists.{same_text}
use Rattle.hs_types.specs.Metamodel.{supers_of}
use Rattle.hs_types.specs.Reachability.{reaches}
use Rattle.hs_types.specs.Metamodel.{conforms}
use Rattle.hs_types.specs.declared.limits.TheConstants.{MAX_CALLS, MAX_PARAMS, MAX_UNITS}
use Rattle.hs_faults.specs.declared.fault.RuleFault.{RuleFault}
use Rattle.hs_faults.specs.declared.fault.RuleFaultKind.TheVariants as kind
use Rattle.hs_faults.specs.Bound.{tied_name}
use Rattle.hs_faults.specs.Declarations.{is_again}
use Rattle.hs_faults.specs.Faults.{faults_of_rules, as_rule}
use Rattle.hs_faults.specs.Named.{first_named}
use Rattle.hs_faults.specs.Names.{class_number, data_named}
use Rattle.hs_faults.specs.Places.{unit_fault_at}
use Rattle.hs_faults.specs.ParamNodes.{is_out}
use Rattle.hs_faults.specs.StatementFaults.{same_kind}

abbrev pub rules_of : List Definition → List Rule
rules_of definitions = flat_map as_rule definitions

-- The unit that a definition is, if it is one.
abbrev pub as_unit : Definition → List WrittenUnit
as_unit (definition.Rule rule) = []
as_unit (definition.Unit unit) = unit ∷ []

abbrev pub units_of : List Definition → List WrittenUnit
units_of definitions = flat_map as_unit definitions

-- The calls of a unit, in written order.
abbrev pub else_calls : Option Call → List Call
else_calls None = []
else_calls (Some call) = call ∷ []

abbrev pub written_calls : Body → List Call
written_calls (body.Sequential calls) = calls
written_calls (body.Independent calls) = calls
written_calls (body.Priority calls) = calls
written_calls (body.Conditional test next otherwise) = test ∷ next ∷ else_calls otherwise
written_calls (body.Loop call) = call ∷ []
written_calls (body.Iterated count call) = call ∷ []

abbrev pub first_param : List Param → List ℕ → Option Param
first_param params name = first_named (λ param. param.name) params name

abbrev pub first_rule : List Rule → List ℕ → Option Rule
first_rule rules name = first_named (λ rule. rule.name) rules name

abbrev pub first_unit : List WrittenUnit → List ℕ → Option WrittenUnit
first_unit units name = first_named (λ unit. unit.name) units name

-- The parameters of what has this name: the first rule, or else the first unit.
abbrev pub callee_params : List Rule → List WrittenUnit → List ℕ → Option (List Param)
callee_params rules units name =
    option_or (option_map (λ rule. rule.params) (first_rule rules name))
    (option_map (λ unit. unit.params) (first_unit units name))

-- The class of a parameter of this kind; none where it is for data, or the class isn't there.
abbrev pub class_of_kind : Metamodel → List ℕ → Option ℕ
class_of_kind m word = if is_some (data_named word) then None else class_number m word

-- The one kind fits the other: both are classes, and the first conforms to the second.
abbrev pub class_fits : Metamodel → List ℕ → List ℕ → Bool
class_fits m given wanted =
    option_map_or (λ c. option_map_or (λ d. conforms (supers_of m) c d) (class_of_kind m wanted)
    false) (class_of_kind m given) false

-- The parameter is for data of this kind.
abbrev pub is_data : Kind → Param → Bool
is_data wanted param =
    option_map_or (λ found. same_kind found wanted) (data_named param.kind.text) false

-- The value can be given where data of this kind is wanted; a name is one of a parameter of the
-- unit.
abbrev pub data_fits : List Param → Kind → Atom → Bool
data_fits own wanted (atom.Int minus value span) = same_kind sort.Int wanted
data_fits own wanted (atom.Text value span) = same_kind sort.Text wanted
data_fits own wanted (atom.Bool value span) = same_kind sort.Bool wanted
data_fits own wanted (atom.Name name) =
    option_map_or (is_data wanted) (first_param own name.text) false

-- The value can be given where an object of this class is wanted: it is a parameter of the unit, in
-- or out, for one.
abbrev pub object_fits : Metamodel → List Param → List ℕ → Atom → Bool
object_fits m own wanted (atom.Int minus value span) = false
object_fits m own wanted (atom.Text value span) = false
object_fits m own wanted (atom.Bool value span) = false
object_fits m own wanted (atom.Name name) =
    option_map_or (λ param. class_fits m param.kind.text wanted) (first_param own name.text) false

-- The value can be given where something of this kind is wanted.
abbrev pub value_fits : Metamodel → List Param → List ℕ → Atom → Bool
value_fits m own wanted value =
    option_map_or (λ k. data_fits own k value) (data_named wanted) (object_fits m own wanted value)

-- Something has to be given to the parameter.
abbrev pub takes_value : Param → Bool
takes_value param = not (is_out param.direction)

-- A parameter of what is called is given this value: it is an in parameter of a kind that the value
-- fits.
abbrev pub is_given : Metamodel → List Param → Atom → Param → Bool
is_given m own value param = takes_value param && value_fits m own param.kind.text value

-- What the parameter gives back can go to this one of the unit: both are out parameters, and the
-- one's class conforms to the other's.
abbrev pub is_goal : Metamodel → Param → Param → Bool
is_goal m param goal = is_out goal.direction && class_fits m param.kind.text goal.kind.text

abbrev pub is_taken : Metamodel → List Param → List ℕ → Param → Bool
is_taken m own variable param =
    is_out param.direction && option_map_or (is_goal m param) (first_param own variable) false

-- What a bind ties is a parameter of what is called, in a way that it takes.
abbrev pub bind_fits : Metamodel → List Param → List Param → Bind → Bool
bind_fits m own params (bind.Give name value) =
    option_map_or (is_given m own value) (first_param params name.text) false
bind_fits m own params (bind.Take name variable) =
    option_map_or (is_taken m own variable.text) (first_param params name.text) false

-- A bind after those before it: it fits, and ties a parameter that none before ties. All faults of
-- a call are reported at its name.
abbrev pub bind_faults : Metamodel → List Param → List Param → Name → List Bind → Bind
    → List RuleFault
bind_faults m own params callee before bind =
    fault_if (is_again tied_name before (tied_name bind))
    (unit_fault_at callee.span kind.ArgMismatch)
    ++ fault_if (not (bind_fits m own params bind)) (unit_fault_at callee.span kind.ArgMismatch)

abbrev pub faults_of_binds : Metamodel → List Param → List Param → Name → List Bind → List RuleFault
faults_of_binds m own params callee binds =
    each (λ i bind. bind_faults m own params callee (take i binds) bind) binds

-- The kind is one of data, or a class that is there.
abbrev pub is_known_kind : Metamodel → List ℕ → Bool
is_known_kind m word = is_some (data_named word) || is_some (class_number m word)

-- The parameters that calls denote: of each name the first.
abbrev pub meant_params : List Param → List Param
meant_params params =
    each (λ i param. if is_again (λ other. other.name) (take i params) param.name then []
    else param ∷ []) params

abbrev pub is_bound : List Bind → Param → Bool
is_bound binds param = is_some (first_named tied_name binds param.name.text)

-- Each parameter to which something has to be given is bound. Of two with one name the first
-- counts.
abbrev pub are_served : List Param → List Bind → Bool
are_served params binds = list_all (is_bound binds) (filter takes_value (meant_params params))

-- A call of what has these parameters.
abbrev pub argument_faults : Metamodel → List Param → List Param → Call → List RuleFault
argument_faults m own params call =
    faults_of_binds m own params call.callee call.binds
    ++ fault_if (not (are_served params call.binds))
    (unit_fault_at call.callee.span kind.ArgMismatch)

-- A call of something that is there, with binds that fit.
abbrev pub call_faults : Metamodel → List Rule → List WrittenUnit → List Param → Call
    → List RuleFault
call_faults m rules units own call =
    option_map_or (λ params. argument_faults m own params call) (callee_params rules units
    call.callee.text) (unit_fault_at call.callee.span kind.UnknownUnit ∷ [])

-- A count that is a name is an in parameter of kind int.
abbrev pub is_count : Param → Bool
is_count param = takes_value param && is_data sort.Int param

abbrev pub count_faults : List Param → Count → List RuleFault
count_faults own (count.Int value span) = []
count_faults own (count.Param name) =
    fault_if (not (option_map_or is_count (first_param own name.text) false))
    (unit_fault_at name.span kind.ArgMismatch)

abbrev pub choice_faults : (Call → List RuleFault) → Call → Call → Option Call → List RuleFault
choice_faults of_call test next otherwise =
    of_call test ++ (of_call next ++ option_map_or of_call otherwise [])

-- The calls one by one, and then the count.
abbrev pub body_faults : (Call → List RuleFault) → List Param → Body → List RuleFault
body_faults of_call own (body.Sequential calls) = each (λ i call. of_call call) calls
body_faults of_call own (body.Independent calls) = each (λ i call. of_call call) calls
body_faults of_call own (body.Priority calls) = each (λ i call. of_call call) calls
body_faults of_call own (body.Conditional test next otherwise) =
    choice_faults of_call test next otherwise
body_faults of_call own (body.Loop call) = of_call call
body_faults of_call own (body.Iterated count call) = of_call call ++ count_faults own count

abbrev pub gives_data_back : Param → Bool
gives_data_back param = is_some (data_named param.kind.text) && is_out param.direction

-- A unit's parameter is for data or of a class, and data isn't given back.
abbrev pub unit_kind_faults : Metamodel → Param → List RuleFault
unit_kind_faults m param =
    fault_if (not (is_known_kind m param.kind.text))
    (unit_fault_at param.kind.span kind.UnknownClass)
    ++ fault_if (gives_data_back param) (unit_fault_at param.name.span kind.ArgMismatch)

-- A unit's parameter has a name that none before it has.
abbrev pub unit_param_faults : Metamodel → List Param → Param → List RuleFault
unit_param_faults m before param =
    fault_if (is_again (λ other. other.name) before param.name)
    (unit_fault_at param.name.span kind.Twice) ++ unit_kind_faults m param

abbrev pub faults_of_unit_params : Metamodel → List Param → List RuleFault
faults_of_unit_params m params = each (λ i param. unit_param_faults m (take i params) param) params

-- At most 16 parameters and 16 calls.
abbrev pub keeps_unit_limits : WrittenUnit → Bool
keeps_unit_limits unit =
    nat_le (length unit.params) MAX_PARAMS && nat_le (length (written_calls unit.body)) MAX_CALLS

-- All faults of the contents of a unit, check by check.
abbrev pub faults_in_unit : Metamodel → List Rule → List WrittenUnit → WrittenUnit → List RuleFault
faults_in_unit m rules units unit =
    faults_of_unit_params m unit.params
    ++ (body_faults (call_faults m rules units unit.params) unit.params unit.body
    ++ fault_if (not (keeps_unit_limits unit)) (unit_fault_at unit.name.span kind.Limit))

-- A unit after those before it: there are at most 64, and each has a name that no rule and no unit
-- before has.
abbrev pub faults_of_unit : Metamodel → List Rule → List WrittenUnit → List WrittenUnit
    → WrittenUnit → List RuleFault
faults_of_unit m rules units before unit =
    fault_if (nat_le MAX_UNITS (length before)) (unit_fault_at unit.name.span kind.Limit)
    ++ (fault_if (is_some (first_rule rules unit.name.text))
    (unit_fault_at unit.name.span kind.Twice)
    ++ (fault_if (is_again (λ other. other.name) before unit.name)
    (unit_fault_at unit.name.span kind.Twice)
    ++ faults_in_unit m rules units unit))

abbrev pub unit_faults_of_definition : Metamodel → List Rule → List WrittenUnit → List WrittenUnit
    → Definition → List RuleFault
unit_faults_of_definition m rules units before (definition.Rule rule) = []
unit_faults_of_definition m rules units before (definition.Unit unit) =
    faults_of_unit m rules units before unit

-- The faults of the units among these definitions, after the units before.
abbrev pub unit_faults_after : Metamodel → List Rule → List WrittenUnit → List WrittenUnit
    → List Definition → List RuleFault
unit_faults_after m rules units before [] = []
unit_faults_after m rules units before (definition ∷ definitions) =
    unit_faults_of_definition m rules units before definition
    ++ unit_faults_after m rules units (before ++ as_unit definition) definitions

-- The faults of the units of a text, one by one.
abbrev pub faults_of_each : Metamodel → List Definition → List RuleFault
faults_of_each m definitions =
    unit_faults_after m (rules_of definitions) (units_of definitions) [] definitions

-- The numbers of the units that a unit calls; a rule comes before a unit of its name.
abbrev pub unit_called : List Rule → List WrittenUnit → Call → Option ℕ
unit_called rules units call =
    if is_some (first_rule rules call.callee.text) then None
    else position (λ unit. same_text call.callee.text unit.name.text) units

abbrev pub called_units : List Rule → List WrittenUnit → WrittenUnit → List ℕ
called_units rules units unit = filter_map (unit_called rules units) (written_calls unit.body)

-- A unit that calls itself by a path of calls, in the graph of which unit calls which.
abbrev pub cycle_fault : List (List ℕ) → ℕ → WrittenUnit → List RuleFault
cycle_fault called i unit =
    fault_if (reaches called i i) (unit_fault_at unit.name.span kind.UnitCycle)

abbrev pub cycle_faults : List Rule → List WrittenUnit → List RuleFault
cycle_faults rules units = each (cycle_fault (map (called_units rules units) units)) units

-- The faults of all units of a text: those of each, and then the cycles.
abbrev pub faults_of_units : Metamodel → List Definition → List RuleFault
faults_of_units m definitions =
    faults_of_each m definitions ++ cycle_faults (rules_of definitions) (units_of definitions)

-- The faults of a text: those of all rules, and then those of all units.
abbrev pub faults_of : Metamodel → List Definition → List RuleFault
faults_of m definitions = faults_of_rules m definitions ++ faults_of_units m definitions
