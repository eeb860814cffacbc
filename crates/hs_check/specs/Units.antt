-- The units that a text means.
use Rattle.std.specs.Prelude.{ℕ, ℤ, neg_ℤ, List, map, Bool, Option, if◌then◌else◌}
use Rattle.std.specs.List.{position}
use Rattle.std.specs.Option.{option_and_then, option_map, option_map_or, unwrap_or}
use Rattle.hs_expr.specs.declared.Value.TheVariants as value
use Rattle.hs_text.specs.declared.syntax.Atom.{Atom as WrittenAtom}
use Rattle.hs_text.specs.declared.syntax.Atom.TheVariants as written_atom
use Rattle.hs_text.specs.declared.syntax.Bind.{Bind as WrittenBind}
use Rattle.hs_text.specs.declared.syntax.Bind.TheVariants as written_bind
use Rattle.hs_text.specs.declared.syntax.Body.{Body as WrittenBody}
use Rattle.hs_text.specs.declared.syntax.Body.TheVariants as written_body
use Rattle.hs_text.specs.declared.syntax.Call.{Call as WrittenCall}
use Rattle.hs_text.specs.declared.syntax.Count.{Count as WrittenCount}
use Rattle.hs_text.specs.declared.syntax.Count.TheVariants as written_count
use Rattle.hs_text.specs.declared.syntax.Definition.{Definition}
use Rattle.hs_text.specs.declared.syntax.Unit.{Unit as WrittenUnit}
use Rattle.hs_types.specs.declared.meta.Metamodel.{Metamodel}
use Rattle.hs_types.specs.declared.unit.Atom.{Atom}
use Rattle.hs_types.specs.declared.unit.Atom.TheVariants as atom
use Rattle.hs_types.specs.declared.unit.Bind.{Bind}
use Rattle.hs_types.specs.declared.unit.Bind.TheVariants as bind
use Rattle.hs_types.specs.declared.unit.Body.{Body}
use Rattle.hs_types.specs.declared.unit.Body.TheVariants as body
use Rattle.hs_types.specs.declared.unit.Call.{Call}
use Rattle.hs_types.specs.declared.unit.Callee.{Callee}
use Rattle.hs_types.specs.declared.unit.Callee.TheVariants as callee
use Rattle.hs_types.specs.declared.unit.Count.{Count}
use Rattle.hs_types.specs.declared.unit.Count.TheVariants as count
use Rattle.hs_types.specs.declared.unit.Unit.{Unit as UnitMeant}
use Rattle.hs_expr.specs.Lists.{same_text}
use Rattle.hs_faults.specs.Names.{as_number}
use Rattle.hs_faults.specs.UnitFaults.{rules_of, units_of}
use Rattle.hs_check.specs.declared.units.Callees.{Callees}
use Rattle.hs_check.specs.Parameters.{params_meant}

-- The names that calls may have, in written order.
abbrev pub callees : List Definition → Callees
callees definitions = record {
  rules = map (λ rule. rule.name.text) (rules_of definitions);
  units = map (λ unit. unit.name.text) (units_of definitions);
}

-- The number of this name among these.
abbrev pub place_among : List (List ℕ) → List ℕ → Option ℕ
place_among names name = option_and_then as_number (position (same_text name) names)

-- The rule of this name, or else the unit.
abbrev pub callee_meant : Callees → List ℕ → Callee
callee_meant known name =
    option_map_or callee.Rule (place_among known.rules name)
    (callee.Unit (unwrap_or (place_among known.units name) 0))

abbrev pub with_sign : Bool → ℤ → ℤ
with_sign minus n = if minus then neg_ℤ n else n

-- What is given to a parameter: a value, or what has this name in the unit.
abbrev pub atom_meant : WrittenAtom → Atom
atom_meant (written_atom.Int minus n span) = atom.Value (value.Int (with_sign minus n))
atom_meant (written_atom.Text text span) = atom.Value (value.Text text)
atom_meant (written_atom.Bool truth span) = atom.Value (value.Bool truth)
atom_meant (written_atom.Name name) = atom.Name name.text

abbrev pub bind_meant : WrittenBind → Bind
bind_meant (written_bind.Give parameter given) = bind.Give parameter.text (atom_meant given)
bind_meant (written_bind.Take parameter variable) = bind.Take parameter.text variable.text

abbrev pub call_meant : Callees → WrittenCall → Call
call_meant known call = record {
  callee = callee_meant known call.callee.text;
  binds = map bind_meant call.binds;
}

abbrev pub count_meant : WrittenCount → Count
count_meant (written_count.Int n span) = count.Literal n
count_meant (written_count.Param name) = count.Param name.text

-- What a unit does, call by call in written order.
abbrev pub body_meant : Callees → WrittenBody → Body
body_meant known (written_body.Sequential calls) = body.Sequential (map (call_meant known) calls)
body_meant known (written_body.Independent calls) = body.Independent (map (call_meant known) calls)
body_meant known (written_body.Priority calls) = body.Priority (map (call_meant known) calls)
body_meant known (written_body.Conditional test next otherwise) =
    body.Conditional (call_meant known test) (call_meant known next)
    (option_map (call_meant known) otherwise)
body_meant known (written_body.Loop call) = body.Loop (call_meant known call)
body_meant known (written_body.Iterated times call) =
    body.Iterated (count_meant times) (call_meant known call)

abbrev pub unit_meant : Metamodel → Callees → WrittenUnit → UnitMeant
unit_meant m known unit = record {
  name = unit.name.text;
  params = params_meant m unit.params;
  body = body_meant known unit.body;
}

-- The units of a text, in written order.
abbrev pub units_meant : Metamodel → List Definition → List UnitMeant
units_meant m definitions = map (unit_meant m (callees definitions)) (units_of definitions)
