-- Small units that the examples of courses speak of.
use Rattle.std.specs.Prelude.{ℕ, ℤ, List, [], ◌∷◌, map, codes}
use Rattle.hs_expr.specs.declared.value.Value.TheVariants as value
use Rattle.hs_types.specs.declared.request.Arg.TheVariants as arg
use Rattle.hs_types.specs.declared.request.Args.{Args}
use Rattle.hs_types.specs.declared.unit.Atom.TheVariants as atom
use Rattle.hs_types.specs.declared.unit.Bind.{Bind}
use Rattle.hs_types.specs.declared.unit.Bind.TheVariants.{Give, Take}
use Rattle.hs_types.specs.declared.unit.Body.{Body}
use Rattle.hs_types.specs.declared.unit.Call.{Call}
use Rattle.hs_types.specs.declared.unit.Callee.{Callee}
use Rattle.hs_types.specs.declared.unit.Callee.TheVariants as callee
use Rattle.hs_types.specs.declared.unit.Unit.{Unit as RuleUnit}
use Rattle.hs_types.specs.Arguments.{no_args}
use Rattle.hs_unit.specs.declared.outcome.Outcome.{Outcome}
use Rattle.hs_unit.specs.declared.outcome.Outcome.TheVariants.{Applied}
use Rattle.hs_unit.specs.Courses.{Course, Left, course}

-- Calls of rule 1 or 2 and of unit 1.
abbrev pub call_with : Callee → List Bind → Call
call_with called binds = record { callee = called; binds = binds }

abbrev pub rule_call : ℕ → Call
rule_call n = call_with (callee.Rule n) []

abbrev pub calls_unit : Call
calls_unit = call_with (callee.Unit 1) []

-- A call of rule 1 whose out parameter x becomes the unit's v, and one of rule 2 that is given v.
abbrev pub x : List ℕ
x = codes "x"

abbrev pub v : List ℕ
v = codes "v"

abbrev pub taking : Call
taking = call_with (callee.Rule 1) (Take x v ∷ [])

abbrev pub giving : Call
giving = call_with (callee.Rule 2) (Give x (atom.Name v) ∷ [])

-- A rule that was applied, with an object c for x or with none.
abbrev pub c : List ℕ
c = codes "c"

abbrev pub gave_none : Outcome
gave_none = Applied (record { list = [] })

abbrev pub gave_c : Outcome
gave_c = Applied (record { list = record { parameter = x; object = c } ∷ [] })

abbrev pub with_c : Args
with_c = record { list = record { name = x; arg = arg.Object c } ∷ [] }

-- A call that counts its turns by the argument n.
abbrev pub n : List ℕ
n = codes "n"

abbrev pub count_arg : ℤ → Args
count_arg k = record { list = record { name = n; arg = arg.Value (value.Int k) } ∷ [] }

-- The course of unit 0 among units with these bodies, in a session's request 4.
abbrev pub units_with : List Body → List RuleUnit
units_with bodies = map (λ body. record { name = []; params = []; body = body }) bodies

abbrev pub first_with : Args → List Body → ℕ → List Outcome → Course
first_with args bodies fuel outcomes =
    course (units_with bodies) 4 (callee.Unit 0) args fuel outcomes

abbrev pub first_of : List Body → ℕ → List Outcome → Course
first_of = first_with no_args

-- What is left with this fuel and no out values.
abbrev pub fuel_left : ℕ → Left
fuel_left fuel = record { fuel = fuel; outcomes = []; outs = [] }
