-- Courses: what a call of a rule or a unit does, over the outcomes of its attempts.
use Rattle.std.specs.Prelude.{ℕ, zero, suc, ◌%◌, ℤ, pos, negsuc, List, [], ◌∷◌, ◌++◌, length, take, drop, Bool, true, not, Option, Some, None, is_some, if◌then◌else◌, slice_get}
use Rattle.std.specs.List.{filter, filter_map, find, list_all}
use Rattle.std.specs.Option.{option_map, option_or}
use Rattle.hs_expr.specs.declared.value.Value.{Value}
use Rattle.hs_expr.specs.declared.value.Value.TheVariants as value
use Rattle.hs_expr.specs.Lexicographic.{insert_by, sorted_by}
use Rattle.hs_expr.specs.Lists.{same_text}
use Rattle.hs_types.specs.declared.request.Arg.{Arg}
use Rattle.hs_types.specs.declared.request.Arg.TheVariants as arg
use Rattle.hs_types.specs.declared.request.Args.{Args}
use Rattle.hs_types.specs.declared.request.NamedArg.{NamedArg}
use Rattle.hs_types.specs.declared.request.Out.{Out}
use Rattle.hs_types.specs.declared.unit.Atom.{Atom}
use Rattle.hs_types.specs.declared.unit.Atom.TheVariants as atom
use Rattle.hs_types.specs.declared.unit.Bind.{Bind}
use Rattle.hs_types.specs.declared.unit.Bind.TheVariants.{Give, Take}
use Rattle.hs_types.specs.declared.unit.Body.{Body}
use Rattle.hs_types.specs.declared.unit.Body.TheVariants.{Sequential, Independent, Priority, Conditional, Loop, Iterated}
use Rattle.hs_types.specs.declared.unit.Call.{Call}
use Rattle.hs_types.specs.declared.unit.Callee.{Callee}
use Rattle.hs_types.specs.declared.unit.Callee.TheVariants as callee
use Rattle.hs_types.specs.declared.unit.Count.{Count}
use Rattle.hs_types.specs.declared.unit.Count.TheVariants as count
use Rattle.hs_types.specs.declared.unit.Unit.{Unit as RuleUnit}
use Rattle.hs_types.specs.Arguments.{argument_named, value_argument}
use Rattle.hs_unit.specs.declared.outcome.Outcome.{Outcome}
use Rattle.hs_unit.specs.declared.outcome.Outcome.TheVariants.{Applied, Missed}

-- What is left at a moment of a run: fuel, the outcomes of the attempts to come, and the out
-- parameters of what runs that have a value.
pub record Left : Type 0 where
  pub fuel : ℕ
  pub outcomes : List Outcome
  pub outs : List Out

-- How a run ends: it is done, it has failed, it is out of fuel, or it asks for an attempt at
-- this rule with these arguments.
pub data Course : Type 0 where
  Done : (left : Left) → Course
  Failed : (left : Left) → Course
  Fuel : Course
  Asks : (rule : ℕ) → (args : Args) → Course

-- What follows a part of a run: the one where the part is done, the other where it has failed. Out
-- of fuel, or asking, the whole is as its part.
abbrev pub followed_by : Course → (Left → Course) → (Left → Course) → Course
followed_by (Done left) if_done if_failed = if_done left
followed_by (Failed left) if_done if_failed = if_failed left
followed_by Fuel if_done if_failed = Fuel
followed_by (Asks rule args) if_done if_failed = Asks rule args

-- The run takes one unit of fuel first.
abbrev pub spend_of : ℕ → List Outcome → List Out → (Left → Course) → Course
spend_of zero outcomes outs run = Fuel
spend_of (suc fuel) outcomes outs run =
    run (record { fuel = fuel; outcomes = outcomes; outs = outs })

abbrev pub spend : (Left → Course) → Left → Course
spend run left = spend_of left.fuel left.outcomes left.outs run

-- An attempt at a rule takes one unit of fuel and one outcome. It is done where the rule was
-- applied, and gives back the out values of the application.
abbrev pub attempted : ℕ → Args → ℕ → List Out → List Outcome → Course
attempted rule args fuel outs [] = Asks rule args
attempted rule args fuel outs (Applied given ∷ outcomes) =
    Done (record { fuel = fuel; outcomes = outcomes; outs = given.list })
attempted rule args fuel outs (Missed ∷ outcomes) =
    Failed (record { fuel = fuel; outcomes = outcomes; outs = outs })

abbrev pub attempt : ℕ → Args → Left → Course
attempt rule args = spend (λ left. attempted rule args left.fuel left.outs left.outcomes)

-- The object of the out parameter of this name, where it has one.
abbrev pub out_named : List Out → List ℕ → Option (List ℕ)
out_named outs name =
    option_map (λ out. out.object) (find (λ out. same_text out.parameter name) outs)

-- The out parameters after this one got an object, or lost the one that it had.
abbrev pub without_out : List ℕ → List Out → List Out
without_out name outs = filter (λ out. not (same_text out.parameter name)) outs

abbrev pub with_out : List ℕ → Option (List ℕ) → List Out → List Out
with_out name None outs = without_out name outs
with_out name (Some object) outs =
    insert_by (λ out. out.parameter) (record { parameter = name; object = object })
    (without_out name outs)

-- What a call inside a unit hands over: a value, the unit's own argument of this name, or the
-- object of its out parameter of this name, where that has one.
abbrev pub handed : Args → List Out → Atom → Option Arg
handed own outs (atom.Value v) = Some (arg.Value v)
handed own outs (atom.Name name) =
    option_or (argument_named own name) (option_map arg.Object (out_named outs name))

abbrev pub handed_by : Args → List Out → Bind → Option NamedArg
handed_by own outs (Give parameter given) =
    option_map (λ a. record { name = parameter; arg = a }) (handed own outs given)
handed_by own outs (Take parameter variable) = None

-- All that the binds hand over is there.
abbrev pub has_handed : Args → List Out → Bind → Bool
has_handed own outs (Give parameter given) = is_some (handed own outs given)
has_handed own outs (Take parameter variable) = true

abbrev pub can_begin : Args → List Out → List Bind → Bool
can_begin own outs binds = list_all (has_handed own outs) binds

abbrev pub handed_args : Args → List Out → List Bind → Args
handed_args own outs binds = record {
  list = sorted_by (λ given. given.name) (filter_map (handed_by own outs) binds);
}

-- The unit's out parameters after a call gave these back, bind by bind.
abbrev pub taken : List Out → List Out → List Bind → List Out
taken given outs [] = outs
taken given outs (Give parameter atom ∷ binds) = taken given outs binds
taken given outs (Take parameter variable ∷ binds) =
    taken given (with_out variable (out_named given parameter) outs) binds

-- The course of a call in its unit, from the course of its callee.
abbrev pub returned : List Bind → List Out → Course → Course
returned binds outs (Done left) = Done (record {
  fuel = left.fuel;
  outcomes = left.outcomes;
  outs = taken left.outs outs binds;
})
returned binds outs (Failed left) =
    Failed (record { fuel = left.fuel; outcomes = left.outcomes; outs = outs })
returned binds outs Fuel = Fuel
returned binds outs (Asks rule args) = Asks rule args

-- No out parameter of a callee has a value when it begins.
abbrev pub fresh : Left → Left
fresh left = record { fuel = left.fuel; outcomes = left.outcomes; outs = [] }

-- A call inside a unit with these arguments. Where it is to hand over an out parameter without a
-- value it fails, with no attempt and no fuel taken.
abbrev pub call_run : (Callee → Args → Left → Course) → Args → Call → Left → Course
call_run inner own call left =
    if can_begin own left.outs call.binds
    then returned call.binds left.outs
    (inner call.callee (handed_args own left.outs call.binds) (fresh left)) else Failed left

-- The calls in order, to the first that fails.
abbrev pub sequential : (Call → Left → Course) → List Call → Left → Course
sequential run [] left = Done left
sequential run (call ∷ calls) left = followed_by (run call left) (sequential run calls) Failed

-- The calls in order, to the first that is done.
abbrev pub priority : (Call → Left → Course) → List Call → Left → Course
priority run [] left = Failed left
priority run (call ∷ calls) left = followed_by (run call left) Done (priority run calls)

-- The calls from this place on, and then those before it.
abbrev pub rotated : ℕ → List Call → List Call
rotated place calls = drop place calls ++ take place calls

abbrev pub optional : (Call → Left → Course) → Option Call → Left → Course
optional run None left = Done left
optional run (Some call) left = run call left

-- A turn takes a unit of fuel when it begins. A turn whose call can't begin fails without.
abbrev pub turn : (Call → Left → Course) → Args → Call → (Left → Course) → (Left → Course) → Left
    → Course
turn run own call again over left =
    if can_begin own left.outs call.binds then spend (λ l. followed_by (run call l) again over) left
    else over left

-- Turns to the first that fails. There are no more of them than fuel.
abbrev pub turns_within : ℕ → (Call → Left → Course) → Args → Call → Left → Course
turns_within zero run own call left = turn run own call (λ l. Fuel) Done left
turns_within (suc bound) run own call left =
    turn run own call (turns_within bound run own call) Done left

abbrev pub until_failure : (Call → Left → Course) → Args → Call → Left → Course
until_failure run own call left = turns_within left.fuel run own call left

-- This many turns, to the first that fails.
abbrev pub times : ℕ → (Call → Left → Course) → Args → Call → Left → Course
times zero run own call left = Done left
times (suc n) run own call left = turn run own call (times n run own call) Failed left

-- A count below zero is none.
abbrev pub natural : ℤ → ℕ
natural (pos n) = n
natural (negsuc n) = 0

abbrev pub natural_in : Option Value → ℕ
natural_in (Some (value.Int n)) = natural n
natural_in _ = 0

abbrev pub turns_of : Args → Count → ℕ
turns_of own (count.Literal n) = natural n
turns_of own (count.Param name) = natural_in (value_argument own name)

-- The body of a unit with these arguments, in the request of this number, where its calls run so.
abbrev pub body_run : ℕ → (Call → Left → Course) → Args → Body → Left → Course
body_run request run own (Sequential calls) = sequential run calls
body_run request run own (Priority calls) = priority run calls
body_run request run own (Independent calls) =
    priority run (rotated (request % length calls) calls)
body_run request run own (Conditional test next otherwise) =
    λ left. followed_by (run test left) (run next) (optional run otherwise)
body_run request run own (Loop call) = until_failure run own call
body_run request run own (Iterated times_of call) = times (turns_of own times_of) run own call

abbrev pub body_of : Option RuleUnit → Body
body_of (Some unit) = unit.body
body_of None = Sequential []

-- What is called inside a unit. A unit takes a unit of fuel when it begins, so units nest no deeper
-- than there is fuel, which is the bound.
abbrev pub callee_within : ℕ → List RuleUnit → ℕ → Callee → Args → Left → Course
callee_within bound units request (callee.Rule rule) args left = attempt rule args left
callee_within zero units request (callee.Unit unit) args left = Fuel
callee_within (suc bound) units request (callee.Unit unit) args left =
    spend (body_run request (call_run (callee_within bound units request) args) args
    (body_of (slice_get units unit))) left

abbrev pub inside : List RuleUnit → ℕ → Callee → Args → Left → Course
inside units request called args left = callee_within left.fuel units request called args left

-- The course of a request's call, with this fuel and these outcomes. The unit that is called takes
-- no fuel for itself.
abbrev pub course : List RuleUnit → ℕ → Callee → Args → ℕ → List Outcome → Course
course units request (callee.Rule rule) args fuel outcomes =
    attempt rule args (record { fuel = fuel; outcomes = outcomes; outs = [] })
course units request (callee.Unit unit) args fuel outcomes =
    body_run request (call_run (inside units request) args) args
    (body_of (slice_get units unit))
    (record { fuel = fuel; outcomes = outcomes; outs = [] })
