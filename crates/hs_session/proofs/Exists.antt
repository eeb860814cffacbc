-- Of one request there is a serial report.
use Rattle.std.proofs.Common.{ℕ, ◌≡◌, [], ◌∷◌, false, Option, Some, None, slice_get, refl, lit<}
use Rattle.std.specs.List.{All, filter_map}
use Rattle.hs_types.specs.declared.entry.Cause.{Cause}
use Rattle.hs_types.specs.declared.entry.Cause.TheVariants as cause
use Rattle.hs_types.specs.declared.entry.MatchNames.{MatchNames}
use Rattle.hs_types.specs.declared.entry.Outcome.{Outcome}
use Rattle.hs_types.specs.declared.entry.Outcome.TheVariants.{Applied, Missed}
use Rattle.hs_types.specs.declared.entry.Tried.{Tried}
use Rattle.hs_types.specs.declared.graph.Graph.{Graph}
use Rattle.hs_types.specs.Host.{RoomyGraph}
use Rattle.hs_types.specs.declared.matching.Match.{Match}
use Rattle.hs_types.specs.declared.meta.Metamodel.{Metamodel}
use Rattle.hs_types.specs.declared.request.Request.{Request}
use Rattle.hs_types.specs.declared.rule.Rule.{Rule}
use Rattle.hs_types.specs.declared.unit.Callee.TheVariants as callee
use Rattle.hs_types.specs.Rules.{Rules}
use Rattle.hs_types.specs.Journal.{OutcomeAsks, after_outcome, new_names}
use Rattle.hs_types.specs.Plan.{plan_of}
use Rattle.hs_types.specs.TypedGraph.{IsTyped, name_at}
use Rattle.hs_types.specs.ValidMatch.{IsFirst, NoneIsValid}
use Rattle.hs_types.specs.Arguments.{no_args}
use Rattle.hs_apply.specs.Additions.{AdditionsOnlyMake}
use Rattle.hs_expr.proofs.Lists.{All-one}
use Rattle.hs_session.specs.declared.report.Report.{Report}
use Rattle.hs_session.specs.Requests.{callee_named}
use Rattle.hs_session.specs.Runnable.{IsRunnable}
use Rattle.hs_session.specs.SerialReport.{IsDecided, IsLeastOutcome, IsSerialReport}
use Rattle.hs_session.proofs.Attempts.{applied_asks, within_numbers}
use Rattle.hs_session.proofs.Named.{named_again}
use Rattle.hs_session.proofs.Served.{IsFirstTry, first_reply, serial_one}

names_at : Graph → Match → MatchNames
names_at g f = record { nodes = filter_map (name_at g) f.nodes; edges = f.edges; copies = [] }

outcome_of : Metamodel → Graph → Rule → Option Match → Outcome
outcome_of m g rule None = Missed
outcome_of m g rule (Some f) = Applied (names_at g f) (new_names g (plan_of m g rule no_args f)) [] []

told_missed : (m : Metamodel) (g : Graph) (rule : Rule) → NoneIsValid m g rule no_args → (asked : Cause) → OutcomeAsks m g rule no_args Missed asked
told_missed m g rule none cause.Number = tt
told_missed m g rule none cause.Rule = tt
told_missed m g rule none cause.Match = tt
told_missed m g rule none cause.Valid = none
told_missed m g rule none cause.New = tt
told_missed m g rule none cause.Old = tt

told : AdditionsOnlyMake → (m : Metamodel) (g : Graph) (rule : Rule) (answer : Option Match) → IsTyped m g → IsRunnable g rule → IsFirst m g rule no_args answer → (asked : Cause) → OutcomeAsks m g rule no_args (outcome_of m g rule answer) asked
unfolding outcome_of names_at
told adds m g rule None typed runs none = told_missed m g rule none
told adds m g rule (Some f) typed runs least =
    let made = adds m g rule f runs.only_adds in
    applied_asks m g rule f (plan_of m g rule no_args f) (names_at g f) (new_names g (plan_of m g rule no_args f)) refl made.0 least.valid (named_again m g rule f typed runs.only_adds.is_unconditional.multis least.valid) refl (within_numbers g rule (plan_of m g rule no_args f) runs.room made.1 made.2)

least_of : (m : Metamodel) (g : Graph) (rule : Rule) (answer : Option Match) → IsTyped m g → IsRunnable g rule → IsFirst m g rule no_args answer → IsLeastOutcome m g rule no_args (outcome_of m g rule answer)
unfolding outcome_of names_at
least_of m g rule None typed runs none = tt
least_of m g rule (Some f) typed runs least = rw (named_again m g rule f typed runs.only_adds.is_unconditional.multis least.valid) least

decided : (outcome : Outcome) → IsDecided (first_reply outcome)
decided (Applied found new old gone) = ((λ e. cc), (λ e. cc))
decided Missed = ((λ e. cc), (λ e. cc))

pub one_exists : (rules : Rules) (listed : RoomyGraph) (opening : Graph) (request : Request) (called : ℕ) (rule : Rule) (answer : Option Match) → IsTyped rules.meta opening →
    callee_named rules request.call ≡ Some (callee.Rule called) → slice_get rules.rules called ≡ Some rule → IsRunnable opening rule → request.args ≡ no_args → request.group ≡ false → listed.meta ≡ rules.meta → AdditionsOnlyMake → IsFirst rules.meta opening rule no_args answer →
    (report : Report) × IsSerialReport rules opening ((request ∷ []) ∷ []) report × All IsDecided report.replies
one_exists rules listed opening request called rule answer typed named found runs args single model adds first =
    let outcome = outcome_of rules.meta opening rule answer in
    let tried : Tried = record { attempt = 0; rule = called; args = no_args; outcome = outcome; attempt_bound = lit< tt } in
    let graph : RoomyGraph = record { meta = listed.meta; graph = after_outcome rules.meta opening rule no_args outcome; spare_objects = listed.spare_objects; spare_edges = listed.spare_edges } in
    let made : IsFirstTry rules opening request rule tried = record {
      called = named;
      found = found;
      asked_args = args;
      not_grouped = single;
      tried_args = refl;
      first = refl;
      no_params = runs.no_params;
      told = told adds rules.meta opening rule answer typed runs first;
      least = least_of rules.meta opening rule answer typed runs first;
    } in
    (_, serial_one rules opening request rule tried graph made refl model, All-one IsDecided (first_reply outcome) (decided outcome))
