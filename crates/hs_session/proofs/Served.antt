-- The report of one request is serial.
use Rattle.std.proofs.Common.{ℕ, zero, suc, ◌≤◌, ◌≡◌, [], ◌∷◌, List, false, Option, Some, None, slice_get, refl, ap, sym, ◌∙◌, arith, take, inl, inr, subst}
use Rattle.std.specs.Prelude.{IfSome}
use Rattle.std.specs.Option.{option_map, unwrap_or}
use Rattle.std.proofs.lemmas.List.Elements.{All-nil}
use Rattle.hs_types.specs.declared.entry.Cause.{Cause}
use Rattle.hs_types.specs.declared.entry.Cause.TheVariants as cause
use Rattle.hs_types.specs.declared.entry.Entry.{Entry}
use Rattle.hs_types.specs.declared.entry.Outcome.{Outcome}
use Rattle.hs_types.specs.declared.entry.Outcome.TheVariants.{Applied, Missed}
use Rattle.hs_types.specs.declared.entry.Tried.{Tried}
use Rattle.hs_types.specs.declared.entry.What.TheVariants.{One}
use Rattle.hs_types.specs.declared.graph.Graph.{Graph}
use Rattle.hs_types.specs.Host.{RoomyGraph}
use Rattle.hs_types.specs.declared.matching.Match.{Match}
use Rattle.hs_types.specs.declared.request.Request.{Request}
use Rattle.hs_types.specs.declared.rule.Param.{Param}
use Rattle.hs_types.specs.declared.rule.Rule.{Rule}
use Rattle.hs_types.specs.declared.unit.Callee.{Callee}
use Rattle.hs_types.specs.declared.unit.Callee.TheVariants as callee
use Rattle.hs_types.specs.Arguments.{ArgsFit, no_args}
use Rattle.hs_types.specs.Journal.{IsLawfulEntry, IsLawfulTry, OutcomeAsks, after_journal, after_outcome, match_named, rule_of}
use Rattle.hs_types.specs.Rules.{Rules}
use Rattle.hs_expr.proofs.Lists.{All-one}
use Rattle.hs_unit.specs.declared.outcome.Outcome.TheVariants as outcome
use Rattle.hs_unit.specs.Courses.{Asks, Course, Done, Failed, attempt}
use Rattle.hs_session.specs.declared.report.Reply.{Reply}
use Rattle.hs_session.specs.declared.report.Word.TheVariants as word
use Rattle.hs_session.specs.Replies.{Fit, IsBegun, IsReply, IsUngrouped, IsSingle, Says, outs_for, run_for, word_for}
use Rattle.hs_session.specs.Requests.{Asked, IsAsked, args_for, callee_named, params_at}
use Rattle.hs_session.specs.Runnable.{outcome_word}
use Rattle.hs_session.specs.Runs.{ComesTo}
use Rattle.hs_session.specs.SerialReport.{AreLeast, IsLeastOutcome, IsLeastTry, IsSerialReport}
use Rattle.hs_session.specs.Standing.{Standing, no_outs, outcome_made, outcome_of, outs_at}

-- The first entry of the first request.
abbrev pub first_entry : Tried → Entry
first_entry tried = record { session = 0; request = 0; what = One tried }

abbrev pub first_reply : Outcome → Reply
first_reply outcome = record { session = 0; request = 0; word = outcome_word outcome; places = 0 ∷ []; outs = no_outs }

-- A rule without parameters gives nothing back.
gives_nothing : (g : Graph) (rule : Rule) (found : Option Match) → rule.params ≡ [] → unwrap_or (option_map (outs_at g rule) found) no_outs ≡ no_outs
gives_nothing g rule None none = refl
gives_nothing g rule (Some f) none = rw none refl

fit_none : ArgsFit [] no_args
fit_none = record { names_rise = tt; each_given = All-nil _; each_taken = All-nil _ }

-- What is known of the one attempt.
pub record IsFirstTry (rules : Rules) (opening : Graph) (request : Request) (rule : Rule) (tried : Tried) : Type 0 where
  pub called : callee_named rules request.call ≡ Some (callee.Rule tried.rule)
  pub found : rule_of rules tried ≡ Some rule
  pub asked_args : request.args ≡ no_args
  pub not_grouped : request.group ≡ false
  pub tried_args : tried.args ≡ no_args
  pub first : tried.attempt ≡ 0
  pub no_params : rule.params ≡ []
  pub told : (asked : Cause) → OutcomeAsks rules.meta opening rule no_args tried.outcome asked
  pub least : IsLeastOutcome rules.meta opening rule no_args tried.outcome

lawful_try : (rules : Rules) (opening : Graph) (request : Request) (rule : Rule) (tried : Tried) → IsFirstTry rules opening request rule tried → IsLawfulTry rules opening tried
lawful_try rules opening request rule tried made cause.Rule = rw (made.found, made.no_params, made.tried_args) fit_none
lawful_try rules opening request rule tried made cause.Number = rw (made.found, made.tried_args) (made.told cause.Number)
lawful_try rules opening request rule tried made cause.Match = rw (made.found, made.tried_args) (made.told cause.Match)
lawful_try rules opening request rule tried made cause.Valid = rw (made.found, made.tried_args) (made.told cause.Valid)
lawful_try rules opening request rule tried made cause.New = rw (made.found, made.tried_args) (made.told cause.New)
lawful_try rules opening request rule tried made cause.Old = rw (made.found, made.tried_args) (made.told cause.Old)

lawful_entry : (rules : Rules) (opening : Graph) (request : Request) (rule : Rule) (tried : Tried) → IsFirstTry rules opening request rule tried → IsLawfulEntry rules [] opening 0 (first_entry tried)
lawful_entry rules opening request rule tried made = record {
  numbered = record { at_its_place = refl; within_sessions = omega arith; requests_rise = All-nil _; tries_numbered = ap (λ n. n ∷ []) made.first };
  tries = (lawful_try rules opening request rule tried made, tt);
}

abbrev the_first : Request → Asked
the_first request = record { session = 0; number = 0; request = request }

abbrev here : Graph → Tried → Standing
here opening tried = record { before = []; graph = opening; entry = first_entry tried }

-- What the one attempt came to, with this fuel left.
abbrev ended : ℕ → Outcome → Course
ended fuel (Applied found new old gone) = Done (record { fuel = fuel; outcomes = []; outs = [] })
ended fuel Missed = Failed (record { fuel = fuel; outcomes = []; outs = [] })

module _ (rules : Rules) (opening : Graph) (request : Request) (rule : Rule) (tried : Tried) (made : IsFirstTry rules opening request rule tried) where
  called : Callee
  called = callee.Rule tried.rule

  no_params : params_at rules (callee.Rule tried.rule) ≡ []
  no_params = rw (made.found, made.no_params) refl

  args_none : args_for rules (callee.Rule tried.rule) request ≡ no_args
  args_none = rw made.asked_args refl

  fits : Fit rules (the_first request) (callee.Rule tried.rule)
  fits = subst (λ (params : List Param). ArgsFit params (args_for rules (callee.Rule tried.rule) request)) (sym no_params) (subst (ArgsFit []) (sym args_none) fit_none)

  outcome_is : outcome_made rules (record { graph = opening; tried = tried }) ≡ outcome_of opening rule tried.outcome
  outcome_is = rw made.found refl

  comes_to : (fuel : ℕ) (outcome : Outcome) → tried.outcome ≡ outcome → (run : List Rattle.hs_unit.specs.declared.outcome.Outcome.Outcome → Course) →
      ((outcomes : _) → run outcomes ≡ attempt tried.rule no_args (record { fuel = suc fuel; outcomes = outcomes; outs = [] })) →
      ComesTo rules run (record { graph = opening; tried = tried } ∷ []) (ended fuel outcome)
  comes_to fuel (Applied found new old gone) is run runs = (runs [] ∙ ap (Asks tried.rule) (sym made.tried_args), after_applied)
    where
      after_applied : run (outcome_made rules (record { graph = opening; tried = tried }) ∷ []) ≡ ended fuel (Applied found new old gone)
      after_applied = rw (outcome_is, is, gives_nothing opening rule (match_named opening found) made.no_params) (runs (outcome.Applied no_outs ∷ []))
  comes_to fuel Missed is run runs = (runs [] ∙ ap (Asks tried.rule) (sym made.tried_args), rw (outcome_is, is) (runs (outcome.Missed ∷ [])))

  said : (fuel : ℕ) (outcome : Outcome) → Says (word_for (callee.Rule tried.rule) (ended fuel outcome)) (outcome_word outcome)
  said fuel (Applied found new old gone) = inl refl
  said fuel Missed = inl refl

  given : (fuel : ℕ) (outcome : Outcome) → no_outs ≡ outs_for (outcome_word outcome) (ended fuel outcome)
  given fuel (Applied found new old gone) = refl
  given fuel Missed = refl

  not_full : (outcome : Outcome) → outcome_word outcome ≡ word.Full → ⊥
  not_full (Applied found new old gone) e = cc
  not_full Missed e = cc

  is_run : (fuel : ℕ) → request.fuel ≡ suc fuel → IsUngrouped rules opening (first_entry tried ∷ []) (the_first request) (callee.Rule tried.rule) (run_for rules (the_first request) (callee.Rule tried.rule)) (here opening tried ∷ []) (first_reply tried.outcome)
  is_run fuel is = record {
    single = All-one (λ (s : Standing). IsSingle s.entry.what) (here opening tried) tt;
    course = ended fuel tried.outcome;
    comes_to = comes_to fuel tried.outcome refl (run_for rules (the_first request) (callee.Rule tried.rule)) (λ outcomes. rw (args_none, is) refl);
    says = said fuel tried.outcome;
    full = λ e. absurd (not_full tried.outcome e);
    gives = given fuel tried.outcome;
  }

  begun : IsBegun rules opening (first_entry tried ∷ []) (the_first request) (callee.Rule tried.rule) (run_for rules (the_first request) (callee.Rule tried.rule)) (here opening tried ∷ []) (first_reply tried.outcome) request.group
  begun = subst (IsBegun rules opening (first_entry tried ∷ []) (the_first request) (callee.Rule tried.rule) (run_for rules (the_first request) (callee.Rule tried.rule)) (here opening tried ∷ []) (first_reply tried.outcome)) (sym made.not_grouped) (go request.fuel refl request.some_fuel)
    where
      go : (fuel : ℕ) → request.fuel ≡ fuel → 1 ≤ fuel → IsUngrouped rules opening (first_entry tried ∷ []) (the_first request) (callee.Rule tried.rule) (run_for rules (the_first request) (callee.Rule tried.rule)) (here opening tried ∷ []) (first_reply tried.outcome)
      go zero is low = absurd (omega (arith, low))
      go (suc fuel) is low = is_run fuel is

  answer : IsReply rules opening (first_entry tried ∷ []) (the_first request) (here opening tried ∷ []) (first_reply tried.outcome)
  answer = record {
    of_session = refl;
    of_request = refl;
    at_places = refl;
    served = rw made.called (inr (fits, begun));
  }

-- One attempt at the least match, or none where none is valid, makes a serial report.
pub serial_one : (rules : Rules) (opening : Graph) (request : Request) (rule : Rule) (tried : Tried) (graph : RoomyGraph) → IsFirstTry rules opening request rule tried →
    graph.graph ≡ after_outcome rules.meta opening rule no_args tried.outcome → graph.meta ≡ rules.meta →
    IsSerialReport rules opening ((request ∷ []) ∷ []) (record { journal = first_entry tried ∷ []; replies = first_reply tried.outcome ∷ []; graph = graph })
serial_one rules opening request rule tried graph made after model = record {
  lawful = record {
    lawful = lawful;
    all_were_asked = All-one (IsAsked ((request ∷ []) ∷ [])) (first_entry tried) (omega arith);
    answered = (answer rules opening request rule tried made, tt);
    graph_after = rw (made.found, made.tried_args) after;
    same_model = model;
  };
  in_order = (All-nil _, tt);
  least = All-one (AreLeast rules) (here opening tried) (All-one (IsLeastTry rules) (record { graph = opening; tried = tried }) (rw (made.found, made.tried_args) made.least));
}
  where
    lawful : (place : ℕ) → IfSome (slice_get (first_entry tried ∷ []) place) (IsLawfulEntry rules (take place (first_entry tried ∷ [])) (after_journal rules opening (take place (first_entry tried ∷ []))) place)
    lawful zero = lawful_entry rules opening request rule tried made
    lawful (suc place) = tt

-- The same of the outcome that the attempt carries.
pub serial_told : (rules : Rules) (opening : Graph) (request : Request) (rule : Rule) (tried : Tried) (graph : RoomyGraph) (outcome : Outcome) → IsFirstTry rules opening request rule tried → tried.outcome ≡ outcome →
    graph.graph ≡ after_outcome rules.meta opening rule no_args outcome → graph.meta ≡ rules.meta →
    IsSerialReport rules opening ((request ∷ []) ∷ []) (record { journal = first_entry tried ∷ []; replies = first_reply outcome ∷ []; graph = graph })
serial_told rules opening request rule tried graph outcome made same after model = rw (← same) (serial_one rules opening request rule tried graph made (after ∙ ap (after_outcome rules.meta opening rule no_args) (sym same)) model)
