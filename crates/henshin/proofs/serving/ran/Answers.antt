use Rattle.std.proofs.Common.{◌∙◌, ap, subst, sym}
use Rattle.std.specs.Option.{option_copied}
use Rattle.hs_types.specs.declared.meta.Metamodel.{Metamodel}
use Rattle.hs_json_model.specs.Sound.{IsSound}
use Rattle.henshin.proofs.Served.{calls_first, can_run, no_arguments, no_request, not_grouped, one_request}
use Rattle.henshin.proofs.serving.ran.Goals as goal

pub run_serial-requires-clause-called : goal.run_serial-requires-clause-called
run_serial-requires-clause-called c =
    calls_first c.args.rules.now c.args.sessions.now c.in-Some.request.now
    (one_request c.args.rules.now.rules c.args.rules.now.units c.requires.asked.0 c.requires.asked.1 c.args.sessions.now c.in-Some.request.now c.requires.asked.2 (ap option_copied (sym c.in-Some.is) ∙ c.first_request.ensures))

pub run_serial-requires-clause-runnable : goal.run_serial-requires-clause-runnable
run_serial-requires-clause-runnable c =
    can_run c.args.rules.now.meta c.args.graph.graph c.args.rules.now.rules c.args.rules.now.units c.args.sessions.now c.in-Some.request.now
    (one_request c.args.rules.now.rules c.args.rules.now.units c.requires.asked.0 c.requires.asked.1 c.args.sessions.now c.in-Some.request.now c.requires.asked.2 (ap option_copied (sym c.in-Some.is) ∙ c.first_request.ensures))
    (subst (λ (m : Metamodel). IsSound m c.args.graph.graph) c.requires.same_model c.requires.sound) c.are_formed.ensures.formed

pub run_serial-requires-clause-no_arguments : goal.run_serial-requires-clause-no_arguments
run_serial-requires-clause-no_arguments c =
    no_arguments c.args.rules.now.rules c.args.sessions.now c.in-Some.request.now
    (one_request c.args.rules.now.rules c.args.rules.now.units c.requires.asked.0 c.requires.asked.1 c.args.sessions.now c.in-Some.request.now c.requires.asked.2 (ap option_copied (sym c.in-Some.is) ∙ c.first_request.ensures))

pub run_serial-requires-clause-not_grouped : goal.run_serial-requires-clause-not_grouped
run_serial-requires-clause-not_grouped c =
    not_grouped c.args.rules.now.rules c.args.sessions.now c.in-Some.request.now
    (one_request c.args.rules.now.rules c.args.rules.now.units c.requires.asked.0 c.requires.asked.1 c.args.sessions.now c.in-Some.request.now c.requires.asked.2 (ap option_copied (sym c.in-Some.is) ∙ c.first_request.ensures))

pub returns-in-None : goal.returns-in-None
returns-in-None c =
    let nothing = no_request c.args.rules.now.rules c.args.rules.now.units c.requires.asked.0 c.requires.asked.1 c.args.sessions.now c.requires.asked.2 (ap option_copied (sym c.in-None.is) ∙ c.first_request.ensures) in
    rw nothing (c.run_nothing.ensures c.args.rules.now c.requires.same_model)

pub returns-in-Some : goal.returns-in-Some
returns-in-Some c =
    let only = one_request c.args.rules.now.rules c.args.rules.now.units c.requires.asked.0 c.requires.asked.1 c.args.sessions.now c.in-Some.request.now c.requires.asked.2 (ap option_copied (sym c.in-Some.is) ∙ c.first_request.ensures) in
    rw only.is_all c.run_serial.ensures
