use Rattle.std.proofs.Common.{◌≡◌, length, sym, ◌∙◌, subst, rules}
use Rattle.hs_types.specs.declared.meta.Metamodel.{Metamodel}
use Rattle.hs_types.specs.Arguments.{no_args}
use Rattle.hs_types.specs.Metamodel.{IsMeta}
use Rattle.hs_types.specs.Plan.{Fits, plan_of}
use Rattle.hs_types.specs.Step.{step}
use Rattle.hs_types.specs.TypedGraph.{IsTyped}
use Rattle.hs_session.proofs.Attempts.{applied_asks, can_install, only_makes, within_numbers}
use Rattle.hs_session.proofs.Makes.{names_made, within_made}
use Rattle.hs_session.proofs.serial.applied.Goals as goal

pub install-requires : goal.install-requires
install-requires c =
    let m : Metamodel = c.args.graph.meta in
    let g = c.args.graph.graph in
    let is : IsMeta m = search rules in
    let typed : IsTyped m g = search rules in
    let at_match : c.in_ok-plan.plan ≡ plan_of m g c.args.rule.now no_args c.args.found = search rules in
    let fits : Fits m g c.in_ok-plan.plan = subst (Fits m g) (sym at_match) (c.plans_fit.ensures m g c.args.rule.now no_args c.args.found is c.requires.form typed c.requires.least.valid) in
    let made = only_makes m g c.args.rule.now c.args.found c.in_ok-plan.plan c.additions_only_make.ensures at_match c.requires.runnable.only_adds in
    can_install m g c.args.rule.now c.in_ok-plan.plan fits c.requires.runnable.room made.1 made.2

pub names_from-requires : goal.names_from-requires
names_from-requires c =
    let m : Metamodel = c.args.graph.meta in
    let g = c.args.graph.graph in
    let at_match : c.in_ok-plan.plan ≡ plan_of m g c.args.rule.now no_args c.args.found = search rules in
    let made = only_makes m g c.args.rule.now c.args.found c.in_ok-plan.plan c.additions_only_make.ensures at_match c.requires.runnable.only_adds in
    let here : c.objects.result.now ≡ (step g c.in_ok-plan.plan).objects = search rules in
    let count : length c.objects-count.result.now ≡ length g.objects = search rules in
    rw (here, count) (within_made g c.in_ok-plan.plan made.0)

pub returns-clause-lawful : goal.returns-clause-lawful
returns-clause-lawful c =
    let m : Metamodel = c.args.graph.meta in
    let g = c.args.graph.graph in
    let at_match : c.in_ok-plan.plan ≡ plan_of m g c.args.rule.now no_args c.args.found = search rules in
    let made = only_makes m g c.args.rule.now c.args.found c.in_ok-plan.plan c.additions_only_make.ensures at_match c.requires.runnable.only_adds in
    let here : c.objects.result.now ≡ (step g c.in_ok-plan.plan).objects = search rules in
    let count : length c.objects-count.result.now ≡ length g.objects = search rules in
    let names = rw (here, count) at c.in_ok-names_from.ensures in
    rw (c.new-2.ensures, c.new-3.ensures)
    (applied_asks m g c.args.rule.now c.args.found c.in_ok-plan.plan c.in_ok-found.found c.in_ok-names_from.field-0 at_match made.0 c.requires.least.valid c.in_ok-found.ensures (names ∙ names_made g c.in_ok-plan.plan made.0)
    (within_numbers g c.args.rule.now c.in_ok-plan.plan c.requires.runnable.room made.1 made.2))
