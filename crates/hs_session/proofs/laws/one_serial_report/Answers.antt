use Rattle.std.proofs.Common.{[], ◌∷◌, ◌≡◌, IsSomeAnd, ◌∙◌, subst}
use Rattle.std.specs.Prelude.{Option}
use Rattle.hs_types.specs.declared.meta.Metamodel.{Metamodel}
use Rattle.hs_types.specs.declared.rule.Rule.{Rule}
use Rattle.hs_types.specs.TypedGraph.{IsTyped}
use Rattle.hs_types.specs.ValidMatch.{IsFirst}
use Rattle.hs_types.specs.Arguments.{no_args}
use Rattle.hs_session.specs.Runnable.{IsRunnable}
use Rattle.hs_session.proofs.Exists.{one_exists}
use Rattle.hs_session.proofs.laws.one_serial_report.Goals as goal

pub returns-clause-exists : goal.returns-clause-exists
returns-clause-exists c =
    let rules = c.args.rules.now in
    let rule = c.rule_at.result.now in
    let model : c.deref.result.now ≡ rules.meta = c.deref.ensures ∙ (c.meta.ensures.value ∙ c.requires.same_model) in
    let typed : IsTyped rules.meta c.args.graph.now.graph = subst (λ (m : Metamodel). IsTyped m c.args.graph.now.graph) c.requires.same_model c.meta.ensures.typed in
    let runs : IsRunnable c.args.graph.now.graph rule = subst (λ (r : Option Rule). IsSomeAnd r (IsRunnable c.args.graph.now.graph)) c.rule_at.ensures c.requires.runnable in
    let answer = c.is_applicable.ensures in
    one_exists rules c.args.graph.now c.args.graph.now.graph c.args.request.now c.args.called rule answer.0 typed c.requires.called c.rule_at.ensures runs c.requires.no_arguments c.requires.not_grouped c.requires.same_model
    c.additions_only_make.ensures
    (subst (λ (m : Metamodel). IsFirst m c.args.graph.now.graph rule no_args answer.0) model answer.1)

pub returns-clause-one : goal.returns-clause-one
returns-clause-one c = λ a b.
    let formed = c.are_formed.ensures in
    let typed : IsTyped c.args.rules.now.meta c.args.graph.now.graph = subst (λ (m : Metamodel). IsTyped m c.args.graph.now.graph) c.requires.same_model c.meta.ensures.typed in
    c.serial_reports_are_one.ensures c.args.rules.now c.args.graph.now.graph ((c.args.request.now ∷ []) ∷ []) a b (formed.sound, formed.small, formed.formed) typed
