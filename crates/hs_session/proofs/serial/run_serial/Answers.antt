use Rattle.std.proofs.Common.{◌≡◌, ap, sym, ◌∙◌, Some, IsSomeAnd, subst}
use Rattle.std.specs.Prelude.{Option}
use Rattle.hs_types.specs.declared.rule.Rule.{Rule}
use Rattle.hs_types.specs.declared.unit.Callee.TheVariants as callee
use Rattle.hs_types.specs.Limits.{IsSmallRule}
use Rattle.hs_types.specs.RuleForm.{IsRule}
use Rattle.hs_expr.proofs.Items.{All-at}
use Rattle.hs_session.specs.Runnable.{IsRunnable}
use Rattle.hs_session.proofs.Served.{IsFirstTry, serial_told}
use Rattle.hs_session.proofs.serial.run_serial.Goals as goal

pub attempt-requires-clause-form : goal.attempt-requires-clause-form
attempt-requires-clause-form c =
    let rules = c.args.rules.now in
    let rule = c.rule_at-rule.result.now in
    let model : c.args.graph.meta ≡ rules.meta = c.requires.same_model in
    let formed = All-at (λ rule. IsRule rules.meta rule × IsSmallRule rule) rules.rules c.args.called rule c.are_formed.ensures.formed.are_rules c.rule_at-rule.ensures in
    rw model formed.0

pub attempt-requires-clause-small : goal.attempt-requires-clause-small
attempt-requires-clause-small c =
    let rules = c.args.rules.now in
    let formed = All-at (λ rule. IsRule rules.meta rule × IsSmallRule rule) rules.rules c.args.called c.rule_at-rule.result.now c.are_formed.ensures.formed.are_rules c.rule_at-rule.ensures in
    formed.1

pub returns : goal.returns
returns c =
    let rules = c.args.rules.now in
    let rule = c.rule_at-rule.result.now in
    let tried = c.in_ok-tried.tried in
    let model : c.args.graph.meta ≡ rules.meta = c.requires.same_model in
    let runs : IsRunnable c.args.graph.graph rule = subst (λ (r : Option Rule). IsSomeAnd r (IsRunnable c.args.graph.graph)) c.rule_at-rule.ensures c.requires.runnable in
    let made : IsFirstTry rules c.args.graph.graph c.args.request.now rule tried = record {
      called = c.requires.called ∙ ap (λ n. Some (callee.Rule n)) (sym c.in_ok-tried.ensures.rule);
      found = rw c.in_ok-tried.ensures.rule c.rule_at-rule.ensures;
      asked_args = c.requires.no_arguments;
      not_grouped = c.requires.not_grouped;
      tried_args = c.in_ok-tried.ensures.args ∙ c.requires.no_arguments;
      first = c.in_ok-tried.ensures.first;
      no_params = runs.no_params;
      told = rw (c.in_ok-tried.ensures.outcome, ← model) c.in_ok-outcome.ensures.lawful;
      least = rw (c.in_ok-tried.ensures.outcome, ← model) c.in_ok-outcome.ensures.least;
    } in
    rw (c.in_ok-one.ensures, c.in_ok-one-2.ensures, c.in_ok-reply.ensures)
    (serial_told rules c.args.graph.graph c.args.request.now rule tried c.in_ok-outcome.field-0.graph c.in_ok-outcome.field-0.outcome made c.in_ok-tried.ensures.outcome (rw (← model) c.in_ok-outcome.ensures.after) (c.in_ok-outcome.ensures.meta ∙ c.requires.same_model))
