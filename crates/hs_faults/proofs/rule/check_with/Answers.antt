use Rattle.std.proofs.Common.{◌≡◌, ◌∙◌, List, Ok, Err, ap, sym}
use Rattle.hs_expr.specs.Verdict.{verdict}
use Rattle.hs_faults.proofs.Failures.{handed_on}
use Rattle.hs_faults.proofs.RuleFaults.{by_sizes}
use Rattle.hs_faults.specs.Contents.{rule_contents}
use Rattle.hs_faults.specs.declared.statements.CheckedStatement.{CheckedStatement}
use Rattle.hs_faults.specs.Faults.{faults_in_rule}
use Rattle.hs_faults.specs.Statements.{statements}
use Rattle.hs_faults.proofs.rule.check_with.Goals as goal

pub returns : goal.returns
returns c =
    let all : c.as_slice-all.result.now ≡ statements c.args.rule.now.items = c.as_slice-all.ensures ∙ c.in_ok-statements.ensures ∙ ap statements c.as_slice.ensures in
    let params = rw c.as_slice-params.ensures at c.in_ok-check_params.ensures in
    let joined = rw (c.in_ok-nodes.ensures.1, c.as_slice-params.ensures) at c.check_param_nodes.ensures in
    let stated = rw (c.in_ok-nodes.ensures.1, c.as_slice-params.ensures, all) at c.in_ok-checked.ensures.checked.0 in
    let sizes = rw (c.as_slice-2.ensures, c.in_ok-checked.ensures.depth, c.in_ok-nodes.ensures.1, c.as_slice-params.ensures, all) at c.in_ok-check_sizes.ensures in
    let made = rw (c.in_ok-nodes.ensures.1, c.as_slice-params.ensures, all, c.requires) at c.in_ok-checked.ensures.checked.1 in
    (by_sizes c.args.meta.now c.args.rule.now c.args.declared.now (Ok tt) c.requires params c.in_ok-nodes.ensures.0 (sym joined ∙ c.in_ok-as_failure.ensures) stated sizes, made)

pub returns-in_err-check_sizes : goal.returns-in_err-check_sizes
returns-in_err-check_sizes c =
    let all : c.as_slice-all.result.now ≡ statements c.args.rule.now.items = c.as_slice-all.ensures ∙ c.in_ok-statements.ensures ∙ ap statements c.as_slice.ensures in
    let params = rw c.as_slice-params.ensures at c.in_ok-check_params.ensures in
    let joined = rw (c.in_ok-nodes.ensures.1, c.as_slice-params.ensures) at c.check_param_nodes.ensures in
    let stated = rw (c.in_ok-nodes.ensures.1, c.as_slice-params.ensures, all) at c.in_ok-checked.ensures.checked.0 in
    let sizes = rw (c.as_slice-2.ensures, c.in_ok-checked.ensures.depth, c.in_ok-nodes.ensures.1, c.as_slice-params.ensures, all) at c.in_err-check_sizes.ensures in
    handed_on (λ (checked : List CheckedStatement). checked ≡ (rule_contents c.args.meta.now c.args.rule.now).statements) c.from_residual-in_err-check_sizes.result c.in_err-check_sizes.field-0.0 (verdict (faults_in_rule c.args.meta.now c.args.rule.now)) c.from_residual-in_err-check_sizes.ensures.1
    (by_sizes c.args.meta.now c.args.rule.now c.args.declared.now (Err c.in_err-check_sizes.field-0.0) c.requires params c.in_ok-nodes.ensures.0 (sym joined ∙ c.in_ok-as_failure.ensures) stated sizes)
