use Rattle.std.proofs.Common.{take, sym}
use Rattle.hs_expr.specs.Verdict.{verdict}
use Rattle.hs_text.specs.declared.syntax.Param.{Param}
use Rattle.hs_faults.proofs.Index.{known_next}
use Rattle.hs_faults.proofs.Failures.{fails_here, goes_on, passed_on}
use Rattle.hs_faults.specs.Declarations.{faults_of_params, param_faults}
use Rattle.hs_faults.proofs.declarations.check_params.Goals as goal

pub returns-in_err-check_param : goal.returns-in_err-check_param
returns-in_err-check_param c =
    passed_on c.from_residual.result c.in_err-check_param.field-0.0 (verdict (faults_of_params c.args.meta.now c.args.params.now)) c.from_residual.ensures.1
    (fails_here (λ i param. param_faults c.args.meta.now (take i c.args.params.now) param) c.args.params.now c.loop-param.param-index c.param-item.result c.in_err-check_param.field-0.0 (verdict (faults_of_params c.args.meta.now c.args.params.now))
    c.loop-param-test.true (sym c.param-item.is) c.loop-param.invariant.rest
    (c.in_err-check_param.ensures.fault (take c.loop-param.param-index c.args.params.now) c.loop-param.invariant.known))

pub loop-param-preserved : goal.loop-param-preserved
loop-param-preserved c =
    let before = take c.loop-param.param-index c.args.params.now in
    record {
      known = known_next (λ (other : Param). other.name) c.args.params.now c.loop-param.param-index c.param-item.result c.check_param.new.known c.loop-param-test.true (sym c.param-item.is) (c.in_ok-check_param.ensures.known before c.loop-param.invariant.known);
      rest = goes_on (λ i param. param_faults c.args.meta.now (take i c.args.params.now) param) c.args.params.now c.loop-param.param-index c.param-item.result (verdict (faults_of_params c.args.meta.now c.args.params.now))
          c.loop-param-test.true (sym c.param-item.is) c.loop-param.invariant.rest (c.in_ok-check_param.ensures.fault before c.loop-param.invariant.known);
    }
