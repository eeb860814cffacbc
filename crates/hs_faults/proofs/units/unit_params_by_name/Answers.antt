use Rattle.std.proofs.Common.{◌≡◌, take, sym}
use Rattle.hs_expr.specs.Verdict.{verdict}
use Rattle.hs_text.specs.declared.syntax.Param.{Param}
use Rattle.hs_faults.proofs.Index.{known_next}
use Rattle.hs_faults.proofs.Failures.{fails_here, goes_on, handed_on}
use Rattle.hs_faults.specs.UnitFaults.{faults_of_unit_params, unit_param_faults}
use Rattle.hs_faults.proofs.units.unit_params_by_name.Goals as goal

pub returns-in_err-check_unit_param : goal.returns-in_err-check_unit_param
returns-in_err-check_unit_param c =
    handed_on (λ index. index ≡ c.args.params.now) c.from_residual.result c.in_err-check_unit_param.field-0.0 (verdict (faults_of_unit_params c.args.meta.now c.args.params.now)) c.from_residual.ensures.1
    (fails_here (λ i param. unit_param_faults c.args.meta.now (take i c.args.params.now) param) c.args.params.now c.loop-param.param-index c.param-item.result c.in_err-check_unit_param.field-0.0 (verdict (faults_of_unit_params c.args.meta.now c.args.params.now))
    c.loop-param-test.true (sym c.param-item.is) c.loop-param.invariant.rest
    (c.in_err-check_unit_param.ensures.fault (take c.loop-param.param-index c.args.params.now) c.loop-param.invariant.known))

pub loop-param-preserved : goal.loop-param-preserved
loop-param-preserved c =
    let before = take c.loop-param.param-index c.args.params.now in
    record {
      known = known_next (λ (other : Param). other.name) c.args.params.now c.loop-param.param-index c.param-item.result c.check_unit_param.new.known c.loop-param-test.true (sym c.param-item.is) (c.in_ok-check_unit_param.ensures.known before c.loop-param.invariant.known);
      rest = goes_on (λ i param. unit_param_faults c.args.meta.now (take i c.args.params.now) param) c.args.params.now c.loop-param.param-index c.param-item.result (verdict (faults_of_unit_params c.args.meta.now c.args.params.now))
          c.loop-param-test.true (sym c.param-item.is) c.loop-param.invariant.rest (c.in_ok-check_unit_param.ensures.fault before c.loop-param.invariant.known);
    }
