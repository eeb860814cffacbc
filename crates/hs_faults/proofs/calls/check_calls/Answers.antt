use Rattle.std.proofs.Common.{sym}
use Rattle.hs_expr.specs.Verdict.{each, verdict}
use Rattle.hs_faults.proofs.Failures.{fails_here, goes_on, passed_on}
use Rattle.hs_faults.specs.UnitFaults.{call_faults, rules_of, units_of}
use Rattle.hs_faults.proofs.calls.check_calls.Goals as goal

pub loop-call-preserved : goal.loop-call-preserved
loop-call-preserved c =
    goes_on (λ i call. call_faults c.args.callees.now.meta (rules_of c.args.callees.now.definitions) (units_of c.args.callees.now.definitions) c.args.own.now call)
    c.args.calls.now c.loop-call.call-index c.call-item.result
    (verdict (each (λ i call. call_faults c.args.callees.now.meta (rules_of c.args.callees.now.definitions) (units_of c.args.callees.now.definitions) c.args.own.now call) c.args.calls.now))
    c.loop-call-test.true (sym c.call-item.is) c.loop-call.invariant c.in_ok-check_call.ensures

pub returns-in_err-check_call : goal.returns-in_err-check_call
returns-in_err-check_call c =
    let whole = verdict (each (λ i call. call_faults c.args.callees.now.meta (rules_of c.args.callees.now.definitions) (units_of c.args.callees.now.definitions) c.args.own.now call) c.args.calls.now) in
    passed_on c.from_residual.result c.in_err-check_call.field-0.0 whole c.from_residual.ensures.1
    (fails_here (λ i call. call_faults c.args.callees.now.meta (rules_of c.args.callees.now.definitions) (units_of c.args.callees.now.definitions) c.args.own.now call)
    c.args.calls.now c.loop-call.call-index c.call-item.result c.in_err-check_call.field-0.0 whole
    c.loop-call-test.true (sym c.call-item.is) c.loop-call.invariant c.in_err-check_call.ensures)
