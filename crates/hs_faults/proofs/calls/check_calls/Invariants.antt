use Rattle.std.proofs.Common.{◌≡◌, drop}
use Rattle.hs_expr.specs.Verdict.{each, each_from, verdict}
use Rattle.hs_faults.specs.UnitFaults.{call_faults, rules_of, units_of}
use Rattle.hs_faults.proofs.calls.check_calls.Given as goal

abbrev pub invariant-loop-call : goal.invariant-loop-call
invariant-loop-call l =
    verdict (each_from (λ i call. call_faults l.callees.meta (rules_of l.callees.definitions) (units_of l.callees.definitions) l.own call) l.call-index (drop l.call-index l.calls))
    ≡ verdict (each (λ i call. call_faults l.callees.meta (rules_of l.callees.definitions) (units_of l.callees.definitions) l.own call) l.calls)
