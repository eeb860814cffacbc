use Rattle.std.proofs.Common.{◌≡◌, drop, take}
use Rattle.hs_expr.specs.Verdict.{each_from, verdict}
use Rattle.hs_faults.specs.Bound.{tied_name}
use Rattle.hs_faults.specs.Named.{Knows}
use Rattle.hs_faults.specs.UnitFaults.{bind_faults, faults_of_binds}
use Rattle.hs_faults.proofs.calls.binds_by_name.Given as goal

abbrev pub invariant-loop-bind : goal.invariant-loop-bind
invariant-loop-bind l = record {
  bound : Knows tied_name l.bound (take l.bind-index l.call.binds);
  rest : verdict (each_from (λ i bind. bind_faults l.meta l.own l.params l.call.callee (take i l.call.binds) bind) l.bind-index (drop l.bind-index l.call.binds)) ≡ verdict (faults_of_binds l.meta l.own l.params l.call.callee l.call.binds);
}
