use Rattle.std.proofs.Common.{◌≡◌, drop, take}
use Rattle.hs_expr.specs.Verdict.{verdict}
use Rattle.hs_faults.specs.SeenUnits.{HasSeenUnits}
use Rattle.hs_faults.specs.UnitFaults.{faults_of_each, rules_of, unit_faults_after, units_of}
use Rattle.hs_faults.proofs.units.check_each_unit.Given as goal

abbrev pub invariant-loop-definition : goal.invariant-loop-definition
invariant-loop-definition l = record {
  seen : HasSeenUnits l.seen (units_of (take l.definition-index l.definitions));
  rest : verdict (unit_faults_after l.callees.meta (rules_of l.callees.definitions) (units_of l.callees.definitions) (units_of (take l.definition-index l.definitions)) (drop l.definition-index l.definitions)) ≡ verdict (faults_of_each l.callees.meta l.definitions);
}
