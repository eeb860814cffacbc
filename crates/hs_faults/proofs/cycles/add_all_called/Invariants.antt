use Rattle.std.proofs.Common.{◌≡◌, ◌++◌, drop}
use Rattle.std.specs.List.{filter_map}
use Rattle.hs_faults.specs.UnitFaults.{rules_of, unit_called}
use Rattle.hs_faults.proofs.cycles.add_all_called.Given as goal

abbrev pub invariant-loop-call : goal.invariant-loop-call
invariant-loop-call l = l.called ++ filter_map (unit_called (rules_of l.callees.definitions) l.units) (drop l.call-index l.calls) ≡ l.fn.called ++ filter_map (unit_called (rules_of l.callees.definitions) l.units) l.calls
