use Rattle.std.proofs.Common.{◌≡◌, ◌++◌, drop, map}
use Rattle.hs_faults.specs.UnitFaults.{rules_of, called_units}
use Rattle.hs_faults.proofs.cycles.called_by_each.Given as goal

abbrev pub invariant-loop-unit : goal.invariant-loop-unit
invariant-loop-unit l = l.called ++ map (called_units (rules_of l.callees.definitions) l.units) (drop l.unit-index l.units) ≡ map (called_units (rules_of l.callees.definitions) l.units) l.units
