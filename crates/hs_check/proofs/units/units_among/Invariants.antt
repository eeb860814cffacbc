use Rattle.std.proofs.Common.{◌≡◌, ◌++◌, drop, map}
use Rattle.hs_faults.specs.UnitFaults.{units_of}
use Rattle.hs_check.specs.Units.{unit_meant}
use Rattle.hs_check.proofs.units.units_among.Given as goal

abbrev pub invariant-loop-definition : goal.invariant-loop-definition
invariant-loop-definition l = l.units ++ map (unit_meant l.meta l.known) (units_of (drop l.definition-index l.definitions)) ≡ map (unit_meant l.meta l.known) (units_of l.definitions)
