use Rattle.std.proofs.Common.{◌≡◌, ◌++◌, drop}
use Rattle.hs_faults.specs.UnitFaults.{units_of}
use Rattle.hs_faults.proofs.cycles.units_of.Given as goal

abbrev pub invariant-loop-definition : goal.invariant-loop-definition
invariant-loop-definition l = l.units ++ units_of (drop l.definition-index l.definitions) ≡ units_of l.definitions
