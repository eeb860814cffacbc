use Rattle.std.proofs.Common.{take}
use Rattle.hs_faults.specs.Named.{Knows}
use Rattle.hs_faults.specs.UnitFaults.{rules_of}
use Rattle.hs_faults.proofs.callees.known_rules.Given as goal

abbrev pub invariant-loop-definition : goal.invariant-loop-definition
invariant-loop-definition l = Knows (λ other. other.name) l.known (rules_of (take l.definition-index l.definitions))
