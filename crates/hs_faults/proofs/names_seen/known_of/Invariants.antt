use Rattle.std.proofs.Common.{take}
use Rattle.hs_faults.specs.Named.{Knows}
use Rattle.hs_faults.proofs.names_seen.known_of.Given as goal

abbrev pub invariant-loop-item : goal.invariant-loop-item
invariant-loop-item g l = Knows g.T.Named.named l.known (take l.item-index l.items)
