use Rattle.std.proofs.Common.{take}
use Rattle.hs_overlap.specs.Tests.{Fills}
use Rattle.hs_overlap.proofs.partners.partners_of.Given as goal

abbrev pub invariant-loop-pair : goal.invariant-loop-pair
invariant-loop-pair l = Fills l.partners (take l.pair-index l.span)
