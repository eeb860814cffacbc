use Rattle.std.proofs.Common.{take, Contains}
use Rattle.hs_overlap.specs.Tests.{CanMeetHere}
use Rattle.hs_overlap.specs.declared.pair.Pair.{Pair}
use Rattle.hs_overlap.proofs.listed.all_can_meet.Given as goal

abbrev pub invariant-loop-pair : goal.invariant-loop-pair
invariant-loop-pair l = (q : Pair) → Contains (take l.pair-index l.span) q → CanMeetHere l.first l.second q
