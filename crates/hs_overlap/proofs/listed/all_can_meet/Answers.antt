use Rattle.std.proofs.Common.{arith, refl, rules}
use Rattle.hs_overlap.specs.Tests.{CanMeetHere}
use Rattle.hs_overlap.proofs.Taken.{all_taken, each_more}
use Rattle.hs_overlap.proofs.listed.all_can_meet.Goals as goal

pub loop-pair-preserved : goal.loop-pair-preserved
loop-pair-preserved c = each_more (CanMeetHere c.args.first.now c.args.second.now) c.args.span.now c.loop-pair.pair-index _ (omega arith) c.loop-pair.invariant (c.can_meet.ensures.0 (search rules))

pub returns : goal.returns
returns c = ((λ t q held. c.loop-pair.invariant q (all_taken c.args.span.now c.loop-pair.pair-index q (omega arith) held)), (λ h. refl))
