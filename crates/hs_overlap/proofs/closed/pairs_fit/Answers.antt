use Rattle.std.proofs.Common.{arith, refl, rules}
use Rattle.hs_overlap.specs.Tests.{PairFits}
use Rattle.hs_overlap.proofs.Taken.{all_taken, each_more}
use Rattle.hs_overlap.proofs.closed.pairs_fit.Goals as goal

pub loop-pair-preserved : goal.loop-pair-preserved
loop-pair-preserved c = each_more (PairFits c.args.meta.now c.args.first.now c.args.second.now c.args.partners.now) c.args.span.now c.loop-pair.pair-index _ (omega arith) c.loop-pair.invariant (c.pair_fits.ensures.0 (search rules))

pub returns : goal.returns
returns c = ((λ t q held. c.loop-pair.invariant q (all_taken c.args.span.now c.loop-pair.pair-index q (omega arith) held)), (λ h. refl))
