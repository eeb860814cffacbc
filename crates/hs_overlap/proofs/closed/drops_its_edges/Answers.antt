use Rattle.std.proofs.Common.{◌<◌, length, arith, refl}
use Rattle.std.proofs.lemmas.Option.{slice_get_within}
use Rattle.hs_overlap.proofs.Drops.{kept_none, no_kept}
use Rattle.hs_overlap.proofs.closed.drops_its_edges.Goals as goal

pub returns-then-is_kept_at_dropped : goal.returns-then-is_kept_at_dropped
returns-then-is_kept_at_dropped c = ((λ t. absurd cc), (λ h. absurd (no_kept c.args.shape.now h c.loop-x.x (c.is_kept_at_dropped.ensures.0 c.if-is_kept_at_dropped.true))))

pub returns : goal.returns
returns c = ((λ t. kept_none c.args.shape.now (λ x k. let below : x < length c.args.shape.now.edges = slice_get_within c.args.shape.now.edges x k.edge k.there in c.loop-x.invariant x (omega arith) k)), (λ h. refl))
