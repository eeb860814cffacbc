use Rattle.std.proofs.Common.{◌<◌, length, arith}
use Rattle.std.proofs.lemmas.Option.{slice_get_within}
use Rattle.hs_overlap.specs.Tests.{DropsAt}
use Rattle.hs_overlap.proofs.context.some_edge_dropped_at.Goals as goal

pub returns : goal.returns
returns c = ((λ t. cc), (λ f. let h : DropsAt c.args.shape.now c.args.i f.0 = f.1 in let below : f.0 < length c.args.shape.now.edges = slice_get_within c.args.shape.now.edges f.0 h.edge h.there in absurd (c.loop-x.invariant f.0 (omega arith) h)))
