use Rattle.std.proofs.Common.{◌<◌, length, arith}
use Rattle.std.proofs.lemmas.Option.{slice_get_within}
use Rattle.hs_overlap.specs.Tests.{WritesAt}
use Rattle.hs_overlap.proofs.context.some_slot_written_at.Goals as goal

pub returns : goal.returns
returns c = ((λ t. cc), (λ f. let h : WritesAt c.args.shape.now c.args.i f.0 = f.1 in let below : f.0 < length c.args.shape.now.slots = slice_get_within c.args.shape.now.slots f.0 h.slot h.there in absurd (c.loop-k.invariant f.0 (omega arith) h)))
