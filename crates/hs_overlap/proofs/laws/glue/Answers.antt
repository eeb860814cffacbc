use Rattle.hs_overlap.proofs.ReadOff.{glue_both}
use Rattle.hs_overlap.proofs.laws.glue.Goals as goal

pub returns : goal.returns
returns c = λ m r p w one other span. glue_both m r p w (record {
  transitive = c.conformance_is_an_order.ensures.transitive m;
  features = λ a b f h k. c.conformance_is_an_order.ensures.features m a b f w h k;
}) one other span
