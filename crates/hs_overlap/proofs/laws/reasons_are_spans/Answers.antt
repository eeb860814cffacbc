use Rattle.hs_overlap.proofs.Spans.{reason_spans}
use Rattle.hs_overlap.proofs.laws.reasons_are_spans.Goals as goal

pub returns : goal.returns
returns c = λ m r p w one other span h. reason_spans m r p span h ((c.glue.ensures m r p w one other span).0 h.meet)
