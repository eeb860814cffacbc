use Rattle.hs_overlap.proofs.Paired.{edges_dropped, edges_paired, empty_refused, nodes_paired, slots_paired}
use Rattle.hs_overlap.proofs.laws.what_reasons_pair.Goals as goal

pub returns-clause-deleted : goal.returns-clause-deleted
returns-clause-deleted c = empty_refused

pub returns-clause-nodes : goal.returns-clause-nodes
returns-clause-nodes c = λ m r p w one other span h. nodes_paired m r p span h ((c.glue.ensures m r p w one other span).0 h.meet)

pub returns-clause-slots : goal.returns-clause-slots
returns-clause-slots c = λ m r p w one other span h. slots_paired m r p span h ((c.glue.ensures m r p w one other span).0 h.meet)

pub returns-clause-edges : goal.returns-clause-edges
returns-clause-edges c = λ m r p w one other span h. edges_paired m r p span h ((c.glue.ensures m r p w one other span).0 h.meet)

pub returns-clause-kept_edges : goal.returns-clause-kept_edges
returns-clause-kept_edges c = λ m r p w one other span h. edges_dropped m r p span h ((c.glue.ensures m r p w one other span).0 h.meet)
