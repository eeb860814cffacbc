use Rattle.hs_overlap.proofs.Counts.{weight_from}
use Rattle.hs_overlap.proofs.bound.weight_of.Goals as goal

pub returns : goal.returns
returns c = rw c.times.ensures (weight_from c.args.meta.now c.args.first.now c.args.second.now c.node_ways.result c.edge_ways.result c.node_ways.ensures c.edge_ways.ensures)
