use Rattle.std.proofs.Common.{◌∙◌, subst, sym}
use Rattle.hs_reach.specs.Reaching.{TargetsAreVertices}
use Rattle.hs_graph.proofs.Inside.{contents-whole}
use Rattle.hs_graph.proofs.containment.cycles_of.Goals as goal

pub on_cycles-requires : goal.on_cycles-requires
on_cycles-requires c = subst TargetsAreVertices (sym (c.as_slice.ensures ∙ c.in_ok-containment_lists.ensures)) (contents-whole c.args.meta.now c.args.graph.now.graph)
