use Rattle.std.proofs.Common.{rules}
use Rattle.hs_types.specs.declared.graph.Edge.{Edge}
use Rattle.hs_types.specs.declared.graph.Object.{Object}
use Rattle.hs_match.proofs.Valid.{Rise-Ascend}
use Rattle.hs_match.proofs.extending.Extending.new.Goals as goal

pub invariant_of-result : goal.invariant_of-result
invariant_of-result c = record {
  objects_ascend = Rise-Ascend (λ (object : Object). object.number) c.args.graph.now.graph.objects 0 _ c.requires.in_order.objects;
  edges_ascend = Rise-Ascend (λ (edge : Edge). edge.number) c.args.graph.now.graph.edges 0 _ c.requires.in_order.edges;
  nodes_counted = search rules;
  edges_counted = search rules;
  few = search rules;
  images_differ = c.requires.nodes_differ;
  edge_images_differ = c.requires.edges_differ;
}
