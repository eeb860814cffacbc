-- The nodes and the edges of the inverse of a shape.
use Rattle.std.specs.Prelude.{List, map}
use Rattle.hs_types.specs.declared.rule.PatternEdge.{PatternEdge}
use Rattle.hs_types.specs.declared.rule.PatternNode.{PatternNode}
use Rattle.hs_types.specs.Pattern.{inverse_mark}

abbrev pub inverse_nodes : List PatternNode → List PatternNode
inverse_nodes nodes =
    map (λ node. record { name = node.name; class = node.class; mark = inverse_mark node.mark })
    nodes

abbrev pub inverse_edges : List PatternEdge → List PatternEdge
inverse_edges edges =
    map (λ edge. record {
      source = edge.source;
      reference = edge.reference;
      target = edge.target;
      mark = inverse_mark edge.mark;
    }) edges
