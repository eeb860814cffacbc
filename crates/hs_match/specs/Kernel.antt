-- The search for a rule's kernel.
use Rattle.std.specs.Prelude.{[]}
use Rattle.hs_types.specs.declared.graph.Graph.{Graph}
use Rattle.hs_types.specs.declared.meta.Metamodel.{Metamodel}
use Rattle.hs_types.specs.declared.rule.Shape.{Shape}
use Rattle.hs_match.specs.Extending.{Sought}

-- A match of a shape is an extension of nothing.
abbrev pub kernel_search : Metamodel → Graph → Shape → Sought
kernel_search m g shape = record {
  meta = m;
  graph = g;
  base_nodes = [];
  base = record { nodes = []; edges = [] };
  nodes = shape.nodes;
  edges = shape.edges;
}
