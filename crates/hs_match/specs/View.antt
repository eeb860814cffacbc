-- What contracts see of a search.
use Rattle.hs_match.specs.declared.extending.Extending.{Extending as Search}
use Rattle.hs_match.specs.Extending.{Sought}

-- The search as plain data.
abbrev pub sought : Search → Sought
sought e = record {
  meta = e.meta.now;
  graph = e.graph.now.graph;
  base_nodes = e.base_nodes.now;
  base = record { nodes = e.base_images.now; edges = e.base_edge_images.now };
  nodes = e.nodes.now;
  edges = e.edges.now;
}
