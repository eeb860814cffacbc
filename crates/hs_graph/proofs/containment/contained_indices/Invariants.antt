use Rattle.std.proofs.Common.{◌≡◌, ◌++◌, drop}
use Rattle.std.specs.List.{filter_map}
use Rattle.hs_graph.specs.Problems as spec
use Rattle.hs_graph.proofs.containment.contained_indices.Given as goal

abbrev pub invariant-loop-edge : goal.invariant-loop-edge
invariant-loop-edge l = l.made ++ filter_map (spec.contained_index l.meta l.graph.graph) (drop l.edge-index l.edges) ≡ filter_map (spec.contained_index l.meta l.graph.graph) l.edges
