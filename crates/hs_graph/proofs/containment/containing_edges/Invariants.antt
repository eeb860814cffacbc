use Rattle.std.proofs.Common.{◌≡◌, ◌++◌, drop}
use Rattle.std.specs.List.{filter}
use Rattle.hs_graph.specs.Problems as spec
use Rattle.hs_graph.proofs.containment.containing_edges.Given as goal

abbrev pub invariant-loop-edge : goal.invariant-loop-edge
invariant-loop-edge l = l.made ++ filter (λ edge. spec.is_containment l.meta edge.reference) (drop l.edge-index l.edge-items) ≡ filter (λ edge. spec.is_containment l.meta edge.reference) l.graph.graph.edges
