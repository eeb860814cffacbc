use Rattle.std.proofs.Common.{◌≡◌, ◌++◌, drop, map}
use Rattle.std.specs.List.{filter_map}
use Rattle.hs_graph.specs.Problems as spec
use Rattle.hs_graph.proofs.containment.containment_lists.Given as goal

abbrev pub invariant-loop-object : goal.invariant-loop-object
invariant-loop-object l = l.made ++ map (λ object. filter_map (spec.contained_index l.meta l.graph.graph) (spec.edges_leaving l.graph.graph object.number)) (drop l.object-index l.object-items) ≡ spec.containment_lists l.meta l.graph.graph
