use Rattle.std.proofs.Common.{◌≡◌, ◌++◌, drop}
use Rattle.std.specs.List.{flat_map}
use Rattle.hs_graph.specs.Problems as spec
use Rattle.hs_graph.proofs.validation.problems.Given as goal

abbrev pub invariant-loop-i : goal.invariant-loop-i
invariant-loop-i l = l.problems ++ flat_map (spec.problems_at l.meta l.graph.graph) (drop l.i l.objects) ≡ spec.problems_of l.meta l.graph.graph
