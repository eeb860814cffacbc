use Rattle.std.proofs.Common.{◌≡◌, ◌++◌, drop}
use Rattle.hs_graph.specs.Meaning as spec
use Rattle.hs_graph.proofs.edges.numbered_edges.Given as goal

abbrev pub invariant-loop-i : goal.invariant-loop-i
invariant-loop-i l = l.made ++ spec.edges_of_links l.i (drop l.i l.links) ≡ spec.edges_of_links 0 l.links
