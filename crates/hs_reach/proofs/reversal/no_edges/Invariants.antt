use Rattle.std.proofs.Common.{[], ◌≡◌, replicate}
use Rattle.hs_reach.proofs.reversal.no_edges.Given as goal

abbrev pub invariant-loop-vertex : goal.invariant-loop-vertex
invariant-loop-vertex l = l.graph.items ≡ replicate l._vertex []
