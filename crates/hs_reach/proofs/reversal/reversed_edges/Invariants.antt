use Rattle.std.proofs.Common.{ℕ, ◌≡◌, ◌&&◌, length, ltb}
use Rattle.hs_reach.specs.Reaching.{has_edge}
use Rattle.hs_reach.proofs.reversal.reversed_edges.Given as goal

abbrev pub invariant-loop-vertex : goal.invariant-loop-vertex
invariant-loop-vertex l = record {
  long : length l.reversed.items ≡ length l.graph;
  so_far : (n k : ℕ) → has_edge l.reversed.items k n ≡ (ltb n l.vertex && has_edge l.graph n k);
}
