use Rattle.std.proofs.Common.{ℕ, ◌≡◌, ◌||◌, ◌&&◌, eqb, length, take}
use Rattle.hs_expr.specs.Lists.{has}
use Rattle.hs_reach.specs.Reaching.{has_edge}
use Rattle.hs_reach.proofs.reversal.add_reversed.Given as goal

abbrev pub invariant-loop-to : goal.invariant-loop-to
invariant-loop-to l = record {
  long : length l.reversed.items ≡ length l.fn.reversed.items;
  added : (n k : ℕ) → has_edge l.reversed.items k n ≡ (has_edge l.fn.reversed.items k n || (eqb n l.vertex && has (take l.to-index l.edges) k));
}
