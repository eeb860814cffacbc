use Rattle.std.proofs.Common.{ℕ, ◌<◌}
use Rattle.hs_overlap.specs.Tests.{DropsAt}
use Rattle.hs_overlap.proofs.context.some_edge_dropped_at.Given as goal

abbrev pub invariant-loop-x : goal.invariant-loop-x
invariant-loop-x l = (x : ℕ) → x < l.x → DropsAt l.shape l.i x → ⊥
