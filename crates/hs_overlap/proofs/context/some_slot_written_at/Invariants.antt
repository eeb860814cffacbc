use Rattle.std.proofs.Common.{ℕ, ◌<◌}
use Rattle.hs_overlap.specs.Tests.{WritesAt}
use Rattle.hs_overlap.proofs.context.some_slot_written_at.Given as goal

abbrev pub invariant-loop-k : goal.invariant-loop-k
invariant-loop-k l = (k : ℕ) → k < l.k → WritesAt l.shape l.i k → ⊥
