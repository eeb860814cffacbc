use Rattle.std.proofs.Common.{ℕ, ◌<◌}
use Rattle.hs_overlap.specs.Tests.{AreHeldAt}
use Rattle.hs_overlap.proofs.closed.slots_held.Given as goal

abbrev pub invariant-loop-k : goal.invariant-loop-k
invariant-loop-k l = (k : ℕ) → k < l.k → AreHeldAt l.first l.second l.partners l.span k
