use Rattle.std.proofs.Common.{ℕ, ◌<◌}
use Rattle.hs_overlap.specs.Tests.{KeptAtDropped}
use Rattle.hs_overlap.proofs.closed.drops_its_edges.Given as goal

abbrev pub invariant-loop-x : goal.invariant-loop-x
invariant-loop-x l = (x : ℕ) → x < l.x → KeptAtDropped l.shape x → ⊥
