use Rattle.std.proofs.Common.{ℕ, ◌<◌}
use Rattle.hs_overlap.specs.Tests.{DiffersAt}
use Rattle.hs_overlap.proofs.partners.all_differ.Given as goal

abbrev pub invariant-loop-i : goal.invariant-loop-i
invariant-loop-i l = (i : ℕ) → i < l.i → DiffersAt l.partners i
