use Rattle.std.proofs.Common.{ℕ, ◌<◌, ◌≡◌, ◌+◌, Some, slice_get}
use Rattle.hs_overlap.specs.Reasons.{IsPairBefore}
use Rattle.hs_overlap.specs.declared.pair.Pair.{Pair}
use Rattle.hs_overlap.proofs.listed.in_order.Given as goal

abbrev pub invariant-loop-i : goal.invariant-loop-i
invariant-loop-i l = (k : ℕ) (a b : Pair) → k + 1 < l.i → slice_get l.span k ≡ Some a → slice_get l.span (k + 1) ≡ Some b → IsPairBefore a b
