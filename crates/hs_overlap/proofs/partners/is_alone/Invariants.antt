use Rattle.std.proofs.Common.{ℕ, ◌<◌, ◌≡◌, Some}
use Rattle.hs_overlap.specs.Completions.{partner}
use Rattle.hs_overlap.proofs.partners.is_alone.Given as goal

abbrev pub invariant-loop-k : goal.invariant-loop-k
invariant-loop-k l = (k : ℕ) → k < l.k → partner l.partners k ≡ Some l.j → l.i ≡ k
