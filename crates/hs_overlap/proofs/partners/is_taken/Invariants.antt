use Rattle.std.proofs.Common.{ℕ, ◌<◌, ◌≡◌, Some}
use Rattle.hs_overlap.specs.Completions.{partner}
use Rattle.hs_overlap.proofs.partners.is_taken.Given as goal

abbrev pub invariant-loop-i : goal.invariant-loop-i
invariant-loop-i l = (i : ℕ) → i < l.i → partner l.partners i ≡ Some l.j → ⊥
