use Rattle.std.proofs.Common.{ℕ, ◌<◌, ◌≡◌, Some}
use Rattle.hs_overlap.specs.Overlaps.{MeetsDropped}
use Rattle.hs_overlap.specs.Completions.{partner}
use Rattle.hs_overlap.specs.Tests.{LeftAt}
use Rattle.hs_overlap.proofs.closed.takes_at.Given as goal

abbrev pub invariant-loop-y : goal.invariant-loop-y
invariant-loop-y l = (y : ℕ) → y < l.y → LeftAt l.second l.j y → MeetsDropped l.first (λ x. partner l.partners.edges x ≡ Some y)
