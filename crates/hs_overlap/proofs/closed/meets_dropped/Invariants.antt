use Rattle.std.proofs.Common.{ℕ, ◌<◌, ◌≡◌, Some}
use Rattle.hs_overlap.specs.Contexts.{IsDroppedEdge}
use Rattle.hs_overlap.specs.Completions.{partner}
use Rattle.hs_overlap.proofs.closed.meets_dropped.Given as goal

abbrev pub invariant-loop-x : goal.invariant-loop-x
invariant-loop-x l = (x : ℕ) → x < l.x → IsDroppedEdge l.first x → partner l.partners.edges x ≡ Some l.y → ⊥
