use Rattle.std.proofs.Common.{◌≡◌, ◌<◌, ℕ, get_or}
use Rattle.hs_types.specs.declared.graph.Slot.{Slot}
use Rattle.hs_types.proofs.writing.place_among.Given as goal

abbrev pub invariant-loop-place : goal.invariant-loop-place
invariant-loop-place l = (k : ℕ) (d : Slot) → k < l.place → (get_or l.slots k d).attribute ≡ l.attribute → ⊥
