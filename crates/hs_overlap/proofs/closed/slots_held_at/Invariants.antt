use Rattle.std.proofs.Common.{ℕ, ◌<◌, Contains}
use Rattle.hs_overlap.specs.Contexts.{IsWrittenSlot}
use Rattle.hs_overlap.specs.Overlaps.{SlotsMeet}
use Rattle.hs_overlap.specs.declared.pair.Pair.TheVariants.{Slot}
use Rattle.hs_overlap.specs.Completions.{Joins}
use Rattle.hs_overlap.proofs.closed.slots_held_at.Given as goal

abbrev pub invariant-loop-l : goal.invariant-loop-l
invariant-loop-l l = (k : ℕ) → k < l.l → IsWrittenSlot l.first l.k → SlotsMeet (Joins l.partners) l.first l.second l.k k → Contains l.span (Slot l.k k)
