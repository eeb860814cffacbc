use Rattle.std.proofs.Common.{take}
use Rattle.hs_overlap.specs.Reasons.{HasDeleted}
use Rattle.hs_overlap.proofs.listed.has_deleted.Given as goal

abbrev pub invariant-loop-pair : goal.invariant-loop-pair
invariant-loop-pair l = HasDeleted l.first (take l.pair-index l.span) → ⊥
