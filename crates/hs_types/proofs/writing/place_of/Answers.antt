use Rattle.std.proofs.Common.{rules}
use Rattle.hs_types.proofs.Sorted.{missing}
use Rattle.hs_types.proofs.writing.place_of.Goals.{else-place-objects-via-then-place-objects+else-objects-place, else-place-objects-via-else-place-objects}
use Rattle.hs_types.proofs.writing.place_of.Goals as goal

pub returns-else-place-objects : goal.returns-else-place-objects
returns-else-place-objects c = missing c.args.objects.now c.requires.0 c.args.number c.first_from-place.result c.requires.1 c.first_from-place.ensures (elim c.else-place-objects.branch [
  | else-place-objects-via-then-place-objects+else-objects-place w ↦ λ l. (w.index-objects-place.result, search rules, search rules)
  | else-place-objects-via-else-place-objects w ↦ λ l. absurd (search rules)
])
