use Rattle.std.proofs.Common.{◌≡◌, map, vec_len, vec_capacity}
use Rattle.hs_types.specs.Step.{object_after}
use Rattle.hs_types.specs.Writing.{AreKeyed}
use Rattle.hs_types.proofs.writing.write_slots.Given as goal

-- what is left to write, over what was slot_after, is all
abbrev pub invariant-loop-write : goal.invariant-loop-write
invariant-loop-write l =
    record {
      whole : map (object_after l.writes.items) l.objects.items ≡ map (object_after l.initial.writes.items) l.initial.objects.items;
      keyed : AreKeyed l.objects.items;
      length : vec_len l.objects ≡ vec_len l.initial.objects;
      capacity : vec_capacity l.objects ≡ vec_capacity l.initial.objects;
    }

abbrev pub decreases-loop-write : goal.decreases-loop-write
decreases-loop-write l = vec_len l.writes
