use Rattle.std.proofs.Common.{◌≡◌, ◌+◌, ◌^◌, ◌≤◌, ◌++◌, length, vec_len, vec_capacity}
use Rattle.std.specs.Vec.Iter.{into_iter_items}
use Rattle.hs_types.specs.Step.{new_objects}
use Rattle.hs_types.proofs.stepping.add_objects.Given as goal

-- what was added, and what is left to add, is all
abbrev pub invariant-loop-object : goal.invariant-loop-object
invariant-loop-object l =
    (goal.iterator-loop-object).can_next l.object-iterator ×
    (goal.iterator-loop-object).is_finite l.object-iterator ×
    (l.objects.items ++ new_objects l.number l.k (into_iter_items l.object-iterator) ≡ l.initial.objects.items ++ new_objects l.fn.first l.fn.first_name (into_iter_items l.initial.object-iterator)) ×
    (l.number + length (into_iter_items l.object-iterator) ≤ 2 ^ 32) ×
    (l.k + length (into_iter_items l.object-iterator) ≤ 10 ^ 10) ×
    (vec_len l.objects + length (into_iter_items l.object-iterator) ≡ vec_len l.initial.objects + length (into_iter_items l.initial.object-iterator)) ×
    (vec_len l.objects + length (into_iter_items l.object-iterator) ≤ vec_capacity l.objects) ×
    (vec_capacity l.objects ≡ vec_capacity l.initial.objects)
