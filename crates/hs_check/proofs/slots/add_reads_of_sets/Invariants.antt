use Rattle.std.proofs.Common.{◌≡◌, ◌++◌, drop}
use Rattle.std.specs.List.{flat_map}
use Rattle.hs_expr.specs.Evaluation.{reads_of}
use Rattle.hs_types.specs.declared.rule.SetItem.{SetItem}
use Rattle.hs_check.proofs.slots.add_reads_of_sets.Given as goal

abbrev pub invariant-loop-item : goal.invariant-loop-item
invariant-loop-item l = l.reads ++ flat_map (λ (item : SetItem). reads_of item.value) (drop l.item-index l.sets) ≡ l.fn.reads ++ flat_map (λ (item : SetItem). reads_of item.value) l.sets
