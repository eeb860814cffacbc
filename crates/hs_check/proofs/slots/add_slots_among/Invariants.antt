use Rattle.std.proofs.Common.{◌≡◌, ◌++◌, drop}
use Rattle.hs_check.specs.Slots.{slots_among}
use Rattle.hs_check.proofs.slots.add_slots_among.Given as goal

abbrev pub invariant-loop-feature : goal.invariant-loop-feature
invariant-loop-feature l = l.slots ++ slots_among l.meta l.reads l.sets l.node (drop l.feature-index l.features) ≡ l.fn.slots ++ slots_among l.meta l.reads l.sets l.node l.features
