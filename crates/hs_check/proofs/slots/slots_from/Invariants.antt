use Rattle.std.proofs.Common.{◌≡◌, ◌+◌, ◌++◌, drop, length}
use Rattle.hs_check.specs.Slots.{slots_from}
use Rattle.hs_check.proofs.slots.slots_from.Given as goal

abbrev pub invariant-loop-i : goal.invariant-loop-i
invariant-loop-i l = l.slots ++ slots_from l.meta l.reads l.sets (length l.before + l.i) (drop l.i l.nodes) ≡ slots_from l.meta l.reads l.sets (length l.before) l.nodes
