use Rattle.std.proofs.Common.{◌≡◌, ◌++◌, drop}
use Rattle.std.specs.List.{filter_map}
use Rattle.hs_graph.specs.Meaning as meaning
use Rattle.hs_graph.proofs.attrs.slots_for.Given as goal

abbrev pub invariant-loop-feature : goal.invariant-loop-feature
invariant-loop-feature l = l.slots ++ filter_map (meaning.slot_for l.meta l.attrs) (drop l.feature-index l.feature-items) ≡ meaning.slots_for l.meta l.class l.attrs
