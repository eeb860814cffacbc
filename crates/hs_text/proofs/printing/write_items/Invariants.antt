use Rattle.std.proofs.Common.{◌≡◌, ◌++◌, drop, string_bytes}
use Rattle.std.specs.List.{flat_map}
use Rattle.hs_text.specs.Canonical.{item_text}
use Rattle.hs_text.proofs.printing.write_items.Given as goal

abbrev pub invariant-loop-item : goal.invariant-loop-item
invariant-loop-item l = string_bytes l.out ++ flat_map item_text (drop l.item-index l.items) ≡ string_bytes l.initial.out ++ flat_map item_text l.items
