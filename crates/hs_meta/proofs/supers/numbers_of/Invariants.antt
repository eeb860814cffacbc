use Rattle.std.proofs.Common.{◌≡◌, ◌++◌, drop}
use Rattle.std.specs.List.{filter_map}
use Rattle.hs_meta.specs.Names.{raw_class_number}
use Rattle.hs_meta.proofs.supers.numbers_of.Given as goal

abbrev pub invariant-loop-name : goal.invariant-loop-name
invariant-loop-name l = l.numbers ++ filter_map (raw_class_number l.classes) (drop l.name-index l.names) ≡ filter_map (raw_class_number l.classes) l.names
