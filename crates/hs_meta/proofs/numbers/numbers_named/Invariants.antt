use Rattle.std.proofs.Common.{◌≡◌, ◌++◌, List, drop}
use Rattle.std.specs.List.{filter_map}
use Rattle.hs_meta.specs.declared.raw.RawClass.{RawClass}
use Rattle.hs_meta.specs.Names.{raw_class_number}
use Rattle.hs_meta.specs.Numbered.{KnowsClasses}
use Rattle.hs_meta.proofs.numbers.numbers_named.Given as goal

abbrev pub invariant-loop-text : goal.invariant-loop-text
invariant-loop-text l = (classes : List RawClass) → KnowsClasses l.numbers classes → l.found ++ filter_map (raw_class_number classes) (drop l.text-index l.texts) ≡ filter_map (raw_class_number classes) l.texts
