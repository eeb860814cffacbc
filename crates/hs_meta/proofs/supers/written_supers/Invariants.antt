use Rattle.std.proofs.Common.{◌≡◌, ◌++◌, drop, map}
use Rattle.std.specs.List.{filter_map}
use Rattle.hs_meta.specs.Names.{raw_class_number}
use Rattle.hs_meta.specs.WrittenSupers as spec
use Rattle.hs_meta.proofs.supers.written_supers.Given as goal

abbrev pub invariant-loop-class : goal.invariant-loop-class
invariant-loop-class l = l.supers ++ map (λ class. filter_map (raw_class_number l.classes) class.supers) (drop l.class-index l.classes) ≡ spec.written_supers l.classes
