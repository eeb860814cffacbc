use Rattle.std.proofs.Common.{◌≡◌, ◌++◌, List, map, length}
use Rattle.std.specs.Vec.Iter.{into_iter_items, into_iter_len}
use Rattle.hs_meta.specs.declared.raw.RawClass.{RawClass}
use Rattle.hs_meta.specs.Meaning as spec
use Rattle.hs_meta.specs.Numbered.{KnowsClasses}
use Rattle.hs_meta.proofs.metamodel.add_references.Given as goal

abbrev pub invariant-loop-reference : goal.invariant-loop-reference
invariant-loop-reference l = record {
  whole : (classes : List RawClass) → KnowsClasses l.numbers classes → l.features ++ map (spec.reference_of_raw classes l.owner) (into_iter_items l.reference-iterator) ≡ l.fn.features ++ map (spec.reference_of_raw classes l.owner) l.fn.references;
  left : into_iter_len l.reference-iterator ≡ length (into_iter_items l.reference-iterator);
}
