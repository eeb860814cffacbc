use Rattle.std.proofs.Common.{◌≡◌, ◌++◌, map, length}
use Rattle.std.specs.Vec.Iter.{into_iter_items, into_iter_len}
use Rattle.hs_meta.specs.Meaning as spec
use Rattle.hs_meta.proofs.metamodel.add_attributes.Given as goal

abbrev pub invariant-loop-attribute : goal.invariant-loop-attribute
invariant-loop-attribute l = record {
  whole : l.features ++ map (spec.attribute_of_raw l.owner) (into_iter_items l.attribute-iterator) ≡ l.fn.features ++ map (spec.attribute_of_raw l.owner) l.fn.attributes;
  left : into_iter_len l.attribute-iterator ≡ length (into_iter_items l.attribute-iterator);
}
