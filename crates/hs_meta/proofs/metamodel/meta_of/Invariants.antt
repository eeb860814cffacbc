use Rattle.std.proofs.Common.{◌≡◌, ◌+◌, ◌++◌, ◌∷◌, [], length}
use Rattle.std.specs.Vec.Iter.{into_iter_items, into_iter_len}
use Rattle.hs_expr.specs.Verdict.{each, each_from}
use Rattle.hs_meta.specs.Meaning as spec
use Rattle.hs_meta.proofs.metamodel.meta_of.Given as goal

abbrev pub invariant-loop-class : goal.invariant-loop-class
invariant-loop-class l = record {
  format : l.meta.format ≡ l.fn.format;
  classes : l.meta.classes ++ each_from (λ c class. spec.class_of_raw l.fn.classes c class ∷ []) (length l.meta.classes) (into_iter_items l.class-iterator) ≡ each (λ c class. spec.class_of_raw l.fn.classes c class ∷ []) l.fn.classes;
  features : l.meta.features ++ each_from (spec.own_features l.fn.classes) (length l.meta.classes) (into_iter_items l.class-iterator) ≡ each (spec.own_features l.fn.classes) l.fn.classes;
  count : length l.meta.classes + length (into_iter_items l.class-iterator) ≡ length l.fn.classes;
  left : into_iter_len l.class-iterator ≡ length (into_iter_items l.class-iterator);
}
