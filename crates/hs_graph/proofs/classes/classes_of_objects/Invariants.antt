use Rattle.std.proofs.Common.{◌≡◌, ◌++◌, drop, map}
use Rattle.hs_expr.specs.Verdict.{verdict, each_from}
use Rattle.hs_graph.specs.Faults as spec
use Rattle.hs_graph.specs.Lookups as lookups
use Rattle.hs_graph.proofs.classes.classes_of_objects.Given as goal

abbrev pub invariant-loop-i : goal.invariant-loop-i
invariant-loop-i l = record {
  faults : verdict (each_from (spec.object_class_faults_at l.meta) l.i (drop l.i l.objects)) ≡ verdict (spec.object_class_faults l.meta l.objects);
  whole : l.classes ++ map (lookups.class_of_object l.meta) (drop l.i l.objects) ≡ lookups.classes_of_objects l.meta l.objects;
}
