use Rattle.std.proofs.Common.{◌≡◌, ℕ, List, drop, max, take}
use Rattle.hs_expr.specs.Verdict.{verdict, each_from}
use Rattle.hs_graph.specs.Faults as spec
use Rattle.hs_graph.specs.Lookups as lookups
use Rattle.hs_graph.specs.Meaning as meaning
use Rattle.hs_graph.proofs.numbers.names_of.Given as goal

abbrev pub invariant-loop-i : goal.invariant-loop-i
invariant-loop-i l = record {
  faults : verdict (each_from (spec.name_faults_at l.objects) l.i (drop l.i l.objects)) ≡ verdict (spec.name_faults l.objects);
  known : (name : List ℕ) → lookups.number_named l.numbers name ≡ lookups.place_of (take l.i (lookups.object_names l.objects)) name;
  next : max l.next_name (meaning.next_name_after (lookups.object_names (drop l.i l.objects))) ≡ meaning.next_name_after (lookups.object_names l.objects);
}
