use Rattle.std.proofs.Common.{◌≡◌, ◌++◌, drop}
use Rattle.hs_graph.specs.Meaning as spec
use Rattle.hs_graph.proofs.objects.numbered_objects.Given as goal

abbrev pub invariant-loop-i : goal.invariant-loop-i
invariant-loop-i l = l.made ++ spec.objects_from l.meta l.i (drop l.i l.objects) ≡ spec.objects_from l.meta 0 l.objects
