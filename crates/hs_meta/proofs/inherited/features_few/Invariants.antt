use Rattle.std.proofs.Common.{◌≡◌, drop}
use Rattle.hs_expr.specs.Verdict.{verdict, each_from}
use Rattle.hs_meta.specs.Faults as spec
use Rattle.hs_meta.proofs.inherited.features_few.Given as goal

abbrev pub invariant-loop-c : goal.invariant-loop-c
invariant-loop-c l = verdict (each_from (spec.many_features_at l.classes) l.c (drop l.c l.classes)) ≡ verdict (spec.many_features l.classes)
