use Rattle.std.proofs.Common.{◌++◌}
use Rattle.hs_types.specs.declared.graph.Object.{Object}
use Rattle.hs_match.specs.Candidates.{MayBe}
use Rattle.hs_match.proofs.Scans.{Skipped}
use Rattle.hs_match.proofs.candidates.next_object.Given as goal

abbrev pub invariant-loop-i : goal.invariant-loop-i
invariant-loop-i l = Skipped (λ (object : Object). object.number) (MayBe l.meta l.class (l.base ++ l.taken)) l.graph.graph.objects l.from l.i
