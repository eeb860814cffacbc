use Rattle.std.proofs.Common.{◌++◌}
use Rattle.hs_types.specs.declared.graph.Edge.{Edge}
use Rattle.hs_match.specs.Candidates.{MayJoin}
use Rattle.hs_match.proofs.Scans.{Skipped}
use Rattle.hs_match.proofs.candidates.next_edge.Given as goal

abbrev pub invariant-loop-i : goal.invariant-loop-i
invariant-loop-i l = Skipped (λ (edge : Edge). edge.number) (MayJoin l.joining.source l.joining.reference l.joining.target (l.base ++ l.taken)) l.graph.graph.edges l.from l.i
