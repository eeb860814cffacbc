use Rattle.std.proofs.Common.{◌++◌}
use Rattle.hs_match.specs.Candidates.{IsFree, IsNextFrom}
use Rattle.hs_match.specs.Linked.{IsLinkedBefore}
use Rattle.hs_match.proofs.link.next_end.Given as goal

abbrev pub invariant-loop-i : goal.invariant-loop-i
invariant-loop-i l = IsNextFrom (λ y. IsFree l.meta l.graph.graph l.class (l.base ++ l.taken) y × IsLinkedBefore l.graph.graph l.link l.i y) l.from l.least
