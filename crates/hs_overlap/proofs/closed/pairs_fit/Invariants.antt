use Rattle.std.proofs.Common.{take, Contains}
use Rattle.hs_overlap.specs.Tests.{PairFits}
use Rattle.hs_overlap.specs.declared.pair.Pair.{Pair}
use Rattle.hs_overlap.proofs.closed.pairs_fit.Given as goal

abbrev pub invariant-loop-pair : goal.invariant-loop-pair
invariant-loop-pair l = (q : Pair) → Contains (take l.pair-index l.span) q → PairFits l.meta l.first l.second l.partners q
