use Rattle.hs_overlap.specs.Overlaps.{NodesMeet}
use Rattle.hs_overlap.specs.Weights.{IsCappedProduct}
use Rattle.hs_overlap.proofs.bound.node_ways.Given as goal

abbrev pub invariant-loop-i : goal.invariant-loop-i
invariant-loop-i l = IsCappedProduct (NodesMeet l.meta l.first l.second) l.i l.ways
