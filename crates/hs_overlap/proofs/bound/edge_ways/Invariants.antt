use Rattle.hs_overlap.specs.Weights.{HaveOneReference, IsCappedProduct}
use Rattle.hs_overlap.proofs.bound.edge_ways.Given as goal

abbrev pub invariant-loop-x : goal.invariant-loop-x
invariant-loop-x l = IsCappedProduct (HaveOneReference l.first l.second) l.x l.ways
