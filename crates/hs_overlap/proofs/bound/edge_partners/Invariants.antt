use Rattle.std.proofs.Common.{◌<◌, ◌≤◌}
use Rattle.hs_overlap.specs.Weights.{HasCount, HaveOneReference}
use Rattle.hs_overlap.proofs.bound.edge_partners.Given as goal

abbrev pub invariant-loop-y : goal.invariant-loop-y
invariant-loop-y l = HasCount (λ y. (y < l.y) × HaveOneReference l.first l.second l.x y) l.count × (l.count ≤ l.y)
