use Rattle.std.proofs.Common.{◌<◌, ◌≤◌}
use Rattle.hs_overlap.specs.Overlaps.{NodesMeet}
use Rattle.hs_overlap.specs.Weights.{HasCount}
use Rattle.hs_overlap.proofs.bound.node_partners.Given as goal

abbrev pub invariant-loop-j : goal.invariant-loop-j
invariant-loop-j l = HasCount (λ j. (j < l.j) × NodesMeet l.meta l.first l.second l.i j) l.count × (l.count ≤ l.j)
