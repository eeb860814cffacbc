-- Left sides that calls on conflict reasons take.
use Rattle.std.specs.Prelude.{◌≤◌, length}
use Rattle.hs_types.specs.declared.limits.TheConstants.{MAX_PATTERN_EDGES, MAX_PATTERN_NODES}
use Rattle.hs_types.specs.declared.meta.Metamodel.{Metamodel}
use Rattle.hs_types.specs.declared.rule.Shape.{Shape}
use Rattle.hs_overlap.specs.LeftSide.{IsGraph}
use Rattle.hs_overlap.specs.Overlaps.{CanOccur}

-- The shape is small, and its left side can occur in a graph.
pub record IsSide (m : Metamodel) (shape : Shape) : Type 0 where
  pub few : length shape.nodes ≤ MAX_PATTERN_NODES
  pub few_edges : length shape.edges ≤ MAX_PATTERN_EDGES
  pub graph : IsGraph shape
  pub occurs : CanOccur m shape
