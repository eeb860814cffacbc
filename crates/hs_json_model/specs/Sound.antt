-- What holds of a metamodel and a graph that are read together.
use Rattle.std.specs.Prelude.{◌≤◌, ◌+◌, length}
use Rattle.hs_types.specs.declared.graph.Graph.{Graph}
use Rattle.hs_types.specs.declared.meta.Metamodel.{Metamodel}
use Rattle.hs_types.specs.declared.limits.TheConstants.{MAX_EDGES, MAX_NAME_NUMBER, MAX_OBJECTS}
use Rattle.hs_types.specs.Limits.{IsSmallMeta}
use Rattle.hs_types.specs.Metamodel.{IsMeta}
use Rattle.hs_types.specs.TypedGraph.{IsOpening}

-- A metamodel that keeps the limits, and over it a graph from which a journal begins, of at most
-- 200,000 objects and 400,000 edges; no object's name counts more than 3,000,000,000.
pub record IsSound (m : Metamodel) (g : Graph) : Type 0 where
  pub is_meta : IsMeta m
  pub is_small : IsSmallMeta m
  pub is_opening : IsOpening m g
  pub few_objects : length g.objects ≤ MAX_OBJECTS
  pub few_edges : length g.edges ≤ MAX_EDGES
  pub low_names : g.next_name ≤ MAX_NAME_NUMBER + 1
