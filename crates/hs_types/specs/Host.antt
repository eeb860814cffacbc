-- What a host stands for, and what it asks of a plan.
use Rattle.std.specs.Prelude.{ℕ, ◌+◌, ◌≤◌, List, length, ◌||◌, eqb}
use Rattle.std.specs.List.{filter}
use Rattle.hs_types.specs.declared.graph.Edge.{Edge}
use Rattle.hs_types.specs.declared.graph.Graph.{Graph}
use Rattle.hs_types.specs.declared.limits.TheConstants.{MAX_NAME_NUMBER, MAX_NUMBERS}
use Rattle.hs_types.specs.declared.meta.Metamodel.{Metamodel}
use Rattle.hs_types.specs.Plan.{Plan, Fits}

-- A graph over a metamodel, with room that is kept for objects and edges to come.
pub record RoomyGraph : Type 0 where
  pub meta : Metamodel
  pub graph : Graph
  pub spare_objects : ℕ
  pub spare_edges : ℕ

-- The next name's number is not far ahead of the next object's: an opening graph may have the name
-- `#3000000000`, and each step draws as many names as objects.
abbrev pub HasNearNames : Graph → Type 0
HasNearNames g = g.next_name ≤ g.next_object + (MAX_NAME_NUMBER + 1)

-- The edges at the object n, in the order of their numbers. A loop is there once.
abbrev pub edges_at : Graph → ℕ → List Edge
edges_at g n = filter (λ edge. eqb edge.source n || eqb edge.target n) g.edges

-- The plan can be carried out: it fits the graph, and no more numbers are drawn than there are.
pub record CanInstall (m : Metamodel) (g : Graph) (plan : Plan) : Type 0 where
  pub fits : Fits m g plan
  pub objects_drawn : g.next_object + length plan.make_objects ≤ MAX_NUMBERS
  pub edges_drawn : g.next_edge + length plan.make_edges ≤ MAX_NUMBERS
