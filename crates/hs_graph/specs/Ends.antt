-- The ends of edges.
use Rattle.std.specs.Prelude.{ℕ, List}
use Rattle.hs_types.specs.declared.graph.Edge.{Edge}
use Rattle.hs_graph.specs.declared.index.End.{End}
use Rattle.hs_graph.specs.declared.index.End.TheVariants.{Source, Target}

-- The number of the object at this end of an edge.
abbrev pub end_number : End → Edge → ℕ
end_number Source edge = edge.source
end_number Target edge = edge.target

-- Edges with the end by which they are in order.
pub record EdgesBy : Type 0 where
  pub by : End
  pub edges : List Edge
