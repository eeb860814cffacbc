-- What the search asks of a graph and of a rule.
use Rattle.std.specs.Prelude.{◌+◌, ◌≤◌, length, map}
use Rattle.hs_types.specs.declared.graph.Graph.{Graph}
use Rattle.hs_types.specs.declared.rule.Shape.{Shape}
use Rattle.hs_expr.specs.Lists.{Rise}
use Rattle.hs_types.specs.Pattern.{left_nodes, left_edges}

-- Objects and edges are in the order of their numbers, which differ and are below the next ones.
pub record InOrder (g : Graph) : Type 0 where
  pub objects : Rise 0 (map (λ object. object.number) g.objects) g.next_object
  pub edges : Rise 0 (map (λ edge. edge.number) g.edges) g.next_edge

-- The left side has no more nodes and edges than a search takes.
abbrev pub IsSmall : Shape → Type 0
IsSmall shape = length (left_nodes shape.nodes) + length (left_edges shape.edges) ≤ 28
