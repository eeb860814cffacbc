-- What a match drops, and the dangling condition: no edge is left without an end.
use Rattle.std.specs.Prelude.{ℕ, ◌≡◌, List, true, false, ◌||◌}
use Rattle.std.specs.List.{All}
use Rattle.hs_types.specs.declared.graph.Edge.{Edge}
use Rattle.hs_types.specs.declared.graph.Graph.{Graph}
use Rattle.hs_types.specs.declared.matching.Extension.{Extension}
use Rattle.hs_types.specs.declared.rule.Shape.{Shape}
use Rattle.hs_expr.specs.Lists.{has, beside}
use Rattle.hs_types.specs.Pattern.{is_drop, left_nodes, left_edges}

-- The images of dropped nodes, and those of dropped edges.
abbrev pub dropped_nodes : Shape → Extension → List ℕ
dropped_nodes s x = beside (λ node. is_drop node.mark) (left_nodes s.nodes) x.nodes

abbrev pub dropped_edges : Shape → Extension → List ℕ
dropped_edges s x = beside (λ edge. is_drop edge.mark) (left_edges s.edges) x.edges

-- Where these objects and these edges go, each edge at one of the objects is one of the edges.
abbrev pub NoneDangle : List ℕ → List ℕ → Graph → Type 0
NoneDangle objects edges g =
    All (λ edge. (has objects edge.source || has objects edge.target) ≡ true
    → has edges edge.number ≡ true) g.edges

-- An edge that would be left without an end.
abbrev pub Dangles : List ℕ → List ℕ → Edge → Type 0
Dangles objects edges edge =
    ((has objects edge.source || has objects edge.target) ≡ true) × (has edges edge.number ≡ false)
