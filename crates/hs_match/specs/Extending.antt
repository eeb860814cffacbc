-- The images that a search looks for.
use Rattle.std.specs.Prelude.{ℕ, ◌≡◌, ◌-◌, List, [], ◌∷◌, ◌++◌, length, take, drop, false, Option, Some, None, IsSomeAnd, slice_get}
use Rattle.hs_types.specs.declared.graph.Graph.{Graph}
use Rattle.hs_types.specs.declared.matching.Extension.{Extension}
use Rattle.hs_types.specs.declared.meta.Metamodel.{Metamodel}
use Rattle.hs_types.specs.declared.rule.PatternEdge.{PatternEdge}
use Rattle.hs_types.specs.declared.rule.PatternNode.{PatternNode}
use Rattle.hs_types.specs.declared.rule.Shape.{Shape}
use Rattle.hs_expr.specs.Lists.{has}
use Rattle.hs_types.specs.Pattern.{left_nodes, left_edges}
use Rattle.hs_types.specs.PlainMatch.{image, IsImage, Extends}
use Rattle.hs_match.specs.Candidates.{IsFree}

-- What an extension is an extension of, and to what.
pub record Sought : Type 0 where
  pub meta : Metamodel
  pub graph : Graph
  pub base_nodes : List PatternNode
  pub base : Extension
  pub nodes : List PatternNode
  pub edges : List PatternEdge

-- The list is the images of the left nodes, and after them those of the left edges.
abbrev pub split : Sought → List ℕ → Extension
split s images = record {
  nodes = take (length (left_nodes s.nodes)) images;
  edges = drop (length (left_nodes s.nodes)) images;
}

abbrev pub shape : List PatternNode → List PatternEdge → Shape
shape nodes edges = record { nodes = nodes; edges = edges; slots = [] }

-- The images extend the base.
abbrev pub AreImages : Sought → List ℕ → Type 0
AreImages s images =
    Extends s.meta s.graph (shape s.base_nodes []) s.base (shape s.nodes s.edges) (split s images)

-- An image of the edge between those of its ends, among these images of nodes, that isn't taken.
pub record IsFreeImage (s : Sought) (nodes edges : List ℕ) (edge : PatternEdge)
    (n : ℕ) : Type 0 where
  pub joins : IsImage s.graph (image (s.base_nodes ++ s.nodes) (s.base.nodes ++ nodes)) edge n
  pub free : has (s.base.edges ++ edges) n ≡ false

-- The next image is that of a left node, if one is left, and else that of a left edge.
abbrev pub FitsAs : Sought → List ℕ → ℕ → Option PatternNode → Type 0
FitsAs s front n (Some node) = IsFree s.meta s.graph node.class (s.base.nodes ++ front) n
FitsAs s front n None =
    IsSomeAnd (slice_get (left_edges s.edges) (length front - length (left_nodes s.nodes)))
    (λ edge. IsFreeImage s (take (length (left_nodes s.nodes)) front)
    (drop (length (left_nodes s.nodes)) front) edge n)

abbrev pub FitsNext : Sought → List ℕ → ℕ → Type 0
FitsNext s front n = FitsAs s front n (slice_get (left_nodes s.nodes) (length front))

-- The object n isn't a free one of the class, or no images continue with it.
abbrev pub NoObject : Sought → ℕ → List ℕ → ℕ → Type 0
NoObject s class front n =
    (rest : List ℕ) → IsFree s.meta s.graph class (s.base.nodes ++ front) n
    → AreImages s (front ++ n ∷ rest) → ⊥
