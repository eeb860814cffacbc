-- Plain matches without dangling edges, by maps from a shape's numbers to a graph's.
use Rattle.std.specs.Prelude.{ℕ, ◌≡◌, ◌⊎◌, Some}
use Rattle.hs_types.specs.declared.graph.Edge.{Edge}
use Rattle.hs_types.specs.declared.graph.Graph.{Graph}
use Rattle.hs_types.specs.declared.meta.Metamodel.{Metamodel}
use Rattle.hs_types.specs.declared.rule.Mark.TheVariants.{Drop}
use Rattle.hs_types.specs.declared.rule.PatternEdge.{PatternEdge}
use Rattle.hs_types.specs.declared.rule.PatternNode.{PatternNode}
use Rattle.hs_types.specs.declared.rule.Shape.{Shape}
use Rattle.hs_types.specs.TypedGraph.{IsOf, edge_numbered}
use Rattle.hs_overlap.specs.LeftSide.{IsLeftEdge, IsLeftNode}

-- Where nodes and edges go. What a map says of elements outside the left side has no meaning.
pub record Map : Type 0 where
  pub node : ℕ → ℕ
  pub edge : ℕ → ℕ

-- The image of a pattern's edge, as an edge of a graph.
abbrev pub image_of_edge : Map → ℕ → PatternEdge → Edge
image_of_edge f x e = record {
  number = f.edge x;
  source = f.node e.source;
  reference = e.reference;
  target = f.node e.target;
}

-- Left nodes go to objects of their classes, left edges to edges of their references between the
-- images of their ends, and no two elements to one.
pub record IsPlainMatch (m : Metamodel) (g : Graph) (s : Shape) (f : Map) : Type 0 where
  pub nodes : (i : ℕ) (v : PatternNode) → IsLeftNode s i v → IsOf m g v.class (f.node i)
  pub edges : (x : ℕ) (e : PatternEdge) → IsLeftEdge s x e
      → edge_numbered g (f.edge x) ≡ Some (image_of_edge f x e)
  pub nodes_differ : (i j : ℕ) (v w : PatternNode) → IsLeftNode s i v → IsLeftNode s j w
      → f.node i ≡ f.node j → i ≡ j
  pub edges_differ : (x y : ℕ) (d e : PatternEdge) → IsLeftEdge s x d → IsLeftEdge s y e
      → f.edge x ≡ f.edge y → x ≡ y

-- Edge n of the graph is the image of a dropped edge.
pub record IsDroppedImage (s : Shape) (f : Map) (n : ℕ) : Type 0 where
  pub edge : ℕ
  pub what : PatternEdge
  pub left : IsLeftEdge s edge what
  pub dropped : what.mark ≡ Drop
  pub image : f.edge edge ≡ n

-- The dangling condition: each edge at the image of a dropped node is the image of a dropped edge.
abbrev pub HasNoDangling : Graph → Shape → Map → Type 0
HasNoDangling g s f =
    (i : ℕ) (v : PatternNode) → IsLeftNode s i v → v.mark ≡ Drop
    → (n : ℕ) (e : Edge) → edge_numbered g n ≡ Some e
    → (e.source ≡ f.node i) ⊎ (e.target ≡ f.node i) → IsDroppedImage s f n
