-- Plain matches and their extensions: injective maps from left sides to objects and edges of the
-- graph.
use Rattle.std.specs.Prelude.{ℕ, ◌≡◌, List, [], ◌++◌, length, take, Some, slice_index}
use Rattle.std.specs.List.{AllZip}
use Rattle.hs_types.specs.declared.graph.Graph.{Graph}
use Rattle.hs_types.specs.declared.matching.Extension.{Extension}
use Rattle.hs_types.specs.declared.matching.Match.{Match}
use Rattle.hs_types.specs.declared.meta.Metamodel.{Metamodel}
use Rattle.hs_types.specs.declared.rule.PatternEdge.{PatternEdge}
use Rattle.hs_types.specs.declared.rule.PatternNode.{PatternNode}
use Rattle.hs_types.specs.declared.rule.Shape.{Shape}
use Rattle.hs_expr.specs.Lists.{Differ}
use Rattle.hs_types.specs.Pattern.{left_nodes, left_edges, no_shape}
use Rattle.hs_types.specs.TypedGraph.{edge_numbered, IsOf}

-- The images of left nodes are a list, in written order. That of node n follows those of the left
-- nodes before it.
abbrev pub image : List PatternNode → List ℕ → ℕ → ℕ
image nodes images n = slice_index images (length (left_nodes (take n nodes)))

-- The image of edge n, likewise by the left edges before it.
abbrev pub edge_image : List PatternEdge → List ℕ → ℕ → ℕ
edge_image edges images n = slice_index images (length (left_edges (take n edges)))

-- Edge n of the graph has the pattern edge's reference, and joins the images of its ends.
abbrev pub IsImage : Graph → (ℕ → ℕ) → PatternEdge → ℕ → Type 0
IsImage g at edge n =
    edge_numbered g n ≡ Some (record {
      number = n;
      source = at edge.source;
      reference = edge.reference;
      target = at edge.target;
    })

-- x extends the match f of the shape s to the shape t: an object for each left node of t, of its
-- class; an edge for each left edge of t, of its reference and between the images of its ends. No
-- object and no edge is taken twice, by f and x together.
pub record Extends (m : Metamodel) (g : Graph) (s : Shape) (f : Extension) (t : Shape)
    (x : Extension) : Type 0 where
  pub nodes_fit : AllZip (λ node n. IsOf m g node.class n) (left_nodes t.nodes) x.nodes
  pub edges_fit : AllZip (IsImage g (image (s.nodes ++ t.nodes) (f.nodes ++ x.nodes)))
      (left_edges t.edges) x.edges
  pub nodes_differ : Differ (f.nodes ++ x.nodes)
  pub edges_differ : Differ (f.edges ++ x.edges)

-- The match of the shape that nothing is in.
abbrev pub no_match : Extension
no_match = record { nodes = []; edges = [] }

-- A plain match begins from nothing. Arguments and conditions are left aside.
abbrev pub IsPlain : Metamodel → Graph → Shape → Extension → Type 0
IsPlain m g s f = Extends m g no_shape no_match s f

-- The kernel's part of a match.
abbrev pub kernel_of : Match → Extension
kernel_of f = record { nodes = f.nodes; edges = f.edges }
