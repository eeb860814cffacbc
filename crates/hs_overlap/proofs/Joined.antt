-- A graph that has the images of two shapes and nothing else.
use Rattle.std.proofs.Common.{ℕ, ◌<◌, ◌≡◌, ◌⊎◌, refl, sym, ap, ◌∙◌, inl, inr, Some}
use Rattle.hs_types.specs.declared.rule.Mark.TheVariants.{Drop}
use Rattle.hs_types.specs.declared.rule.PatternNode.{PatternNode}
use Rattle.hs_types.specs.declared.rule.PatternEdge.{PatternEdge}
use Rattle.hs_types.specs.declared.rule.Shape.{Shape}
use Rattle.hs_types.specs.declared.graph.Graph.{Graph}
use Rattle.hs_types.specs.declared.meta.Metamodel.{Metamodel}
use Rattle.hs_overlap.specs.LeftSide.{IsLeftNode, IsLeftEdge, IsAt}
use Rattle.hs_overlap.specs.Contexts.{IsDroppedEdge}
use Rattle.hs_overlap.specs.Maps.{Map, IsPlainMatch, HasNoDangling}
use Rattle.hs_types.specs.declared.graph.Edge.{Edge}
use Rattle.hs_types.specs.Metamodel.{HaveCommon}
use Rattle.hs_types.specs.TypedGraph.{IsOf, edge_numbered}
use Rattle.hs_overlap.specs.Maps.{IsDroppedImage}
use Rattle.hs_overlap.specs.Overlaps.{HasFittingEnds, CanOccur, DropsItsEdges}
use Rattle.std.proofs.Common.{eqb}
use Rattle.std.proofs.lemmas.Bool.{eqb-true}
use Rattle.hs_expr.proofs.Lists.{find-passes}

-- an edge of the graph, by its parts
abbrev pub HasLink : Graph → ℕ → ℕ → ℕ → ℕ → Type 0
HasLink g k a r b = edge_numbered g k ≡ Some (record { number = k; source = a; reference = r; target = b })

pub link_of : (g : Graph) (k : ℕ) (e : Edge) → edge_numbered g k ≡ Some e → HasLink g k e.source e.reference e.target
link_of g k e at = at ∙ ap (λ (z : ℕ). Some (record { number = z; source = e.source; reference = e.reference; target = e.target })) (eqb-true e.number k (find-passes (λ edge. eqb edge.number k) g.edges e at))

-- the map is injective on the left elements of the shape, and its values are below these numbers
pub record IsLaid (s : Shape) (m : Map) (objects links : ℕ) : Type 0 where
  pub nodes : (i j : ℕ) (v w : PatternNode) → IsLeftNode s i v → IsLeftNode s j w → m.node i ≡ m.node j → i ≡ j
  pub edges : (x y : ℕ) (e f : PatternEdge) → IsLeftEdge s x e → IsLeftEdge s y f → m.edge x ≡ m.edge y → x ≡ y
  pub objects_below : (i : ℕ) (v : PatternNode) → IsLeftNode s i v → m.node i < objects
  pub links_below : (x : ℕ) (e : PatternEdge) → IsLeftEdge s x e → m.edge x < links

-- where two maps lead to one place, the elements agree
pub record Agree (meta : Metamodel) (s : Shape) (m : Map) (t : Shape) (n : Map) : Type 0 where
  pub nodes : (i j : ℕ) (v w : PatternNode) → IsLeftNode s i v → IsLeftNode t j w → m.node i ≡ n.node j → HaveCommon meta v.class w.class
  pub references : (x y : ℕ) (e f : PatternEdge) → IsLeftEdge s x e → IsLeftEdge t y f → m.edge x ≡ n.edge y → e.reference ≡ f.reference
  pub sources : (x y : ℕ) (e f : PatternEdge) → IsLeftEdge s x e → IsLeftEdge t y f → m.edge x ≡ n.edge y → m.node e.source ≡ n.node f.source
  pub targets : (x y : ℕ) (e f : PatternEdge) → IsLeftEdge s x e → IsLeftEdge t y f → m.edge x ≡ n.edge y → m.node e.target ≡ n.node f.target

-- an edge of t at a dropped node of s lies on a dropped edge of s
abbrev pub TakesAlong : Shape → Map → Shape → Map → Type 0
TakesAlong s m t n = (i j : ℕ) (v : PatternNode) → IsLeftNode s i v → v.mark ≡ Drop → (y : ℕ) (f : PatternEdge) → IsLeftEdge t y f → IsAt f j → n.node j ≡ m.node i → IsDroppedImage s m (n.edge y)

-- a link that comes from the shape
pub record ComesFrom (s : Shape) (m : Map) (k a r b : ℕ) : Type 0 where
  pub edge : ℕ
  pub what : PatternEdge
  pub left : IsLeftEdge s edge what
  pub image : m.edge edge ≡ k
  pub source : a ≡ m.node what.source
  pub reference : r ≡ what.reference
  pub target : b ≡ m.node what.target

-- the graph has the images of both shapes, and no other links
pub record IsGluing (meta : Metamodel) (g : Graph) (s : Shape) (m : Map) (t : Shape) (n : Map) : Type 0 where
  pub first_nodes : (i : ℕ) (v : PatternNode) → IsLeftNode s i v → IsOf meta g v.class (m.node i)
  pub second_nodes : (j : ℕ) (w : PatternNode) → IsLeftNode t j w → IsOf meta g w.class (n.node j)
  pub first_edges : (x : ℕ) (e : PatternEdge) → IsLeftEdge s x e → HasLink g (m.edge x) (m.node e.source) e.reference (m.node e.target)
  pub second_edges : (y : ℕ) (f : PatternEdge) → IsLeftEdge t y f → HasLink g (n.edge y) (n.node f.source) f.reference (n.node f.target)
  pub only : (k a r b : ℕ) → HasLink g k a r b → ComesFrom s m k a r b ⊎ ComesFrom t n k a r b

pub turned : (meta : Metamodel) (g : Graph) (s : Shape) (m : Map) (t : Shape) (n : Map) → IsGluing meta g s m t n → IsGluing meta g t n s m
turned meta g s m t n h = record {
  first_nodes = h.second_nodes;
  second_nodes = h.first_nodes;
  first_edges = h.second_edges;
  second_edges = h.first_edges;
  only = λ k a r b l. elim (h.only k a r b l) [ inl c ↦ inr c | inr c ↦ inl c ];
}

pub glued_match : (meta : Metamodel) (g : Graph) (s : Shape) (m : Map) (t : Shape) (n : Map) (objects links : ℕ) → IsGluing meta g s m t n → IsLaid s m objects links → IsPlainMatch meta g s m
glued_match meta g s m t n objects links h l = record { nodes = h.first_nodes; edges = h.first_edges; nodes_differ = l.nodes; edges_differ = l.edges }

-- an end of a left edge of the same shape that lies on a dropped node is that node
own_drop : (meta : Metamodel) (s : Shape) (m : Map) (objects links : ℕ) → CanOccur meta s → IsLaid s m objects links → DropsItsEdges s →
    (i : ℕ) (v : PatternNode) → IsLeftNode s i v → v.mark ≡ Drop → (k a r b : ℕ) (c : ComesFrom s m k a r b) → (a ≡ m.node i) ⊎ (b ≡ m.node i) → IsDroppedImage s m k
own_drop meta s m objects links formed laid drops i v left d k a r b c at =
    let ends : HasFittingEnds meta s c.what = formed.edges c.edge c.what c.left in
    let here : IsAt c.what i = elim at [
      | inl e ↦ inl (laid.nodes c.what.source i ends.source v ends.begins left (sym c.source ∙ e))
      | inr e ↦ inr (laid.nodes c.what.target i ends.target v ends.ends left (sym c.target ∙ e))
    ] in
    let gone : IsDroppedEdge s c.edge = drops c.edge i c.what c.left (record { node = v; left = left; dropped = d }) here in
    record { edge = c.edge; what = gone.edge; left = gone.left; dropped = gone.dropped; image = c.image }

other_drop : (s : Shape) (m : Map) (t : Shape) (n : Map) → TakesAlong s m t n →
    (i : ℕ) (v : PatternNode) → IsLeftNode s i v → v.mark ≡ Drop → (k a r b : ℕ) (c : ComesFrom t n k a r b) → (a ≡ m.node i) ⊎ (b ≡ m.node i) → IsDroppedImage s m k
other_drop s m t n takes i v left d k a r b c at =
    let at_k : IsDroppedImage s m (n.edge c.edge) = elim at [
      | inl e ↦ takes i c.what.source v left d c.edge c.what c.left (inl refl) (sym c.source ∙ e)
      | inr e ↦ takes i c.what.target v left d c.edge c.what c.left (inr refl) (sym c.target ∙ e)
    ] in
    rw c.image at at_k

pub glued_no_dangling : (meta : Metamodel) (g : Graph) (s : Shape) (m : Map) (t : Shape) (n : Map) (objects links : ℕ) → IsGluing meta g s m t n → CanOccur meta s → IsLaid s m objects links →
    DropsItsEdges s → TakesAlong s m t n → HasNoDangling g s m
glued_no_dangling meta g s m t n objects links h formed laid drops takes i v left d k e at near =
    elim (h.only k e.source e.reference e.target (link_of g k e at)) [
      | inl c ↦ own_drop meta s m objects links formed laid drops i v left d k e.source e.reference e.target c near
      | inr c ↦ other_drop s m t n takes i v left d k e.source e.reference e.target c near
    ]
