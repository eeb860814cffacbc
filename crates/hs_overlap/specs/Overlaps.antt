-- Closed overlaps, and the left sides that some graph can have.
use Rattle.std.specs.Prelude.{ℕ, ◌≡◌, ◌↔◌, true, List, Contains, IsSomeAnd}
use Rattle.hs_expr.specs.Lists.{has}
use Rattle.hs_types.specs.declared.meta.Metamodel.{Metamodel}
use Rattle.hs_types.specs.declared.rule.PatternEdge.{PatternEdge}
use Rattle.hs_types.specs.declared.rule.PatternNode.{PatternNode}
use Rattle.hs_types.specs.declared.rule.PatternSlot.{PatternSlot}
use Rattle.hs_types.specs.declared.rule.Shape.{Shape}
use Rattle.hs_types.specs.Metamodel.{Conforms, HaveCommon, features_of, target_of}
use Rattle.hs_overlap.specs.Contexts.{IsDroppedEdge, IsDroppedNode, of_first, of_second}
use Rattle.hs_overlap.specs.declared.pair.Pair.{Pair}
use Rattle.hs_overlap.specs.declared.pair.Pair.TheVariants.{Node, Edge, Slot}
use Rattle.hs_overlap.specs.LeftSide.{IsAt, IsLeftEdge, IsLeftNode, IsLeftSlot}
use Rattle.hs_overlap.specs.Reasons.{CanMeet}

-- Both ends of the edge are left nodes, of classes that the edge's reference can join.
pub record HasFittingEnds (m : Metamodel) (s : Shape) (e : PatternEdge) : Type 0 where
  pub source : PatternNode
  pub target : PatternNode
  pub begins : IsLeftNode s e.source source
  pub ends : IsLeftNode s e.target target
  pub owns : has (features_of m source.class) e.reference ≡ true
  pub takes : IsSomeAnd (target_of m e.reference) (λ class. Conforms m target.class class)

-- A left side that some typed graph can have: each node's class has a concrete class below it, each
-- edge fits between its ends, and no node has two slots of one kind.
pub record CanOccur (m : Metamodel) (s : Shape) : Type 0 where
  pub nodes : (i : ℕ) (v : PatternNode) → IsLeftNode s i v → HaveCommon m v.class v.class
  pub edges : (x : ℕ) (e : PatternEdge) → IsLeftEdge s x e → HasFittingEnds m s e
  pub slots : (k l : ℕ) (t u : PatternSlot) (v w : PatternNode)
      → IsLeftSlot s k t v → IsLeftSlot s l u w → t.node ≡ u.node → t.kind ≡ u.kind → k ≡ l

-- Two left nodes that one object can be the image of: some concrete class conforms to both classes.
pub record NodesMeet (m : Metamodel) (r p : Shape) (i j : ℕ) : Type 0 where
  pub one : PatternNode
  pub other : PatternNode
  pub first : IsLeftNode r i one
  pub second : IsLeftNode p j other
  pub common : HaveCommon m one.class other.class

-- Two left edges of one reference whose sources are paired, and whose targets are.
pub record EdgesMeet (On : Pair → Type 0) (r p : Shape) (x y : ℕ) : Type 0 where
  pub one : PatternEdge
  pub other : PatternEdge
  pub first : IsLeftEdge r x one
  pub second : IsLeftEdge p y other
  pub same : one.reference ≡ other.reference
  pub sources : On (Node one.source other.source)
  pub targets : On (Node one.target other.target)

-- Two left slots of one kind whose nodes are paired.
pub record SlotsMeet (On : Pair → Type 0) (r p : Shape) (k l : ℕ) : Type 0 where
  pub one : PatternSlot
  pub other : PatternSlot
  pub node : PatternNode
  pub other_node : PatternNode
  pub first : IsLeftSlot r k one node
  pub second : IsLeftSlot p l other other_node
  pub same : one.kind ≡ other.kind
  pub nodes : On (Node one.node other.node)

-- The partner is one of the edges that the shape drops.
pub record MeetsDropped (s : Shape) (IsPartner : ℕ → Type 0) : Type 0 where
  pub edge : ℕ
  pub dropped : IsDroppedEdge s edge
  pub pair : IsPartner edge

-- The shape drops every edge at a node that it drops.
abbrev pub DropsItsEdges : Shape → Type 0
DropsItsEdges s =
    (x i : ℕ) (e : PatternEdge) → IsLeftEdge s x e → IsDroppedNode s i → IsAt e i
    → IsDroppedEdge s x

-- A closed overlap: the pairs (those of which `On` holds) are all that coincides when the two left
-- sides are glued along them, and the graph that this gives has no dangling edge. No element is in
-- two pairs. Paired nodes, edges and slots can meet, and slots that can meet are paired. Each edge
-- at a node that is paired with a dropped node is itself paired with a dropped edge.
pub record IsClosed (m : Metamodel) (r p : Shape) (On : Pair → Type 0) : Type 0 where
  pub firsts_differ : (a b : Pair) → On a → On b → of_first a ≡ of_first b → a ≡ b
  pub seconds_differ : (a b : Pair) → On a → On b → of_second a ≡ of_second b → a ≡ b
  pub nodes : (i j : ℕ) → On (Node i j) → NodesMeet m r p i j
  pub edges : (x y : ℕ) → On (Edge x y) → EdgesMeet On r p x y
  pub slots : (k l : ℕ) → On (Slot k l) ↔ SlotsMeet On r p k l
  pub second_edges : (i j y : ℕ) (f : PatternEdge) → On (Node i j) → IsDroppedNode r i
      → IsLeftEdge p y f → IsAt f j → MeetsDropped r (λ x. On (Edge x y))
  pub first_edges : (i j x : ℕ) (e : PatternEdge) → On (Node i j) → IsDroppedNode p j
      → IsLeftEdge r x e → IsAt e i → MeetsDropped p (λ y. On (Edge x y))
  pub first_drops : DropsItsEdges r
  pub second_drops : DropsItsEdges p

-- The overlap has a pair of an element of the context of r and an element of p exactly where the
-- span has it.
abbrev pub IsPartOverContext : Shape → Shape → List Pair → List Pair → Type 0
IsPartOverContext r p span overlap =
    (q : Pair) → CanMeet r p q → Contains overlap q ↔ Contains span q

-- The span is the part over the context of r of some closed overlap.
pub record HasClosedOverlap (m : Metamodel) (r p : Shape) (span : List Pair) : Type 0 where
  pub overlap : List Pair
  pub closed : IsClosed m r p (Contains overlap)
  pub part : IsPartOverContext r p span overlap
