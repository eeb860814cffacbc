-- What a shape deletes, its deletion context, and pairs of elements of two shapes.
use Rattle.std.specs.Prelude.{ℕ, ◌≡◌, ◌⊎◌, true, slice_get, Some}
use Rattle.hs_types.specs.declared.rule.Mark.TheVariants.{Drop}
use Rattle.hs_types.specs.declared.rule.PatternEdge.{PatternEdge}
use Rattle.hs_types.specs.declared.rule.PatternNode.{PatternNode}
use Rattle.hs_types.specs.declared.rule.PatternSlot.{PatternSlot}
use Rattle.hs_types.specs.declared.rule.Shape.{Shape}
use Rattle.hs_types.specs.Elements.{Element, Node as NodeAt, Edge as EdgeAt, Slot as SlotAt}
use Rattle.hs_overlap.specs.declared.pair.Pair.{Pair}
use Rattle.hs_overlap.specs.declared.pair.Pair.TheVariants.{Node, Edge, Slot}
use Rattle.hs_overlap.specs.LeftSide.{IsAt, IsLeftEdge, IsLeftNode, IsLeftSlot}

-- The element of the first shape, and that of the second.
abbrev pub of_first : Pair → Element
of_first (Node i j) = NodeAt i
of_first (Edge x y) = EdgeAt x
of_first (Slot k l) = SlotAt k

abbrev pub of_second : Pair → Element
of_second (Node i j) = NodeAt j
of_second (Edge x y) = EdgeAt y
of_second (Slot k l) = SlotAt l

pub record IsDroppedNode (s : Shape) (i : ℕ) : Type 0 where
  pub node : PatternNode
  pub left : IsLeftNode s i node
  pub dropped : node.mark ≡ Drop

pub record IsDroppedEdge (s : Shape) (x : ℕ) : Type 0 where
  pub edge : PatternEdge
  pub left : IsLeftEdge s x edge
  pub dropped : edge.mark ≡ Drop

pub record IsWrittenSlot (s : Shape) (k : ℕ) : Type 0 where
  pub slot : PatternSlot
  pub node : PatternNode
  pub left : IsLeftSlot s k slot node
  pub written : slot.written ≡ true

-- The element is on the left side.
abbrev pub IsLeft : Shape → Element → Type 0
IsLeft s (NodeAt i) = (v : PatternNode) × IsLeftNode s i v
IsLeft s (EdgeAt x) = (e : PatternEdge) × IsLeftEdge s x e
IsLeft s (SlotAt k) = (t : PatternSlot) × (v : PatternNode) × IsLeftSlot s k t v

-- A shape deletes the nodes and edges that it drops and the slots that it writes.
abbrev pub IsDeleted : Shape → Element → Type 0
IsDeleted s (NodeAt i) = IsDroppedNode s i
IsDeleted s (EdgeAt x) = IsDroppedEdge s x
IsDeleted s (SlotAt k) = IsWrittenSlot s k

-- An edge needs its ends, and a slot its node.
abbrev pub Needs : Shape → Element → Element → Type 0
Needs s (EdgeAt x) (NodeAt i) = (e : PatternEdge) × (slice_get s.edges x ≡ Some e) × IsAt e i
Needs s (SlotAt k) (NodeAt i) = (t : PatternSlot) × (slice_get s.slots k ≡ Some t) × (t.node ≡ i)
Needs s _ _ = ⊥

-- The deletion context: the least subgraph of the left side that has all deleted elements.
abbrev pub IsInContext : Shape → Element → Type 0
IsInContext s c = IsDeleted s c ⊎ ((d : Element) × IsDeleted s d × Needs s d c)
