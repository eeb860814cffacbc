-- Elements of a left side by their numbers, and a left side followed by a forbid or require part.
use Rattle.std.specs.Prelude.{ℕ, ◌≡◌, ◌⊎◌, ◌++◌, true, Option, Some, None, slice_get}
use Rattle.hs_types.specs.declared.rule.Part.{Part}
use Rattle.hs_types.specs.declared.rule.PatternEdge.{PatternEdge}
use Rattle.hs_types.specs.declared.rule.PatternNode.{PatternNode}
use Rattle.hs_types.specs.declared.rule.PatternSlot.{PatternSlot}
use Rattle.hs_types.specs.declared.rule.Shape.{Shape}
use Rattle.hs_types.specs.Pattern.{is_left}

-- Node i of the shape is v, and on its left side.
pub record IsLeftNode (s : Shape) (i : ℕ) (v : PatternNode) : Type 0 where
  pub at : slice_get s.nodes i ≡ Some v
  pub left : is_left v.mark ≡ true

-- Edge x of the shape is e, and on its left side.
pub record IsLeftEdge (s : Shape) (x : ℕ) (e : PatternEdge) : Type 0 where
  pub at : slice_get s.edges x ≡ Some e
  pub left : is_left e.mark ≡ true

-- Slot k of the shape is t. A slot is on the left side where its node v is.
pub record IsLeftSlot (s : Shape) (k : ℕ) (t : PatternSlot) (v : PatternNode) : Type 0 where
  pub at : slice_get s.slots k ≡ Some t
  pub node : IsLeftNode s t.node v

-- The edge begins or ends at node i.
abbrev pub IsAt : PatternEdge → ℕ → Type 0
IsAt e i = (e.source ≡ i) ⊎ (e.target ≡ i)

-- Both ends of the edge are left nodes.
pub record HasEnds (s : Shape) (e : PatternEdge) : Type 0 where
  pub source : PatternNode
  pub target : PatternNode
  pub begins : IsLeftNode s e.source source
  pub ends : IsLeftNode s e.target target

-- The left side is a graph: each left edge has both its ends.
abbrev pub IsGraph : Shape → Type 0
IsGraph s = (x : ℕ) (e : PatternEdge) → IsLeftEdge s x e → HasEnds s e

-- A left side followed by a forbid or require part, whose numbers go on from the left side's.
abbrev pub with_part : Shape → Part → Shape
with_part s part = record {
  nodes = s.nodes ++ part.nodes;
  edges = s.edges ++ part.edges;
  slots = s.slots;
}

-- A left side, followed by a part if there is one.
abbrev pub whole : Shape → Option Part → Shape
whole s None = s
whole s (Some part) = with_part s part
