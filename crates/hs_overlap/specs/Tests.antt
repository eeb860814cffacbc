-- What the single tests of the search for a closed overlap say.
use Rattle.hs_overlap.specs.Completions.{IsNearlyClosed, IsSubmap, Joins, PartnersDiffer, partner}
use Rattle.hs_types.specs.Elements.{Edge as EdgeAt, Node as NodeAt, Slot as SlotAt}
use Rattle.hs_overlap.specs.Contexts.{IsDroppedEdge, IsDroppedNode, IsInContext, IsLeft, IsWrittenSlot, of_first}
use Rattle.hs_overlap.specs.LeftSide.{IsAt, IsLeftNode}
use Rattle.hs_overlap.specs.Overlaps.{DropsItsEdges, EdgesMeet, MeetsDropped, NodesMeet, SlotsMeet}
use Rattle.hs_overlap.specs.declared.pair.Pair.{Pair}
use Rattle.hs_overlap.specs.declared.pair.Pair.TheVariants.{Edge, Node, Slot}
use Rattle.hs_overlap.specs.declared.partners.Partners.{Partners}
use Rattle.hs_types.specs.Pattern.{is_left}
use Rattle.hs_types.specs.declared.meta.Metamodel.{Metamodel}
use Rattle.hs_types.specs.declared.limits.TheConstants.{MAX_PATTERN_EDGES, MAX_PATTERN_NODES}
use Rattle.hs_types.specs.declared.rule.Mark.TheVariants.{Drop, Keep}
use Rattle.hs_types.specs.declared.rule.PatternEdge.{PatternEdge}
use Rattle.hs_types.specs.declared.rule.PatternNode.{PatternNode}
use Rattle.hs_types.specs.declared.rule.PatternSlot.{PatternSlot}
use Rattle.hs_types.specs.declared.rule.Shape.{Shape}
use Rattle.std.specs.Prelude.{Contains, List, Option, Some, slice_get, true, ℕ, ◌<◌, ◌↔◌, ◌≡◌, ◌≤◌, ◌⊎◌}

abbrev pub CanMeetHere : Shape → Shape → Pair → Type 0
CanMeetHere r p (Node i j) = IsInContext r (NodeAt i) × IsLeft p (NodeAt j)
CanMeetHere r p (Edge x y) = IsDroppedEdge r x × IsLeft p (EdgeAt y)
CanMeetHere r p (Slot k l) = IsWrittenSlot r k × IsLeft p (SlotAt l)

-- A left edge at the node.
pub record LeftAt (s : Shape) (j y : ℕ) : Type 0 where
  pub edge : PatternEdge
  pub there : slice_get s.edges y ≡ Some edge
  pub left : is_left edge.mark ≡ true
  pub at : IsAt edge j

abbrev pub TakesAt : Shape → Shape → Partners → ℕ → Type 0
TakesAt r p s j = (y : ℕ) → LeftAt p j y → MeetsDropped r (λ x. partner s.edges x ≡ Some y)

pub record NodePairFits (m : Metamodel) (r p : Shape) (s : Partners) (i j : ℕ) : Type 0 where
  pub meet : NodesMeet m r p i j
  pub second_edges : IsDroppedNode r i → TakesAt r p s j

-- The pair may be in a closed overlap with these partners.
abbrev pub PairFits : Metamodel → Shape → Shape → Partners → Pair → Type 0
PairFits m r p s (Node i j) = NodePairFits m r p s i j
PairFits m r p s (Edge x y) = EdgesMeet (Joins s) r p x y
PairFits m r p s (Slot k l) = SlotsMeet (Joins s) r p k l

abbrev pub PairsFit : Metamodel → Shape → Shape → Partners → List Pair → Type 0
PairsFit m r p s span = (q : Pair) → Contains span q → PairFits m r p s q

abbrev pub AreSlotsHeld : Shape → Shape → Partners → List Pair → Type 0
AreSlotsHeld r p s span =
    (k l : ℕ) → IsWrittenSlot r k → SlotsMeet (Joins s) r p k l → Contains span (Slot k l)

abbrev pub IsAlone : List (Option ℕ) → ℕ → ℕ → Type 0
IsAlone xs i j = (k : ℕ) → partner xs k ≡ Some j → i ≡ k

abbrev pub DiffersAt : List (Option ℕ) → ℕ → Type 0
DiffersAt xs i = (j : ℕ) → partner xs i ≡ Some j → IsAlone xs i j

-- A kept edge at a dropped node.
pub record KeptAtDropped (s : Shape) (x : ℕ) : Type 0 where
  pub edge : PatternEdge
  pub there : slice_get s.edges x ≡ Some edge
  pub kept : edge.mark ≡ Keep
  pub node : ℕ
  pub at : IsAt edge node
  pub dropped : IsDroppedNode s node

-- The partners are what the pairs say.
pub record Fills (s : Partners) (pairs : List Pair) : Type 0 where
  pub nodes : (i j : ℕ) → (partner s.nodes i ≡ Some j) ↔ Contains pairs (Node i j)
  pub edges : (x y : ℕ) → (partner s.edges x ≡ Some y) ↔ Contains pairs (Edge x y)

-- With one pair more.
pub record Puts (xs : List (Option ℕ)) (i j : ℕ) (ys : List (Option ℕ)) : Type 0 where
  pub here : partner ys i ≡ Some j
  pub cases : (k l : ℕ) → partner ys k ≡ Some l → ((k ≡ i) × (l ≡ j)) ⊎ (partner xs k ≡ Some l)
  pub keeps : (k l : ℕ) → partner xs k ≡ Some l → partner ys k ≡ Some l

abbrev pub Adds : Partners → Pair → Partners → Type 0
Adds s (Node i j) t = Puts s.nodes i j t.nodes × (t.edges ≡ s.edges)
Adds s (Edge x y) t = Puts s.edges x y t.edges × (t.nodes ≡ s.nodes)
Adds s (Slot k l) t = t ≡ s

-- It has another partner already, or is no number of the shape's.
abbrev pub HasNoPlaceFor : List (Option ℕ) → ℕ → ℕ → ℕ → Type 0
HasNoPlaceFor xs most i j = (most ≤ i) ⊎ ((k : ℕ) × (partner xs i ≡ Some k) × ((k ≡ j) → ⊥))

abbrev pub CannotAdd : Partners → Pair → Type 0
CannotAdd s (Node i j) = HasNoPlaceFor s.nodes MAX_PATTERN_NODES i j
CannotAdd s (Edge x y) = HasNoPlaceFor s.edges MAX_PATTERN_EDGES x y
CannotAdd s (Slot k l) = ⊥

-- No number has two partners, and all are numbers of a small shape.
pub record IsMap (span : List Pair) : Type 0 where
  pub node_below : (i j : ℕ) → Contains span (Node i j) → i < MAX_PATTERN_NODES
  pub edge_below : (x y : ℕ) → Contains span (Edge x y) → x < MAX_PATTERN_EDGES
  pub one : (a b : Pair) → Contains span a → Contains span b → of_first a ≡ of_first b → a ≡ b

abbrev pub AreHeldAt : Shape → Shape → Partners → List Pair → ℕ → Type 0
AreHeldAt r p s span k =
    (l : ℕ) → IsWrittenSlot r k → SlotsMeet (Joins s) r p k l → Contains span (Slot k l)

-- What is tested of a span with its partners.
pub record PassesTests (m : Metamodel) (r p : Shape) (span : List Pair)
    (s : Partners) : Type 0 where
  pub well : PairsFit m r p s span
  pub nodes : PartnersDiffer s.nodes
  pub edges : PartnersDiffer s.edges
  pub slots : AreSlotsHeld r p s span
  pub first_drops : DropsItsEdges r
  pub second_drops : DropsItsEdges p

-- The node is paired with a dropped one.
pub record IsAtDropped (p : Shape) (s : Partners) (i : ℕ) : Type 0 where
  pub other : ℕ
  pub pair : partner s.nodes i ≡ Some other
  pub dropped : IsDroppedNode p other

-- A dropped edge at the node.
pub record DropsAt (s : Shape) (i x : ℕ) : Type 0 where
  pub edge : PatternEdge
  pub there : slice_get s.edges x ≡ Some edge
  pub dropped : edge.mark ≡ Drop
  pub at : IsAt edge i

-- A written slot of the node, which is a left one.
pub record WritesAt (s : Shape) (i k : ℕ) : Type 0 where
  pub slot : PatternSlot
  pub there : slice_get s.slots k ≡ Some slot
  pub written : slot.written ≡ true
  pub at : slot.node ≡ i
  pub node : PatternNode
  pub left : IsLeftNode s i node

-- Two nodes that can meet, the first outside the context, the second with no partner.
pub record CanPair (m : Metamodel) (r p : Shape) (s : Partners) (i j : ℕ) : Type 0 where
  pub meet : NodesMeet m r p i j
  pub out : IsInContext r (NodeAt i) → ⊥
  pub alone : (k : ℕ) → partner s.nodes k ≡ Some j → ⊥

-- A dropped node, an end of a dropped edge, the node of a written slot.
abbrev pub IsNeeded : Shape → ℕ → Type 0
IsNeeded s i = IsDroppedNode s i ⊎ (((x : ℕ) × DropsAt s i x) ⊎ ((k : ℕ) × WritesAt s i k))

-- A kept edge and a left one of one reference.
pub record EdgesFit (one other : PatternEdge) : Type 0 where
  pub kept : one.mark ≡ Keep
  pub left : is_left other.mark ≡ true
  pub same : one.reference ≡ other.reference

-- The map t has all pairs of s, the ends of two edges are paired in it, and it is nearly closed.
pub record EndsPut (m : Metamodel) (r p : Shape) (span : List Pair) (s : Partners)
    (e f : PatternEdge) (t : Partners) : Type 0 where
  pub front : IsNearlyClosed m r p span t
  pub within : IsSubmap s t
  pub sources : partner t.nodes e.source ≡ Some f.source
  pub targets : partner t.nodes e.target ≡ Some f.target
