-- Partial maps from the first shape's elements to the second's, and the closed overlaps that
-- complete them.
use Rattle.std.specs.Prelude.{ℕ, ◌≡◌, ◌↔◌, List, [], ◌∷◌, zero, suc, Option, Some, None, Contains, slice_get}
use Rattle.hs_types.specs.declared.meta.Metamodel.{Metamodel}
use Rattle.hs_types.specs.declared.rule.PatternEdge.{PatternEdge}
use Rattle.hs_types.specs.declared.rule.Shape.{Shape}
use Rattle.hs_overlap.specs.declared.pair.Pair.{Pair}
use Rattle.hs_overlap.specs.declared.pair.Pair.TheVariants.{Node, Edge, Slot}
use Rattle.hs_overlap.specs.LeftSide.{IsLeftEdge, IsAt}
use Rattle.hs_overlap.specs.Contexts.{IsDroppedNode}
use Rattle.hs_overlap.specs.Reasons.{CanMeet}
use Rattle.hs_overlap.specs.Overlaps.{NodesMeet, EdgesMeet, SlotsMeet, MeetsDropped, DropsItsEdges, IsClosed, IsPartOverContext}
use Rattle.hs_overlap.specs.declared.partners.Partners.{Partners}

-- The partner of number i.
abbrev pub flat : Option (Option ℕ) → Option ℕ
flat None = None
flat (Some x) = x

abbrev pub partner : List (Option ℕ) → ℕ → Option ℕ
partner xs i = flat (slice_get xs i)

-- The partners after number i gets one, if there is such a number.
abbrev pub put : List (Option ℕ) → ℕ → Option ℕ → List (Option ℕ)
put [] i x = []
put (y ∷ ys) zero x = x ∷ ys
put (y ∷ ys) (suc i) x = y ∷ put ys i x

-- The nodes and edges that are paired.
abbrev pub Joins : Partners → Pair → Type 0
Joins s (Node i j) = partner s.nodes i ≡ Some j
Joins s (Edge x y) = partner s.edges x ≡ Some y
Joins s (Slot k l) = ⊥

-- The same, and the slots that must then be paired.
abbrev pub On : Shape → Shape → Partners → Pair → Type 0
On r p s (Node i j) = partner s.nodes i ≡ Some j
On r p s (Edge x y) = partner s.edges x ≡ Some y
On r p s (Slot k l) = SlotsMeet (Joins s) r p k l

-- No two numbers have one partner.
abbrev pub PartnersDiffer : List (Option ℕ) → Type 0
PartnersDiffer xs = (i k j : ℕ) → partner xs i ≡ Some j → partner xs k ≡ Some j → i ≡ k

-- The map has all that a closed overlap needs, but that edges of r at nodes that are paired with
-- dropped ones may have no partner yet.
pub record IsNearlyClosed (m : Metamodel) (r p : Shape) (span : List Pair)
    (s : Partners) : Type 0 where
  pub nodes : (i j : ℕ) → partner s.nodes i ≡ Some j → NodesMeet m r p i j
  pub edges : (x y : ℕ) → partner s.edges x ≡ Some y → EdgesMeet (Joins s) r p x y
  pub nodes_differ : PartnersDiffer s.nodes
  pub edges_differ : PartnersDiffer s.edges
  pub second_edges : (i j y : ℕ) (f : PatternEdge) → partner s.nodes i ≡ Some j
      → IsDroppedNode r i → IsLeftEdge p y f → IsAt f j
      → MeetsDropped r (λ x. partner s.edges x ≡ Some y)
  pub node_part : (i j : ℕ) → CanMeet r p (Node i j)
      → (partner s.nodes i ≡ Some j) ↔ Contains span (Node i j)
  pub edge_part : (x y : ℕ) → CanMeet r p (Edge x y)
      → (partner s.edges x ≡ Some y) ↔ Contains span (Edge x y)
  pub slot_part : (k l : ℕ) → CanMeet r p (Slot k l)
      → SlotsMeet (Joins s) r p k l ↔ Contains span (Slot k l)
  pub first_drops : DropsItsEdges r
  pub second_drops : DropsItsEdges p

-- The overlap is closed, has the span as its part over the context, and has all pairs of the map.
pub record Completes (m : Metamodel) (r p : Shape) (span : List Pair) (s : Partners)
    (overlap : List Pair) : Type 0 where
  pub closed : IsClosed m r p (Contains overlap)
  pub part : IsPartOverContext r p span overlap
  pub nodes : (i j : ℕ) → partner s.nodes i ≡ Some j → Contains overlap (Node i j)
  pub edges : (x y : ℕ) → partner s.edges x ≡ Some y → Contains overlap (Edge x y)

abbrev pub CanComplete : Metamodel → Shape → Shape → List Pair → Partners → Type 0
CanComplete m r p span s = (overlap : List Pair) × Completes m r p span s overlap

-- Edge x of r must be paired and has no partner yet: one of its nodes is paired with a dropped one.
pub record IsForced (r p : Shape) (s : Partners) (x : ℕ) : Type 0 where
  pub edge : PatternEdge
  pub left : IsLeftEdge r x edge
  pub free : partner s.edges x ≡ None
  pub node : ℕ
  pub at : IsAt edge node
  pub other : ℕ
  pub pair : partner s.nodes node ≡ Some other
  pub dropped : IsDroppedNode p other

-- The second map has all pairs of the first.
pub record IsSubmap (s t : Partners) : Type 0 where
  pub nodes : (i j : ℕ) → partner s.nodes i ≡ Some j → partner t.nodes i ≡ Some j
  pub edges : (x y : ℕ) → partner s.edges x ≡ Some y → partner t.edges x ≡ Some y

-- The map t has all pairs of s and the pair q, and is nearly closed.
pub record IsPut (m : Metamodel) (r p : Shape) (span : List Pair) (s : Partners) (q : Pair)
    (t : Partners) : Type 0 where
  pub front : IsNearlyClosed m r p span t
  pub within : IsSubmap s t
  pub held : Joins t q

-- How many numbers have no partner.
abbrev pub free_count : List (Option ℕ) → ℕ
free_count [] = 0
free_count (Some j ∷ xs) = free_count xs
free_count (None ∷ xs) = suc (free_count xs)
