-- A span with its partners: what the tests say is all that a closed overlap says.
use Rattle.std.proofs.Common.{ℕ, ◌<◌, ◌≤◌, ◌≡◌, List, length, refl, inl, inr, arith, Contains, Some}
use Rattle.std.proofs.lemmas.Option.{slice_get_within}
use Rattle.hs_types.specs.declared.meta.Metamodel.{Metamodel}
use Rattle.hs_types.specs.declared.rule.PatternEdge.{PatternEdge}
use Rattle.hs_types.specs.declared.rule.Shape.{Shape}
use Rattle.hs_overlap.specs.declared.pair.Pair.{Pair}
use Rattle.hs_overlap.specs.declared.pair.Pair.TheVariants.{Node, Edge, Slot}
use Rattle.hs_overlap.specs.LeftSide.{IsLeftEdge, IsAt}
use Rattle.hs_types.specs.Elements.{Node as NodeAt, Edge as EdgeAt, Slot as SlotAt}
use Rattle.hs_overlap.specs.Contexts.{of_first, IsDroppedEdge, IsWrittenSlot, IsInContext}
use Rattle.hs_overlap.specs.Reasons.{CanMeet, IsListed}
use Rattle.hs_overlap.specs.Overlaps.{HasClosedOverlap, EdgesMeet, MeetsDropped, NodesMeet, SlotsMeet}
use Rattle.hs_overlap.proofs.LeftElements.{context_edge, context_slot}
use Rattle.hs_overlap.specs.declared.partners.Partners.{Partners}
use Rattle.hs_overlap.specs.Completions.{partner, Joins, IsNearlyClosed, Completes, CanComplete}
use Rattle.hs_overlap.specs.Tests.{CanMeetHere, Fills, PassesTests, IsMap, PairFits, LeftAt, NodePairFits}

pub can_meet_from : (r p : Shape) (q : Pair) → CanMeetHere r p q → CanMeet r p q
can_meet_from r p (Node i j) h = record { context = h.0; left = h.1 }
can_meet_from r p (Edge x y) h = record { context = inl h.0; left = h.1 }
can_meet_from r p (Slot k l) h = record { context = inl h.0; left = h.1 }

pub can_meet_to : (r p : Shape) (q : Pair) → CanMeet r p q → CanMeetHere r p q
can_meet_to r p (Node i j) h = (h.context, h.left)
can_meet_to r p (Edge x y) h = (context_edge r x h.context, h.left)
can_meet_to r p (Slot k l) h = (context_slot r k h.context, h.left)

left_at : (s : Shape) (y j : ℕ) (f : PatternEdge) → IsLeftEdge s y f → IsAt f j → LeftAt s j y
left_at s y j f left at = record { edge = f; there = left.at; left = left.left; at = at }

pub front_of : (m : Metamodel) (r p : Shape) (span : List Pair) (s : Partners) → IsListed r p span → Fills s span → PassesTests m r p span s → IsNearlyClosed m r p span s
front_of m r p span s formed f t = record {
  nodes = λ i j h. let w : NodePairFits m r p s i j = t.well (Node i j) ((f.nodes i j).0 h) in w.meet;
  edges = λ x y h. t.well (Edge x y) ((f.edges x y).0 h);
  nodes_differ = t.nodes;
  edges_differ = t.edges;
  second_edges = λ i j y g h d left at. let w : NodePairFits m r p s i j = t.well (Node i j) ((f.nodes i j).0 h) in w.second_edges d y (left_at p y j g left at);
  node_part = λ i j can. f.nodes i j;
  edge_part = λ x y can. f.edges x y;
  slot_part = λ k l can. ((λ h. t.slots k l (context_slot r k can.context) h), (λ c. t.well (Slot k l) c));
  first_drops = t.first_drops;
  second_drops = t.second_drops;
}

module _ (m : Metamodel) (r p : Shape) (span : List Pair) (formed : IsListed r p span) (g : HasClosedOverlap m r p span) where
  on_of : (q : Pair) → Contains span q → Contains g.overlap q
  on_of q c = (g.part q (formed.pairs q c)).1 c

  same_first : (a b : Pair) → Contains span a → Contains span b → of_first a ≡ of_first b → a ≡ b
  same_first a b c d e = g.closed.firsts_differ a b (on_of a c) (on_of b d) e

  pub map_of_glued : length r.nodes ≤ 12 → length r.edges ≤ 16 → IsMap span
  map_of_glued few few_edges = record {
    node_below = λ i j c. let n : NodesMeet m r p i j = g.closed.nodes i j (on_of (Node i j) c) in let l : i < length r.nodes = slice_get_within r.nodes i n.one n.first.at in omega arith;
    edge_below = λ x y c. let n : EdgesMeet (Contains g.overlap) r p x y = g.closed.edges x y (on_of (Edge x y) c) in let l : x < length r.edges = slice_get_within r.edges x n.one n.first.at in omega arith;
    one = same_first;
  }

  module _ (s : Partners) (f : Fills s span) where
    node_on : (i j : ℕ) → partner s.nodes i ≡ Some j → Contains g.overlap (Node i j)
    node_on i j h = on_of (Node i j) ((f.nodes i j).0 h)

    edge_on : (x y : ℕ) → partner s.edges x ≡ Some y → Contains g.overlap (Edge x y)
    edge_on x y h = on_of (Edge x y) ((f.edges x y).0 h)

    -- a pair of nodes over the context is one of the span
    node_off : (i j : ℕ) → IsInContext r (NodeAt i) → Contains g.overlap (Node i j) → partner s.nodes i ≡ Some j
    node_off i j context on =
        let n : NodesMeet m r p i j = g.closed.nodes i j on in
        (f.nodes i j).1 ((g.part (Node i j) (record { context = context; left = (n.other, n.second) })).0 on)

    taken_by : (y j : ℕ) → LeftAt p j y → MeetsDropped r (λ x. Contains g.overlap (Edge x y)) → MeetsDropped r (λ x. partner s.edges x ≡ Some y)
    taken_by y j left h = record {
      edge = h.edge;
      dropped = h.dropped;
      pair = (f.edges h.edge y).1 ((g.part (Edge h.edge y) (record { context = inl h.dropped; left = (left.edge, record { at = left.there; left = left.left }) })).0 h.pair);
    }

    edge_well : (x y : ℕ) → IsDroppedEdge r x → EdgesMeet (Contains g.overlap) r p x y → EdgesMeet (Joins s) r p x y
    edge_well x y d a = record {
      one = a.one;
      other = a.other;
      first = a.first;
      second = a.second;
      same = a.same;
      sources = node_off a.one.source a.other.source (inr (EdgeAt x, d, (a.one, a.first.at, inl refl))) a.sources;
      targets = node_off a.one.target a.other.target (inr (EdgeAt x, d, (a.one, a.first.at, inr refl))) a.targets;
    }

    slot_well : (k l : ℕ) → IsWrittenSlot r k → SlotsMeet (Contains g.overlap) r p k l → SlotsMeet (Joins s) r p k l
    slot_well k l w a = record {
      one = a.one;
      other = a.other;
      node = a.node;
      other_node = a.other_node;
      first = a.first;
      second = a.second;
      same = a.same;
      nodes = node_off a.one.node a.other.node (inr (SlotAt k, w, (a.one, a.first.at, refl))) a.nodes;
    }

    slot_back : (k l : ℕ) → SlotsMeet (Joins s) r p k l → SlotsMeet (Contains g.overlap) r p k l
    slot_back k l a = record {
      one = a.one;
      other = a.other;
      node = a.node;
      other_node = a.other_node;
      first = a.first;
      second = a.second;
      same = a.same;
      nodes = node_on a.one.node a.other.node a.nodes;
    }

    well_at : (q : Pair) → Contains span q → PairFits m r p s q
    well_at (Node i j) c = record {
      meet = g.closed.nodes i j (on_of (Node i j) c);
      second_edges = λ d y left. taken_by y j left (g.closed.second_edges i j y left.edge (on_of (Node i j) c) d (record { at = left.there; left = left.left }) left.at);
    }
    well_at (Edge x y) c = edge_well x y (context_edge r x (formed.pairs (Edge x y) c).context) (g.closed.edges x y (on_of (Edge x y) c))
    well_at (Slot k l) c = slot_well k l (context_slot r k (formed.pairs (Slot k l) c).context) ((g.closed.slots k l).0 (on_of (Slot k l) c))

    slot_held : (k l : ℕ) → IsWrittenSlot r k → SlotsMeet (Joins s) r p k l → Contains span (Slot k l)
    slot_held k l w a = (g.part (Slot k l) (record { context = inl w; left = (a.other, a.other_node, a.second) })).0 ((g.closed.slots k l).1 (slot_back k l a))

    nodes_apart : (i k j : ℕ) → partner s.nodes i ≡ Some j → partner s.nodes k ≡ Some j → i ≡ k
    nodes_apart i k j a b = let e : Node i j ≡ Node k j = g.closed.seconds_differ (Node i j) (Node k j) (node_on i j a) (node_on k j b) refl in cc

    edges_apart : (i k j : ℕ) → partner s.edges i ≡ Some j → partner s.edges k ≡ Some j → i ≡ k
    edges_apart i k j a b = let e : Edge i j ≡ Edge k j = g.closed.seconds_differ (Edge i j) (Edge k j) (edge_on i j a) (edge_on k j b) refl in cc

    pub tests_of : PassesTests m r p span s
    tests_of = record { well = well_at; nodes = nodes_apart; edges = edges_apart; slots = slot_held; first_drops = g.closed.first_drops; second_drops = g.closed.second_drops }

    pub grows_of : Completes m r p span s g.overlap
    grows_of = record { closed = g.closed; part = g.part; nodes = node_on; edges = edge_on }

pub glued_of : (m : Metamodel) (r p : Shape) (span : List Pair) (s : Partners) → CanComplete m r p span s → HasClosedOverlap m r p span
glued_of m r p span s h = let g : Completes m r p span s h.0 = h.1 in record { overlap = h.0; closed = g.closed; part = g.part }
