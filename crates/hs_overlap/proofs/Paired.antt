-- What a reason pairs.
use Rattle.std.proofs.Common.{ℕ, ◌<◌, [], arith, inl, List, Contains}
use Rattle.hs_types.specs.declared.meta.Metamodel.{Metamodel}
use Rattle.hs_types.specs.declared.rule.PatternEdge.{PatternEdge}
use Rattle.hs_types.specs.declared.rule.Shape.{Shape}
use Rattle.hs_overlap.specs.Contexts.{IsDroppedNode, IsWrittenSlot}
use Rattle.hs_overlap.specs.declared.pair.Pair.{Pair}
use Rattle.hs_overlap.specs.declared.pair.Pair.TheVariants.{Node, Edge, Slot}
use Rattle.hs_overlap.specs.LeftSide.{IsAt, IsLeftEdge}
use Rattle.hs_overlap.specs.Overlaps.{DropsItsEdges, HasClosedOverlap, MeetsDropped, NodesMeet, SlotsMeet}
use Rattle.hs_overlap.specs.Reasons.{IsReason}

pub empty_refused : (m : Metamodel) (r p : Shape) → IsReason m r p [] → ⊥
empty_refused m r p h = let held = h.deleted.held in let l : held.0 < 0 = held.1 in absurd (omega arith)

module _ (m : Metamodel) (r p : Shape) (span : List Pair) (reason : IsReason m r p span) (h : HasClosedOverlap m r p span) where
  in_overlap : (q : Pair) → Contains span q → Contains h.overlap q
  in_overlap q c = (h.part q (reason.listed.pairs q c)).1 c

  pub nodes_paired : (i j : ℕ) → Contains span (Node i j) → NodesMeet m r p i j
  nodes_paired i j c = h.closed.nodes i j (in_overlap (Node i j) c)

  pub slots_paired : (k l : ℕ) → IsWrittenSlot r k → SlotsMeet (Contains span) r p k l → Contains span (Slot k l)
  slots_paired k l written meet =
      (h.part (Slot k l) (record { context = inl written; left = (meet.other, meet.other_node, meet.second) })).0
      ((h.closed.slots k l).1 (record {
        one = meet.one;
        other = meet.other;
        node = meet.node;
        other_node = meet.other_node;
        first = meet.first;
        second = meet.second;
        same = meet.same;
        nodes = in_overlap (Node meet.one.node meet.other.node) meet.nodes;
      }))

  pub edges_paired : (i j y : ℕ) (f : PatternEdge) → Contains span (Node i j) → IsDroppedNode r i → IsLeftEdge p y f → IsAt f j → MeetsDropped r (λ x. Contains span (Edge x y))
  edges_paired i j y f c dropped left at =
      let d : MeetsDropped r (λ x. Contains h.overlap (Edge x y)) = h.closed.second_edges i j y f (in_overlap (Node i j) c) dropped left at in
      record { edge = d.edge; dropped = d.dropped; pair = (h.part (Edge d.edge y) (record { context = inl d.dropped; left = (f, left) })).0 d.pair }

  pub edges_dropped : DropsItsEdges r × DropsItsEdges p
  edges_dropped = (h.closed.first_drops, h.closed.second_drops)
