-- Reasons are spans.
use Rattle.std.proofs.Common.{ℕ, ◌≡◌, ◌↔◌, List, refl, sym, ap, ◌∙◌, inl, inr, Contains}
use Rattle.std.proofs.lemmas.Option.{same_Some}
use Rattle.hs_types.specs.declared.rule.PatternEdge.{PatternEdge}
use Rattle.hs_types.specs.declared.rule.PatternSlot.{PatternSlot}
use Rattle.hs_types.specs.declared.rule.Shape.{Shape}
use Rattle.hs_types.specs.declared.meta.Metamodel.{Metamodel}
use Rattle.hs_types.specs.Elements.{Element, Node as NodeAt, Edge as EdgeAt, Slot as SlotAt}
use Rattle.hs_overlap.specs.Contexts.{of_first, IsDroppedEdge, IsDeleted, Needs}
use Rattle.hs_overlap.specs.declared.pair.Pair.{Pair}
use Rattle.hs_overlap.specs.declared.pair.Pair.TheVariants.{Node, Edge, Slot}
use Rattle.hs_overlap.specs.Reasons.{CanMeet, HasFirst, IsListed, IsReason, IsSpan}
use Rattle.hs_overlap.specs.Overlaps.{EdgesMeet, HasClosedOverlap, IsClosed, NodesMeet, SlotsMeet}
use Rattle.hs_overlap.proofs.LeftElements.{context_edge, context_slot}

module _ (meta : Metamodel) (r p : Shape) (span : List Pair) (spans : IsListed r p span) (o : List Pair) (closed : IsClosed meta r p (Contains o)) (part : (q : Pair) → CanMeet r p q → Contains o q ↔ Contains span q) where
  held : (q : Pair) → Contains span q → Contains o q
  held q h = (part q (spans.pairs q h)).1 h

  -- the node that a deleted element needs is paired in the span
  node_held : (d : Element) (i j : ℕ) → IsDeleted r d → Needs r d (NodeAt i) → Contains o (Node i j) → HasFirst span (NodeAt i)
  node_held d i j deleted needs h =
      let m : NodesMeet meta r p i j = closed.nodes i j h in
      record { pair = Node i j; held = (part (Node i j) (record { context = inr (d, deleted, needs); left = (m.other, m.second) })).0 h; first = refl }

  needed_held : (q : Pair) (d : Element) → Contains span q → Needs r (of_first q) d → HasFirst span d
  needed_held (Edge x y) (NodeAt i) h needs =
      let m : EdgesMeet (Contains o) r p x y = closed.edges x y (held (Edge x y) h) in
      let same : m.one ≡ needs.0 = same_Some m.one needs.0 (sym m.first.at ∙ needs.1) in
      let can : CanMeet r p (Edge x y) = spans.pairs (Edge x y) h in
      let gone : IsDroppedEdge r x = context_edge r x can.context in
      elim needs.2 [
        | inl e ↦ node_held (EdgeAt x) i m.other.source gone needs (let a : m.one.source ≡ i = ap (λ (x : PatternEdge). x.source) same ∙ e in moved m.one.source i m.other.source a m.sources)
        | inr e ↦ node_held (EdgeAt x) i m.other.target gone needs (let a : m.one.target ≡ i = ap (λ (x : PatternEdge). x.target) same ∙ e in moved m.one.target i m.other.target a m.targets)
      ]
    where
      moved : (a b j : ℕ) → a ≡ b → Contains o (Node a j) → Contains o (Node b j)
      moved a b j e h = rw e at h
  needed_held (Slot k l) (NodeAt i) h needs =
      let m : SlotsMeet (Contains o) r p k l = (closed.slots k l).0 (held (Slot k l) h) in
      let same : m.one ≡ needs.0 = same_Some m.one needs.0 (sym m.first.at ∙ needs.1) in
      let can : CanMeet r p (Slot k l) = spans.pairs (Slot k l) h in
      node_held (SlotAt k) i m.other.node (context_slot r k can.context) needs (let a : m.one.node ≡ i = ap (λ (x : PatternSlot). x.node) same ∙ needs.2 in moved m.one.node i m.other.node a m.nodes)
    where
      moved : (a b j : ℕ) → a ≡ b → Contains o (Node a j) → Contains o (Node b j)
      moved a b j e h = rw e at h
  needed_held (Node k l) d h needs = absurd (none d needs)
    where
      none : (d : Element) → Needs r (NodeAt k) d → ⊥
      none (NodeAt i) h = h
      none (EdgeAt i) h = h
      none (SlotAt i) h = h
  needed_held (Edge k l) (EdgeAt i) h needs = absurd needs
  needed_held (Edge k l) (SlotAt i) h needs = absurd needs
  needed_held (Slot k l) (EdgeAt i) h needs = absurd needs
  needed_held (Slot k l) (SlotAt i) h needs = absurd needs

  pub subgraph : IsSpan r span
  subgraph = record {
    firsts_differ = λ a b h k. closed.firsts_differ a b (held a h) (held b k);
    seconds_differ = λ a b h k. closed.seconds_differ a b (held a h) (held b k);
    needed = needed_held;
  }

-- A reason is a span.
pub reason_spans : (meta : Metamodel) (r p : Shape) (span : List Pair) → IsReason meta r p span → HasClosedOverlap meta r p span → IsSpan r span
reason_spans meta r p span h g = subgraph meta r p span h.listed g.overlap g.closed g.part
