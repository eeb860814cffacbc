-- From a closed overlap to two matches that meet in its part.
use Rattle.std.proofs.Common.{ℕ, ◌+◌, ◌<◌, ◌≡◌, ◌↔◌, List, length, refl, sym, ◌∙◌, inl, inr, arith, Contains}
use Rattle.std.proofs.lemmas.Option.{same_Some, slice_get_within}
use Rattle.hs_types.specs.declared.rule.PatternNode.{PatternNode}
use Rattle.hs_types.specs.declared.rule.PatternEdge.{PatternEdge}
use Rattle.hs_types.specs.declared.rule.Shape.{Shape}
use Rattle.hs_types.specs.declared.graph.Graph.{Graph}
use Rattle.hs_types.specs.declared.meta.Metamodel.{Metamodel}
use Rattle.hs_types.specs.TypedGraph.{IsTyped}
use Rattle.hs_overlap.specs.LeftSide.{IsGraph, IsLeftNode, IsLeftEdge, IsLeftSlot, IsAt}
use Rattle.hs_types.specs.Elements.{Slot as SlotAt}
use Rattle.hs_overlap.specs.Contexts.{IsWrittenSlot, IsLeft}
use Rattle.hs_overlap.specs.declared.pair.Pair.{Pair}
use Rattle.hs_overlap.specs.declared.pair.Pair.TheVariants.{Node, Edge, Slot}
use Rattle.hs_overlap.specs.Maps.{Map}
use Rattle.hs_overlap.specs.Reasons.{CanMeet, SlotsCoincide, Coincide, MeetExactly}
use Rattle.hs_types.specs.Metamodel.{HaveCommon, IsMeta}
use Rattle.hs_overlap.specs.Overlaps.{HasFittingEnds, CanOccur, NodesMeet, EdgesMeet, SlotsMeet, MeetsDropped, IsClosed}
use Rattle.hs_overlap.proofs.Build.{Inherits, graph_glued, graph_of, graph_typed}
use Rattle.hs_overlap.proofs.Decided.{Decided}
use Rattle.hs_overlap.proofs.LeftElements.{context_edge, context_left, context_slot, left_edge_same, left_node_same, moved_node, left_node_same, left_edge_same}
use Rattle.hs_overlap.proofs.Joined.{Agree, IsGluing, IsLaid, TakesAlong, glued_match, glued_no_dangling, turned}
use Rattle.hs_overlap.proofs.Places.{IsPairing, paired_place, place, place_below, place_differ, place_paired}

-- the ends alone
pub plain_form : (meta : Metamodel) (s : Shape) → CanOccur meta s → IsGraph s
plain_form meta s formed x e left = let ends : HasFittingEnds meta s e = formed.edges x e left in record { source = ends.source; target = ends.target; begins = ends.begins; ends = ends.ends }

end_here : (meta : Metamodel) (s : Shape) → CanOccur meta s → (x i : ℕ) (e : PatternEdge) → IsLeftEdge s x e → IsAt e i → (v : PatternNode) × IsLeftNode s i v
end_here meta s formed x i e left at =
    let ends : HasFittingEnds meta s e = formed.edges x e left in
    elim at [
      | inl is ↦ (ends.source, moved_node s e.source i ends.source ends.begins is)
      | inr is ↦ (ends.target, moved_node s e.target i ends.target ends.ends is)
    ]

module _ (meta : Metamodel) (is_meta : IsMeta meta) (inherits : Inherits meta) (r p : Shape) (formed : CanOccur meta r) (formed' : CanOccur meta p) (On : Pair → Type 0) (decide : (q : Pair) → Decided (On q)) (closed : IsClosed meta r p On) where
  NodeOn : ℕ → ℕ → Type 0
  NodeOn i j = On (Node i j)

  EdgeOn : ℕ → ℕ → Type 0
  EdgeOn x y = On (Edge x y)

  node_decide : (i j : ℕ) → Decided (NodeOn i j)
  unfolding NodeOn
  node_decide i j = decide (Node i j)

  edge_decide : (x y : ℕ) → Decided (EdgeOn x y)
  unfolding EdgeOn
  edge_decide x y = decide (Edge x y)

  -- the first shape keeps its numbers
  stay : Map
  stay = record { node = λ i. i; edge = λ x. x }

  -- the second one's elements lie on their partners or stand behind
  move : Map
  move = record { node = place (length r.nodes) NodeOn node_decide; edge = place (length r.edges) EdgeOn edge_decide }

  node_pairs : IsPairing (length r.nodes) NodeOn
  unfolding NodeOn
  node_pairs = record {
    below = λ i j h. let m : NodesMeet meta r p i j = closed.nodes i j h in slice_get_within r.nodes i m.one m.first.at;
    first = λ i j k a b. let e : Node i j ≡ Node i k = closed.firsts_differ (Node i j) (Node i k) a b refl in cc;
    second = λ i k j a b. let e : Node i j ≡ Node k j = closed.seconds_differ (Node i j) (Node k j) a b refl in cc;
  }

  edge_pairs : IsPairing (length r.edges) EdgeOn
  unfolding EdgeOn
  edge_pairs = record {
    below = λ x y h. let m : EdgesMeet On r p x y = closed.edges x y h in slice_get_within r.edges x m.one m.first.at;
    first = λ i j k a b. let e : Edge i j ≡ Edge i k = closed.firsts_differ (Edge i j) (Edge i k) a b refl in cc;
    second = λ i k j a b. let e : Edge i j ≡ Edge k j = closed.seconds_differ (Edge i j) (Edge k j) a b refl in cc;
  }

  nodes_meet : (i j : ℕ) → i < length r.nodes → stay.node i ≡ move.node j → On (Node i j)
  unfolding stay move NodeOn
  nodes_meet i j l e = paired_place (length r.nodes) NodeOn node_decide node_pairs i j l e

  edges_meet : (x y : ℕ) → x < length r.edges → stay.edge x ≡ move.edge y → On (Edge x y)
  unfolding stay move EdgeOn
  edges_meet x y l e = paired_place (length r.edges) EdgeOn edge_decide edge_pairs x y l e

  nodes_lie : (i j : ℕ) → On (Node i j) → stay.node i ≡ move.node j
  unfolding stay move NodeOn
  nodes_lie i j h = sym (place_paired (length r.nodes) NodeOn node_decide node_pairs i j h)

  edges_lie : (x y : ℕ) → On (Edge x y) → stay.edge x ≡ move.edge y
  unfolding stay move EdgeOn
  edges_lie x y h = sym (place_paired (length r.edges) EdgeOn edge_decide edge_pairs x y h)

  objects : ℕ
  objects = length r.nodes + length p.nodes

  links : ℕ
  links = length r.edges + length p.edges

  node_below : (s : Shape) (i : ℕ) (v : PatternNode) → IsLeftNode s i v → i < length s.nodes
  node_below s i v left = slice_get_within s.nodes i v left.at

  edge_below : (s : Shape) (i : ℕ) (v : PatternEdge) → IsLeftEdge s i v → i < length s.edges
  edge_below s i v left = slice_get_within s.edges i v left.at

  stay_laid : IsLaid r stay objects links
  unfolding stay objects links
  stay_laid = record {
    nodes = λ i j v w a b e. e;
    edges = λ x y e f a b s. s;
    objects_below = λ i v a. let l = node_below r i v a in omega arith;
    links_below = λ x e a. let l = edge_below r x e a in omega arith;
  }

  move_laid : IsLaid p move objects links
  unfolding move objects links
  move_laid = record {
    nodes = λ i j v w a b e. place_differ (length r.nodes) NodeOn node_decide node_pairs i j e;
    edges = λ x y e f a b s. place_differ (length r.edges) EdgeOn edge_decide edge_pairs x y s;
    objects_below = λ i v a. place_below (length r.nodes) NodeOn node_decide node_pairs i (length p.nodes) (node_below p i v a);
    links_below = λ x e a. place_below (length r.edges) EdgeOn edge_decide edge_pairs x (length p.edges) (edge_below p x e a);
  }

  common_at : (i j : ℕ) (v w : PatternNode) → IsLeftNode r i v → IsLeftNode p j w → stay.node i ≡ move.node j → HaveCommon meta v.class w.class
  common_at i j v w a b e =
      let m : NodesMeet meta r p i j = closed.nodes i j (nodes_meet i j (node_below r i v a) e) in
      let one : m.one ≡ v = left_node_same r i m.one v m.first a in
      let other : m.other ≡ w = left_node_same p j m.other w m.second b in
      rw (one, other) at m.common

  -- the edges that meet, at the edges that are known
  record Met (e f : PatternEdge) : Type 0 where
    same : e.reference ≡ f.reference
    sources : On (Node e.source f.source)
    targets : On (Node e.target f.target)

  met : (x y : ℕ) (e f : PatternEdge) → IsLeftEdge r x e → IsLeftEdge p y f → stay.edge x ≡ move.edge y → Met e f
  met x y e f a b s =
      let m : EdgesMeet On r p x y = closed.edges x y (edges_meet x y (edge_below r x e a) s) in
      let one : m.one ≡ e = left_edge_same r x m.one e m.first a in
      let other : m.other ≡ f = left_edge_same p y m.other f m.second b in
      record { same = rw (one, other) at m.same; sources = rw (one, other) at m.sources; targets = rw (one, other) at m.targets }

  agree : Agree meta r stay p move
  agree = record {
    nodes = common_at;
    references = λ x y e f a b s. (met x y e f a b s).same;
    sources = λ x y e f a b s. nodes_lie e.source f.source (met x y e f a b s).sources;
    targets = λ x y e f a b s. nodes_lie e.target f.target (met x y e f a b s).targets;
  }

  -- dangling edges, one way and the other
  first_takes : TakesAlong r stay p move
  first_takes i j v left d y f g at e =
      let h : MeetsDropped r (λ x. On (Edge x y)) = closed.second_edges i j y f (nodes_meet i j (node_below r i v left) (sym e)) (record { node = v; left = left; dropped = d }) g at in
      record { edge = h.edge; what = h.dropped.edge; left = h.dropped.left; dropped = h.dropped.dropped; image = edges_lie h.edge y h.pair }

  second_takes : TakesAlong p move r stay
  second_takes j i w left d x f g at e =
      let here : (v : PatternNode) × IsLeftNode r i v = end_here meta r formed x i f g at in
      let h : MeetsDropped p (λ y. On (Edge x y)) = closed.first_edges i j x f (nodes_meet i j (node_below r i here.0 here.1) e) (record { node = w; left = left; dropped = d }) g at in
      record { edge = h.edge; what = h.dropped.edge; left = h.dropped.left; dropped = h.dropped.dropped; image = sym (edges_lie x h.edge h.pair) }

  the_graph : Graph
  the_graph = graph_of meta r stay p move is_meta inherits objects links formed formed' stay_laid move_laid agree

  glued : IsGluing meta the_graph r stay p move
  unfolding the_graph
  glued = graph_glued meta r stay p move is_meta inherits objects links formed formed' stay_laid move_laid agree

  typed : IsTyped meta the_graph
  unfolding the_graph
  typed = graph_typed meta r stay p move is_meta inherits objects links formed formed' stay_laid move_laid agree

  slots_lie : (k l : ℕ) → On (Slot k l) → SlotsCoincide r p stay move k l
  slots_lie k l h =
      let m : SlotsMeet On r p k l = (closed.slots k l).0 h in
      record { one = m.one; other = m.other; first = m.first.at; second = m.second.at; node = nodes_lie m.one.node m.other.node m.nodes; kind = m.same }

  slots_meet : (k l : ℕ) → IsWrittenSlot r k → IsLeft p (SlotAt l) → SlotsCoincide r p stay move k l → On (Slot k l)
  slots_meet k l c left h =
      let one : c.slot ≡ h.one = same_Some c.slot h.one (sym c.left.at ∙ h.first) in
      let other : left.0 ≡ h.other = same_Some left.0 h.other (sym left.2.at ∙ h.second) in
      let first : IsLeftSlot r k h.one c.node = rw one at c.left in
      let second : IsLeftSlot p l h.other left.1 = rw other at left.2 in
      (closed.slots k l).1 (record {
        one = h.one;
        other = h.other;
        node = c.node;
        other_node = left.1;
        first = first;
        second = second;
        same = h.kind;
        nodes = nodes_meet h.one.node h.other.node (node_below r h.one.node c.node first.node) h.node;
      })

  -- the two matches meet where the overlap has a pair
  meet_exactly : (q : Pair) → CanMeet r p q → Coincide r p stay move q ↔ On q
  meet_exactly (Node i j) can = let here = context_left r (plain_form meta r formed) i can.context in (nodes_meet i j (node_below r i here.0 here.1), nodes_lie i j)
  meet_exactly (Edge x y) can = let here = context_edge r x can.context in (edges_meet x y (edge_below r x here.edge here.left), edges_lie x y)
  meet_exactly (Slot k l) can = let here = context_slot r k can.context in (slots_meet k l here can.left, slots_lie k l)

  pub matched_from_closed : (span : List Pair) → ((q : Pair) → CanMeet r p q → On q ↔ Contains span q) → MeetExactly meta r p span
  matched_from_closed span part = record {
    graph = the_graph;
    one = stay;
    other = move;
    typed = typed;
    first = glued_match meta the_graph r stay p move objects links glued stay_laid;
    second = glued_match meta the_graph p move r stay objects links (turned meta the_graph r stay p move glued) move_laid;
    first_clean = glued_no_dangling meta the_graph r stay p move objects links glued formed stay_laid closed.first_drops first_takes;
    second_clean = glued_no_dangling meta the_graph p move r stay objects links (turned meta the_graph r stay p move glued) formed' move_laid closed.second_drops second_takes;
    exact = λ q can. let a = meet_exactly q can in let b = part q can in ((λ h. b.0 (a.0 h)), (λ h. a.1 (b.1 h)));
  }
