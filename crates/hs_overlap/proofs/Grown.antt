-- A front with no forced edge is closed; what a closed overlap says of a front.
use Rattle.std.proofs.Common.{ℕ, ◌<◌, ◌≡◌, ◌↔◌, List, length, refl, sym, ap, ◌∙◌, inl, inr, Contains, Option, Some, None, slice_get}
use Rattle.std.proofs.lemmas.Option.{same_Some, slice_get_within}
use Rattle.std.proofs.lemmas.Bool.{cases_eq}
use Rattle.hs_types.specs.declared.meta.Metamodel.{Metamodel}
use Rattle.hs_types.specs.declared.rule.PatternEdge.{PatternEdge}
use Rattle.hs_types.specs.declared.rule.PatternSlot.{PatternSlot}
use Rattle.hs_types.specs.declared.rule.Shape.{Shape}
use Rattle.hs_overlap.specs.declared.pair.Pair.{Pair}
use Rattle.hs_overlap.specs.declared.pair.Pair.TheVariants.{Node, Edge, Slot}
use Rattle.hs_overlap.specs.LeftSide.{IsLeftEdge, IsAt}
use Rattle.hs_overlap.specs.Contexts.{of_first, of_second, IsDroppedNode, IsDroppedEdge}
use Rattle.hs_overlap.specs.Reasons.{CanMeet}
use Rattle.hs_overlap.specs.Overlaps.{CanOccur, NodesMeet, EdgesMeet, SlotsMeet, MeetsDropped, IsClosed}
use Rattle.hs_overlap.proofs.Decided.{Decided, kinds_decided}
use Rattle.hs_overlap.proofs.LeftElements.{SlotHere, left_edge_same, slot_here}
use Rattle.hs_overlap.proofs.Pairs.{all_pairs, edge_in, node_in, slot_in, those, those_are, those_held}
use Rattle.hs_overlap.proofs.ReadOff.{closed_as}
use Rattle.hs_overlap.specs.declared.partners.Partners.{Partners}
use Rattle.hs_overlap.specs.Completions.{partner, Joins, On, IsNearlyClosed, Completes, CanComplete, IsForced, IsSubmap}

-- one number has one partner
pub one_partner : (o : Option ℕ) (j l : ℕ) → o ≡ Some j → o ≡ Some l → j ≡ l
one_partner o j l a b = same_Some j l (sym a ∙ b)

pub partner_at : (xs : List (Option ℕ)) (i k j l : ℕ) → i ≡ k → partner xs i ≡ Some j → partner xs k ≡ Some l → j ≡ l
partner_at xs i k j l e a b = one_partner (partner xs k) j l (ap (λ z. partner xs z) (sym e) ∙ a) b

module _ (m : Metamodel) (r p : Shape) (can : CanOccur m r) (can' : CanOccur m p) (span : List Pair) (s : Partners) (front : IsNearlyClosed m r p span s) where
  same_first : (a b : Pair) → On r p s a → On r p s b → of_first a ≡ of_first b → a ≡ b
  same_first (Node i j) (Node k l) a b e = let here : i ≡ k = cc in let there : j ≡ l = partner_at s.nodes i k j l here a b in cc
  same_first (Edge i j) (Edge k l) a b e = let here : i ≡ k = cc in let there : j ≡ l = partner_at s.edges i k j l here a b in cc
  same_first (Slot i j) (Slot k l) a b e =
      let here : i ≡ k = cc in
      let s' : SlotsMeet (Joins s) r p i j = a in let t : SlotsMeet (Joins s) r p k l = b in
      let one : s'.one ≡ t.one = same_Some s'.one t.one (sym s'.first.at ∙ ap (λ x. slice_get r.slots x) here ∙ t.first.at) in
      let nodes : s'.other.node ≡ t.other.node = partner_at s.nodes s'.one.node t.one.node s'.other.node t.other.node (ap (λ (x : PatternSlot). x.node) one) s'.nodes t.nodes in
      let kinds : s'.other.kind ≡ t.other.kind = sym s'.same ∙ ap (λ (x : PatternSlot). x.kind) one ∙ t.same in
      let there : j ≡ l = can'.slots j l s'.other t.other s'.other_node t.other_node s'.second t.second nodes kinds in cc
  same_first (Node i j) (Edge k l) a b e = cc
  same_first (Node i j) (Slot k l) a b e = cc
  same_first (Edge i j) (Node k l) a b e = cc
  same_first (Edge i j) (Slot k l) a b e = cc
  same_first (Slot i j) (Node k l) a b e = cc
  same_first (Slot i j) (Edge k l) a b e = cc

  same_second : (a b : Pair) → On r p s a → On r p s b → of_second a ≡ of_second b → a ≡ b
  same_second (Node i j) (Node k l) a b e = let here : j ≡ l = cc in let there : i ≡ k = front.nodes_differ i k l (rw here at a) b in cc
  same_second (Edge i j) (Edge k l) a b e = let here : j ≡ l = cc in let there : i ≡ k = front.edges_differ i k l (rw here at a) b in cc
  same_second (Slot i j) (Slot k l) a b e =
      let here : j ≡ l = cc in
      let s' : SlotsMeet (Joins s) r p i j = a in let t : SlotsMeet (Joins s) r p k l = b in
      let other : s'.other ≡ t.other = same_Some s'.other t.other (sym s'.second.at ∙ ap (λ x. slice_get p.slots x) here ∙ t.second.at) in
      let nodes : s'.one.node ≡ t.one.node = front.nodes_differ s'.one.node t.one.node t.other.node (s'.nodes ∙ ap (λ (x : PatternSlot). Some x.node) other) t.nodes in
      let kinds : s'.one.kind ≡ t.one.kind = s'.same ∙ ap (λ (x : PatternSlot). x.kind) other ∙ sym t.same in
      let there : i ≡ k = can.slots i k s'.one t.one s'.node t.node s'.first t.first nodes kinds in cc
  same_second (Node i j) (Edge k l) a b e = cc
  same_second (Node i j) (Slot k l) a b e = cc
  same_second (Edge i j) (Node k l) a b e = cc
  same_second (Edge i j) (Slot k l) a b e = cc
  same_second (Slot i j) (Node k l) a b e = cc
  same_second (Slot i j) (Edge k l) a b e = cc

  on_edges : (x y : ℕ) → On r p s (Edge x y) → EdgesMeet (On r p s) r p x y
  on_edges x y h = let a : EdgesMeet (Joins s) r p x y = front.edges x y h in
      record { one = a.one; other = a.other; first = a.first; second = a.second; same = a.same; sources = a.sources; targets = a.targets }

  on_slots : (k l : ℕ) → On r p s (Slot k l) ↔ SlotsMeet (On r p s) r p k l
  on_slots k l = (
    (λ h. let a : SlotsMeet (Joins s) r p k l = h in record { one = a.one; other = a.other; node = a.node; other_node = a.other_node; first = a.first; second = a.second; same = a.same; nodes = a.nodes }),
    (λ a. (record { one = a.one; other = a.other; node = a.node; other_node = a.other_node; first = a.first; second = a.second; same = a.same; nodes = a.nodes })),
  )

  -- the partner of an edge at a node that is paired with a dropped one is dropped
  dropped_partner : (i j x y : ℕ) (e : PatternEdge) → partner s.nodes i ≡ Some j → IsDroppedNode p j → IsLeftEdge r x e → IsAt e i → partner s.edges x ≡ Some y → IsDroppedEdge p y
  dropped_partner i j x y e on d left at h =
      let a : EdgesMeet (Joins s) r p x y = front.edges x y h in
      let one : a.one ≡ e = left_edge_same r x a.one e a.first left in
      let there : IsAt a.other j = elim at [
        | inl is ↦ inl (partner_at s.nodes a.one.source i a.other.source j (ap (λ (z : PatternEdge). z.source) one ∙ is) a.sources on)
        | inr is ↦ inr (partner_at s.nodes a.one.target i a.other.target j (ap (λ (z : PatternEdge). z.target) one ∙ is) a.targets on)
      ] in
      front.second_drops y j a.other a.second d there

  module _ (none : (x : ℕ) → IsForced r p s x → ⊥) where
    met_by : (i j x : ℕ) (e : PatternEdge) → partner s.nodes i ≡ Some j → IsDroppedNode p j → IsLeftEdge r x e → IsAt e i → (o : Option ℕ) → partner s.edges x ≡ o → MeetsDropped p (λ y. partner s.edges x ≡ Some y)
    met_by i j x e on d left at None h = absurd (none x (record { edge = e; left = left; free = h; node = i; at = at; other = j; pair = on; dropped = d }))
    met_by i j x e on d left at (Some y) h = record { edge = y; dropped = dropped_partner i j x y e on d left at h; pair = h }

    pub front_closed : IsClosed m r p (On r p s)
    front_closed = record {
      firsts_differ = same_first;
      seconds_differ = same_second;
      nodes = front.nodes;
      edges = on_edges;
      slots = on_slots;
      second_edges = front.second_edges;
      first_edges = λ i j x e on d left at. met_by i j x e on d left at (partner s.edges x) refl;
      first_drops = front.first_drops;
      second_drops = front.second_drops;
    }

-- whether a pair is on
pub partner_decided : (o : Option ℕ) (j : ℕ) → Decided (o ≡ Some j)
partner_decided None j = inr (λ e. cc)
partner_decided (Some k) j = elim (cases_eq k j) [ inl e ↦ inl (ap (λ z. Some z) e) | inr ne ↦ inr (λ e. ne (same_Some k j e)) ]

slots_with : (r p : Shape) (s : Partners) (k l : ℕ) (a : SlotHere r k) (b : SlotHere p l) → Decided (a.slot.kind ≡ b.slot.kind) → Decided (partner s.nodes a.slot.node ≡ Some b.slot.node) → Decided (SlotsMeet (Joins s) r p k l)
slots_with r p s k l a b (inl e) (inl f) = inl (record { one = a.slot; other = b.slot; node = a.node; other_node = b.node; first = a.left; second = b.left; same = e; nodes = f })
slots_with r p s k l a b (inr ne) f = inr (λ h.
    let one : h.one ≡ a.slot = same_Some h.one a.slot (sym h.first.at ∙ a.left.at) in
    let other : h.other ≡ b.slot = same_Some h.other b.slot (sym h.second.at ∙ b.left.at) in
    ne (ap (λ (x : PatternSlot). x.kind) (sym one) ∙ h.same ∙ ap (λ (x : PatternSlot). x.kind) other))
slots_with r p s k l a b (inl e) (inr ne) = inr (λ h.
    let one : h.one ≡ a.slot = same_Some h.one a.slot (sym h.first.at ∙ a.left.at) in
    let other : h.other ≡ b.slot = same_Some h.other b.slot (sym h.second.at ∙ b.left.at) in
    ne (ap (λ (x : PatternSlot). partner s.nodes x.node) (sym one) ∙ h.nodes ∙ ap (λ (x : PatternSlot). Some x.node) other))

slots_by : (r p : Shape) (s : Partners) (k l : ℕ) → Decided (SlotHere r k) → Decided (SlotHere p l) → Decided (SlotsMeet (Joins s) r p k l)
slots_by r p s k l (inr none) b = inr (λ h. none (record { slot = h.one; node = h.node; left = h.first }))
slots_by r p s k l (inl a) (inr none) = inr (λ h. none (record { slot = h.other; node = h.other_node; left = h.second }))
slots_by r p s k l (inl a) (inl b) = slots_with r p s k l a b (kinds_decided a.slot.kind b.slot.kind) (partner_decided (partner s.nodes a.slot.node) b.slot.node)

on_decided : (r p : Shape) (s : Partners) (q : Pair) → Decided (On r p s q)
on_decided r p s (Node i j) = partner_decided (partner s.nodes i) j
on_decided r p s (Edge x y) = partner_decided (partner s.edges x) y
on_decided r p s (Slot k l) = slots_by r p s k l (slot_here r k (slice_get r.slots k) refl) (slot_here p l (slice_get p.slots l) refl)

on_within : (m : Metamodel) (r p : Shape) (span : List Pair) (s : Partners) → IsNearlyClosed m r p span s → (q : Pair) → On r p s q → Contains (all_pairs r p) q
on_within m r p span s front (Node i j) h = let a : NodesMeet m r p i j = front.nodes i j h in node_in r p i j (slice_get_within r.nodes i a.one a.first.at) (slice_get_within p.nodes j a.other a.second.at)
on_within m r p span s front (Edge i j) h = let a : EdgesMeet (Joins s) r p i j = front.edges i j h in edge_in r p i j (slice_get_within r.edges i a.one a.first.at) (slice_get_within p.edges j a.other a.second.at)
on_within m r p span s front (Slot i j) h = let a : SlotsMeet (Joins s) r p i j = h in slot_in r p i j (slice_get_within r.slots i a.one a.first.at) (slice_get_within p.slots j a.other a.second.at)

listed : (m : Metamodel) (r p : Shape) (span : List Pair) (s : Partners) → IsNearlyClosed m r p span s → (q : Pair) → On r p s q ↔ Contains (those (On r p s) (on_decided r p s) (all_pairs r p)) q
listed m r p span s front q = ((λ h. those_held (On r p s) (on_decided r p s) (all_pairs r p) q (on_within m r p span s front q h) h), (λ c. those_are (On r p s) (on_decided r p s) (all_pairs r p) q c))

on_part : (m : Metamodel) (r p : Shape) (span : List Pair) (s : Partners) → IsNearlyClosed m r p span s → (q : Pair) → CanMeet r p q → On r p s q ↔ Contains span q
on_part m r p span s front (Node i j) = front.node_part i j
on_part m r p span s front (Edge x y) = front.edge_part x y
on_part m r p span s front (Slot k l) = front.slot_part k l

-- a front with no forced edge is, with its slots, a closed overlap
pub grown : (m : Metamodel) (r p : Shape) → CanOccur m r → CanOccur m p → (span : List Pair) (s : Partners) → IsNearlyClosed m r p span s → ((x : ℕ) → IsForced r p s x → ⊥) → CanComplete m r p span s
grown m r p can can' span s front none = (
  those (On r p s) (on_decided r p s) (all_pairs r p),
  record {
    closed = closed_as m r p (On r p s) (Contains (those (On r p s) (on_decided r p s) (all_pairs r p))) (listed m r p span s front) (front_closed m r p can can' span s front none);
    part = λ q can. let a = on_part m r p span s front q can in let b = listed m r p span s front q in ((λ h. a.0 (b.1 h)), (λ h. b.0 (a.1 h)));
    nodes = λ i j h. (listed m r p span s front (Node i j)).0 h;
    edges = λ x y h. (listed m r p span s front (Edge x y)).0 h;
  },
)

-- a closed overlap pairs each forced edge
pub record HasPartner (p : Shape) (overlap : List Pair) (x : ℕ) : Type 0 where
  pub edge : ℕ
  pub below : edge < length p.edges
  pub held : Contains overlap (Edge x edge)

pub forced_partner : (m : Metamodel) (r p : Shape) (span : List Pair) (s : Partners) (overlap : List Pair) (x : ℕ) → Completes m r p span s overlap → IsForced r p s x → HasPartner p overlap x
forced_partner m r p span s overlap x g f =
    let h : MeetsDropped p (λ y. Contains overlap (Edge x y)) = g.closed.first_edges f.node f.other x f.edge (g.nodes f.node f.other f.pair) f.dropped f.left f.at in
    record { edge = h.edge; below = slice_get_within p.edges h.edge h.dropped.edge h.dropped.left.at; held = h.pair }

-- what grows from more grows from less
pub grows_less : (m : Metamodel) (r p : Shape) (span : List Pair) (s t : Partners) (overlap : List Pair) → IsSubmap s t → Completes m r p span t overlap → Completes m r p span s overlap
grows_less m r p span s t overlap w g = record { closed = g.closed; part = g.part; nodes = λ i j h. g.nodes i j (w.nodes i j h); edges = λ x y h. g.edges x y (w.edges x y h) }
