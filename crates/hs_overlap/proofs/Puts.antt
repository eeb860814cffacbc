-- One pair more.
use Rattle.std.proofs.Common.{ℕ, suc, zero, ◌<◌, ◌≡◌, ◌⊎◌, ◌↔◌, List, [], ◌∷◌, length, refl, sym, ap, ◌∙◌, subst, inl, inr, arith, Contains, Option, Some, None, slice_get}
use Rattle.std.proofs.lemmas.Bool.{cases_eq}
use Rattle.hs_types.specs.declared.meta.Metamodel.{Metamodel}
use Rattle.hs_types.specs.declared.rule.PatternSlot.{PatternSlot}
use Rattle.hs_types.specs.declared.rule.Shape.{Shape}
use Rattle.hs_overlap.specs.declared.pair.Pair.{Pair}
use Rattle.hs_overlap.specs.declared.pair.Pair.TheVariants.{Node, Edge, Slot}
use Rattle.hs_types.specs.Elements.{Node as NodeAt, Slot as SlotAt}
use Rattle.hs_overlap.specs.Contexts.{IsDroppedEdge, IsWrittenSlot, IsInContext}
use Rattle.hs_overlap.specs.Reasons.{CanMeet}
use Rattle.hs_overlap.specs.Overlaps.{NodesMeet, EdgesMeet, SlotsMeet, MeetsDropped}
use Rattle.hs_overlap.proofs.LeftElements.{context_edge, context_slot}
use Rattle.hs_overlap.proofs.Grown.{one_partner}
use Rattle.hs_overlap.specs.declared.partners.Partners.{Partners}
use Rattle.hs_overlap.specs.Completions.{partner, put, Joins, PartnersDiffer, IsNearlyClosed, Completes, IsSubmap}

-- what is put is found, and what was there stays
pub put_here : (xs : List (Option ℕ)) (i : ℕ) (v : Option ℕ) → i < length xs → partner (put xs i v) i ≡ v
put_here [] i v l = absurd (omega arith)
put_here (x ∷ xs) zero v l = refl
put_here (x ∷ xs) (suc i) v l = put_here xs i v (omega arith)

pub put_other : (xs : List (Option ℕ)) (i k : ℕ) (v : Option ℕ) → ((k ≡ i) → ⊥) → partner (put xs i v) k ≡ partner xs k
put_other [] i k v ne = refl
put_other (x ∷ xs) zero zero v ne = absurd (ne refl)
put_other (x ∷ xs) zero (suc k) v ne = refl
put_other (x ∷ xs) (suc i) zero v ne = refl
put_other (x ∷ xs) (suc i) (suc k) v ne = put_other xs i k v (λ e. ne (ap suc e))

pub put_length : (xs : List (Option ℕ)) (i : ℕ) (v : Option ℕ) → length (put xs i v) ≡ length xs
put_length [] i v = refl
put_length (x ∷ xs) zero v = refl
put_length (x ∷ xs) (suc i) v = ap suc (put_length xs i v)

-- a pair after a put: the new one, or an old one of another number
pub put_cases : (xs : List (Option ℕ)) (i j k l : ℕ) → i < length xs → partner (put xs i (Some j)) k ≡ Some l → ((k ≡ i) × (l ≡ j)) ⊎ (partner xs k ≡ Some l)
put_cases xs i j k l b h = elim (cases_eq k i) [
  | inl e ↦ inl (e, one_partner (partner (put xs i (Some j)) i) l j (ap (λ z. partner (put xs i (Some j)) z) (sym e) ∙ h) (put_here xs i (Some j) b))
  | inr ne ↦ inr (sym (put_other xs i k (Some j) ne) ∙ h)
]

pub put_keeps : (xs : List (Option ℕ)) (i k l : ℕ) (v : Option ℕ) → partner xs i ≡ None → partner xs k ≡ Some l → partner (put xs i v) k ≡ Some l
put_keeps xs i k l v free h = put_other xs i k v (λ e. let there : partner xs k ≡ None = ap (λ z. partner xs z) e ∙ free in cc) ∙ h

pub put_differ : (xs : List (Option ℕ)) (i j : ℕ) → i < length xs → PartnersDiffer xs → ((k : ℕ) → partner xs k ≡ Some j → ⊥) → PartnersDiffer (put xs i (Some j))
put_differ xs i j b d none a k l x y = elim (put_cases xs i j a l b x) [
  | inl new ↦ elim (put_cases xs i j k l b y) [
    | inl new' ↦ new.0 ∙ sym new'.0
    | inr old ↦ absurd (none k (old ∙ ap (λ z. Some z) new.1))
  ]
  | inr old ↦ elim (put_cases xs i j k l b y) [
    | inl new' ↦ absurd (none a (old ∙ ap (λ z. Some z) new'.1))
    | inr old' ↦ d a k l old old'
  ]
]

abbrev pub with_node : Partners → ℕ → ℕ → Partners
with_node s i j = record { nodes = put s.nodes i (Some j); edges = s.edges }

abbrev pub with_edge : Partners → ℕ → ℕ → Partners
with_edge s x y = record { nodes = s.nodes; edges = put s.edges x (Some y) }

edges_as : (r p : Shape) (s t : Partners) (x y : ℕ) → ((i j : ℕ) → partner s.nodes i ≡ Some j → partner t.nodes i ≡ Some j) → EdgesMeet (Joins s) r p x y → EdgesMeet (Joins t) r p x y
edges_as r p s t x y w a = record { one = a.one; other = a.other; first = a.first; second = a.second; same = a.same; sources = w a.one.source a.other.source a.sources; targets = w a.one.target a.other.target a.targets }

slots_as : (r p : Shape) (s t : Partners) (x y : ℕ) → ((i j : ℕ) → partner s.nodes i ≡ Some j → partner t.nodes i ≡ Some j) → SlotsMeet (Joins s) r p x y → SlotsMeet (Joins t) r p x y
slots_as r p s t x y w a = record { one = a.one; other = a.other; node = a.node; other_node = a.other_node; first = a.first; second = a.second; same = a.same; nodes = w a.one.node a.other.node a.nodes }

-- a written slot's node is in the context
slot_context : (r : Shape) (k : ℕ) → IsWrittenSlot r k → (t : PatternSlot) → slice_get r.slots k ≡ Some t → IsInContext r (NodeAt t.node)
slot_context r k w t at = inr (SlotAt k, w, (t, at, refl))

module _ (m : Metamodel) (r p : Shape) (span : List Pair) (s : Partners) (front : IsNearlyClosed m r p span s) where
  module _ (i j : ℕ) (free : partner s.nodes i ≡ None) (below : i < length s.nodes) where
    node_keeps : (a b : ℕ) → partner s.nodes a ≡ Some b → partner (put s.nodes i (Some j)) a ≡ Some b
    node_keeps a b h = put_keeps s.nodes i a b (Some j) free h

    pub node_within : IsSubmap s (with_node s i j)
    node_within = record { nodes = node_keeps; edges = λ x y h. h }

    module _ (out : IsInContext r (NodeAt i) → ⊥) (alone : (k : ℕ) → partner s.nodes k ≡ Some j → ⊥) (meet : NodesMeet m r p i j) where
      node_part : (a b : ℕ) → CanMeet r p (Node a b) → (partner (put s.nodes i (Some j)) a ≡ Some b) ↔ Contains span (Node a b)
      node_part a b can = (
        (λ h. elim (put_cases s.nodes i j a b below h) [
          | inl new ↦ absurd (out (subst (λ z. IsInContext r (NodeAt z)) new.0 can.context))
          | inr old ↦ (front.node_part a b can).0 old
        ]),
        (λ c. node_keeps a b ((front.node_part a b can).1 c)),
      )

      slot_part : (k l : ℕ) → CanMeet r p (Slot k l) → SlotsMeet (Joins (with_node s i j)) r p k l ↔ Contains span (Slot k l)
      slot_part k l can = (
        (λ a. elim (put_cases s.nodes i j a.one.node a.other.node below a.nodes) [
          | inl new ↦ absurd (out (subst (λ z. IsInContext r (NodeAt z)) new.0 (slot_context r k (context_slot r k can.context) a.one a.first.at)))
          | inr old ↦ (front.slot_part k l can).0 (record { one = a.one; other = a.other; node = a.node; other_node = a.other_node; first = a.first; second = a.second; same = a.same; nodes = old })
        ]),
        (λ c. slots_as r p s (with_node s i j) k l node_keeps ((front.slot_part k l can).1 c)),
      )

      pub node_front : IsNearlyClosed m r p span (with_node s i j)
      node_front = record {
        nodes = λ a b h. elim (put_cases s.nodes i j a b below h) [
          | inl new ↦ subst (λ z. NodesMeet m r p z b) (sym new.0) (subst (λ z. NodesMeet m r p i z) (sym new.1) meet)
          | inr old ↦ front.nodes a b old
        ];
        edges = λ x y h. edges_as r p s (with_node s i j) x y node_keeps (front.edges x y h);
        nodes_differ = put_differ s.nodes i j below front.nodes_differ alone;
        edges_differ = front.edges_differ;
        second_edges = λ a b y f h d left at. elim (put_cases s.nodes i j a b below h) [
          | inl new ↦ absurd (out (subst (λ z. IsInContext r (NodeAt z)) new.0 (inl d)))
          | inr old ↦ front.second_edges a b y f old d left at
        ];
        node_part = node_part;
        edge_part = front.edge_part;
        slot_part = slot_part;
        first_drops = front.first_drops;
        second_drops = front.second_drops;
      }

  module _ (x y : ℕ) (free : partner s.edges x ≡ None) (below : x < length s.edges) where
    edge_keeps : (a b : ℕ) → partner s.edges a ≡ Some b → partner (put s.edges x (Some y)) a ≡ Some b
    edge_keeps a b h = put_keeps s.edges x a b (Some y) free h

    pub edge_within : IsSubmap s (with_edge s x y)
    edge_within = record { nodes = λ i j h. h; edges = edge_keeps }

    module _ (kept : IsDroppedEdge r x → ⊥) (alone : (k : ℕ) → partner s.edges k ≡ Some y → ⊥) (meet : EdgesMeet (Joins s) r p x y) where
      stays : (i j : ℕ) → partner s.nodes i ≡ Some j → partner s.nodes i ≡ Some j
      stays i j h = h

      edge_part : (a b : ℕ) → CanMeet r p (Edge a b) → (partner (put s.edges x (Some y)) a ≡ Some b) ↔ Contains span (Edge a b)
      edge_part a b can = (
        (λ h. elim (put_cases s.edges x y a b below h) [
          | inl new ↦ absurd (kept (subst (λ z. IsDroppedEdge r z) new.0 (context_edge r a can.context)))
          | inr old ↦ (front.edge_part a b can).0 old
        ]),
        (λ c. edge_keeps a b ((front.edge_part a b can).1 c)),
      )

      pub edge_front : IsNearlyClosed m r p span (with_edge s x y)
      edge_front = record {
        nodes = front.nodes;
        edges = λ a b h. elim (put_cases s.edges x y a b below h) [
          | inl new ↦ subst (λ z. EdgesMeet (Joins (with_edge s x y)) r p z b) (sym new.0) (subst (λ z. EdgesMeet (Joins (with_edge s x y)) r p x z) (sym new.1) (edges_as r p s (with_edge s x y) x y stays meet))
          | inr old ↦ edges_as r p s (with_edge s x y) a b stays (front.edges a b old)
        ];
        nodes_differ = front.nodes_differ;
        edges_differ = put_differ s.edges x y below front.edges_differ alone;
        second_edges = λ i j b f h d left at. let a : MeetsDropped r (λ x. partner s.edges x ≡ Some b) = front.second_edges i j b f h d left at in
            record { edge = a.edge; dropped = a.dropped; pair = edge_keeps a.edge b a.pair };
        node_part = front.node_part;
        edge_part = edge_part;
        slot_part = λ k l can. (
          (λ a. (front.slot_part k l can).0 (record { one = a.one; other = a.other; node = a.node; other_node = a.other_node; first = a.first; second = a.second; same = a.same; nodes = a.nodes })),
          (λ c. slots_as r p s (with_edge s x y) k l stays ((front.slot_part k l can).1 c)),
        );
        first_drops = front.first_drops;
        second_drops = front.second_drops;
      }

  -- the other way: what a closed overlap says of a pair that it has
  module _ (overlap : List Pair) (g : Completes m r p span s overlap) where
    pub node_grows : (i j : ℕ) → i < length s.nodes → Contains overlap (Node i j) → Completes m r p span (with_node s i j) overlap
    node_grows i j below has = record {
      closed = g.closed;
      part = g.part;
      nodes = λ a b h. elim (put_cases s.nodes i j a b below h) [
        | inl new ↦ subst (λ z. Contains overlap (Node z b)) (sym new.0) (subst (λ z. Contains overlap (Node i z)) (sym new.1) has)
        | inr old ↦ g.nodes a b old
      ];
      edges = g.edges;
    }

    pub edge_grows : (x y : ℕ) → x < length s.edges → Contains overlap (Edge x y) → Completes m r p span (with_edge s x y) overlap
    edge_grows x y below has = record {
      closed = g.closed;
      part = g.part;
      nodes = g.nodes;
      edges = λ a b h. elim (put_cases s.edges x y a b below h) [
        | inl new ↦ subst (λ z. Contains overlap (Edge z b)) (sym new.0) (subst (λ z. Contains overlap (Edge x z)) (sym new.1) has)
        | inr old ↦ g.edges a b old
      ];
    }

    -- a free node that the overlap pairs is outside the context
    pub node_out : (i j : ℕ) → partner s.nodes i ≡ None → Contains overlap (Node i j) → IsInContext r (NodeAt i) → ⊥
    node_out i j free has context =
        let n : NodesMeet m r p i j = g.closed.nodes i j has in
        let can : CanMeet r p (Node i j) = record { context = context; left = (n.other, n.second) } in
        let h : partner s.nodes i ≡ Some j = (front.node_part i j can).1 ((g.part (Node i j) can).0 has) in
        let both : None ≡ Some j = sym free ∙ h in cc

    pub node_alone : (i j : ℕ) → partner s.nodes i ≡ None → Contains overlap (Node i j) → (k : ℕ) → partner s.nodes k ≡ Some j → ⊥
    node_alone i j free has k h =
        let e : Node k j ≡ Node i j = g.closed.seconds_differ (Node k j) (Node i j) (g.nodes k j h) has refl in
        let same : k ≡ i = cc in
        let both : None ≡ Some j = sym free ∙ ap (λ z. partner s.nodes z) (sym same) ∙ h in cc

    pub node_same : (i j k : ℕ) → partner s.nodes i ≡ Some k → Contains overlap (Node i j) → k ≡ j
    node_same i j k h has = let e : Node i k ≡ Node i j = g.closed.firsts_differ (Node i k) (Node i j) (g.nodes i k h) has refl in cc

    pub edge_kept : (x y : ℕ) → partner s.edges x ≡ None → Contains overlap (Edge x y) → IsDroppedEdge r x → ⊥
    edge_kept x y free has dropped =
        let n : EdgesMeet (Contains overlap) r p x y = g.closed.edges x y has in
        let can : CanMeet r p (Edge x y) = record { context = inl dropped; left = (n.other, n.second) } in
        let h : partner s.edges x ≡ Some y = (front.edge_part x y can).1 ((g.part (Edge x y) can).0 has) in
        let both : None ≡ Some y = sym free ∙ h in cc

    pub edge_alone : (x y : ℕ) → partner s.edges x ≡ None → Contains overlap (Edge x y) → (k : ℕ) → partner s.edges k ≡ Some y → ⊥
    edge_alone x y free has k h =
        let e : Edge k y ≡ Edge x y = g.closed.seconds_differ (Edge k y) (Edge x y) (g.edges k y h) has refl in
        let same : k ≡ x = cc in
        let both : None ≡ Some y = sym free ∙ ap (λ z. partner s.edges z) (sym same) ∙ h in cc
