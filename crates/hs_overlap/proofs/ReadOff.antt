-- From two matches to the closed overlap in which they meet; Glue.
use Rattle.std.proofs.Common.{IsSomeAnd, ℕ, ◌≡◌, ◌⊎◌, ◌↔◌, List, refl, sym, ap, ◌∙◌, subst, inl, inr, Contains, Option, Some, None, slice_get}
use Rattle.std.proofs.lemmas.Option.{same_Some, slice_get_within}
use Rattle.std.proofs.lemmas.Bool.{cases_eq}
use Rattle.hs_types.specs.declared.rule.Mark.TheVariants.{Drop}
use Rattle.hs_types.specs.declared.rule.PatternNode.{PatternNode}
use Rattle.hs_types.specs.declared.rule.PatternEdge.{PatternEdge}
use Rattle.hs_types.specs.declared.rule.PatternSlot.{PatternSlot}
use Rattle.hs_types.specs.declared.rule.Shape.{Shape}
use Rattle.hs_types.specs.declared.graph.Graph.{Graph}
use Rattle.hs_types.specs.declared.meta.Metamodel.{Metamodel}
use Rattle.hs_types.specs.TypedGraph.{IsTyped}
use Rattle.hs_overlap.specs.LeftSide.{IsLeftNode, IsLeftEdge, IsLeftSlot, IsAt}
use Rattle.hs_overlap.specs.Contexts.{of_first, of_second, IsDroppedNode, IsWrittenSlot}
use Rattle.hs_overlap.specs.declared.pair.Pair.{Pair}
use Rattle.hs_overlap.specs.declared.pair.Pair.TheVariants.{Node, Edge, Slot}
use Rattle.hs_overlap.specs.Maps.{Map, IsPlainMatch, HasNoDangling}
use Rattle.hs_overlap.specs.Reasons.{CanMeet, SlotsCoincide, Coincide, MeetExactly}
use Rattle.hs_types.specs.declared.graph.Edge.{Edge as GraphEdge}
use Rattle.hs_types.specs.declared.graph.Object.{Object}
use Rattle.hs_types.specs.Metamodel.{Conforms, IsConcrete, IsMeta}
use Rattle.hs_types.specs.TypedGraph.{IsOf, object_numbered}
use Rattle.hs_overlap.specs.Maps.{IsDroppedImage}
use Rattle.hs_overlap.specs.Overlaps.{HasFittingEnds, CanOccur, NodesMeet, EdgesMeet, SlotsMeet, MeetsDropped, DropsItsEdges, IsClosed, HasClosedOverlap}
use Rattle.hs_overlap.proofs.Build.{Inherits}
use Rattle.hs_overlap.proofs.Decided.{Decided, kinds_decided}
use Rattle.hs_overlap.proofs.LeftElements.{SlotHere, context_edge, context_left, context_slot, edge_here, left_edge_same, node_here, slot_here}
use Rattle.hs_overlap.proofs.Glue.{matched_from_closed, plain_form}
use Rattle.hs_overlap.proofs.Joined.{HasLink}
use Rattle.hs_overlap.proofs.Pairs.{all_pairs, edge_in, held_decided, node_in, slot_in, those, those_are, those_held}
use Rattle.std.proofs.Common.{eqb}
use Rattle.hs_types.specs.TypedGraph.{AreSlotsOf}
use Rattle.hs_expr.proofs.Lists.{All-find}

-- the same pairs, said in other words, are closed too
pub closed_as : (meta : Metamodel) (r p : Shape) (P Q : Pair → Type 0) → ((q : Pair) → P q ↔ Q q) → IsClosed meta r p P → IsClosed meta r p Q
closed_as meta r p P Q same h = record {
  firsts_differ = λ a b x y. h.firsts_differ a b ((same a).1 x) ((same b).1 y);
  seconds_differ = λ a b x y. h.seconds_differ a b ((same a).1 x) ((same b).1 y);
  nodes = λ i j x. h.nodes i j ((same (Node i j)).1 x);
  edges = λ i j x. let m : EdgesMeet P r p i j = h.edges i j ((same (Edge i j)).1 x) in
      record { one = m.one; other = m.other; first = m.first; second = m.second; same = m.same; sources = (same (Node m.one.source m.other.source)).0 m.sources; targets = (same (Node m.one.target m.other.target)).0 m.targets };
  slots = λ k l. let s = h.slots k l in (
    (λ x. let m : SlotsMeet P r p k l = s.0 ((same (Slot k l)).1 x) in record { one = m.one; other = m.other; node = m.node; other_node = m.other_node; first = m.first; second = m.second; same = m.same; nodes = (same (Node m.one.node m.other.node)).0 m.nodes }),
    (λ m. (same (Slot k l)).0 (s.1 (record { one = m.one; other = m.other; node = m.node; other_node = m.other_node; first = m.first; second = m.second; same = m.same; nodes = (same (Node m.one.node m.other.node)).1 m.nodes }))),
  );
  second_edges = λ i j y f x d left at. let m : MeetsDropped r (λ x. P (Edge x y)) = h.second_edges i j y f ((same (Node i j)).1 x) d left at in record { edge = m.edge; dropped = m.dropped; pair = (same (Edge m.edge y)).0 m.pair };
  first_edges = λ i j x e on d left at. let m : MeetsDropped p (λ y. P (Edge x y)) = h.first_edges i j x e ((same (Node i j)).1 on) d left at in record { edge = m.edge; dropped = m.dropped; pair = (same (Edge x m.edge)).0 m.pair };
  first_drops = h.first_drops;
  second_drops = h.second_drops;
}

-- Object n, whose class conforms.
record IsFound (meta : Metamodel) (g : Graph) (class n : ℕ) : Type 0 where
  object : Object
  at : object_numbered g n ≡ Some object
  fits : Conforms meta object.class class

found_by : (meta : Metamodel) (g : Graph) (class n : ℕ) (o : Option Object) → object_numbered g n ≡ o → IsSomeAnd o (λ object. Conforms meta object.class class) → IsFound meta g class n
found_by meta g class n None e h = absurd h
found_by meta g class n (Some x) e h = record { object = x; at = e; fits = h }

found : (meta : Metamodel) (g : Graph) (class n : ℕ) → IsOf meta g class n → IsFound meta g class n
found meta g class n h = found_by meta g class n (object_numbered g n) refl h

-- Objects of a typed graph are of concrete classes.
concrete_at : (meta : Metamodel) (g : Graph) → IsTyped meta g → (n : ℕ) (x : Object) → object_numbered g n ≡ Some x → IsConcrete meta x.class
concrete_at meta g typed n x at = (All-find (λ object. AreSlotsOf meta object.class object.slots) (λ object. eqb object.number n) g.objects x typed.objects_fit at).0

record NodesAt (s : Shape) (m : Map) (t : Shape) (n : Map) (i j : ℕ) : Type 0 where
  one : PatternNode
  other : PatternNode
  first : IsLeftNode s i one
  second : IsLeftNode t j other
  meet : m.node i ≡ n.node j

record EdgesAt (s : Shape) (m : Map) (t : Shape) (n : Map) (i j : ℕ) : Type 0 where
  one : PatternEdge
  other : PatternEdge
  first : IsLeftEdge s i one
  second : IsLeftEdge t j other
  meet : m.edge i ≡ n.edge j

record SlotsAt (s : Shape) (m : Map) (t : Shape) (n : Map) (k l : ℕ) : Type 0 where
  one : PatternSlot
  other : PatternSlot
  node : PatternNode
  other_node : PatternNode
  first : IsLeftSlot s k one node
  second : IsLeftSlot t l other other_node
  kind : one.kind ≡ other.kind
  meet : m.node one.node ≡ n.node other.node

-- the pairs where two maps meet
abbrev Meeting : Shape → Map → Shape → Map → Pair → Type 0
Meeting s m t n (Node i j) = NodesAt s m t n i j
Meeting s m t n (Edge x y) = EdgesAt s m t n x y
Meeting s m t n (Slot k l) = SlotsAt s m t n k l

nodes_by : (s : Shape) (m : Map) (t : Shape) (n : Map) (i j : ℕ) → Decided ((v : PatternNode) × IsLeftNode s i v) → Decided ((w : PatternNode) × IsLeftNode t j w) → Decided (m.node i ≡ n.node j) → Decided (NodesAt s m t n i j)
nodes_by s m t n i j (inr none) b e = inr (λ h. none (h.one, h.first))
nodes_by s m t n i j (inl a) (inr none) e = inr (λ h. none (h.other, h.second))
nodes_by s m t n i j (inl a) (inl b) (inr ne) = inr (λ h. ne h.meet)
nodes_by s m t n i j (inl a) (inl b) (inl e) = inl (record { one = a.0; other = b.0; first = a.1; second = b.1; meet = e })

edges_by : (s : Shape) (m : Map) (t : Shape) (n : Map) (i j : ℕ) → Decided ((v : PatternEdge) × IsLeftEdge s i v) → Decided ((w : PatternEdge) × IsLeftEdge t j w) → Decided (m.edge i ≡ n.edge j) → Decided (EdgesAt s m t n i j)
edges_by s m t n i j (inr none) b e = inr (λ h. none (h.one, h.first))
edges_by s m t n i j (inl a) (inr none) e = inr (λ h. none (h.other, h.second))
edges_by s m t n i j (inl a) (inl b) (inr ne) = inr (λ h. ne h.meet)
edges_by s m t n i j (inl a) (inl b) (inl e) = inl (record { one = a.0; other = b.0; first = a.1; second = b.1; meet = e })

slots_with : (s : Shape) (m : Map) (t : Shape) (n : Map) (k l : ℕ) (a : SlotHere s k) (b : SlotHere t l) → Decided (a.slot.kind ≡ b.slot.kind) → Decided (m.node a.slot.node ≡ n.node b.slot.node) → Decided (SlotsAt s m t n k l)
slots_with s m t n k l a b (inl e) (inl f) = inl (record { one = a.slot; other = b.slot; node = a.node; other_node = b.node; first = a.left; second = b.left; kind = e; meet = f })
slots_with s m t n k l a b (inr ne) f = inr (λ h.
    let one : h.one ≡ a.slot = same_Some h.one a.slot (sym h.first.at ∙ a.left.at) in
    let other : h.other ≡ b.slot = same_Some h.other b.slot (sym h.second.at ∙ b.left.at) in
    ne (ap (λ (x : PatternSlot). x.kind) (sym one) ∙ h.kind ∙ ap (λ (x : PatternSlot). x.kind) other))
slots_with s m t n k l a b (inl e) (inr ne) = inr (λ h.
    let one : h.one ≡ a.slot = same_Some h.one a.slot (sym h.first.at ∙ a.left.at) in
    let other : h.other ≡ b.slot = same_Some h.other b.slot (sym h.second.at ∙ b.left.at) in
    ne (ap (λ (x : PatternSlot). m.node x.node) (sym one) ∙ h.meet ∙ ap (λ (x : PatternSlot). n.node x.node) other))

slots_by : (s : Shape) (m : Map) (t : Shape) (n : Map) (k l : ℕ) → Decided (SlotHere s k) → Decided (SlotHere t l) → Decided (SlotsAt s m t n k l)
slots_by s m t n k l (inr none) b = inr (λ h. none (record { slot = h.one; node = h.node; left = h.first }))
slots_by s m t n k l (inl a) (inr none) = inr (λ h. none (record { slot = h.other; node = h.other_node; left = h.second }))
slots_by s m t n k l (inl a) (inl b) = slots_with s m t n k l a b (kinds_decided a.slot.kind b.slot.kind) (cases_eq (m.node a.slot.node) (n.node b.slot.node))

meeting_decided : (s : Shape) (m : Map) (t : Shape) (n : Map) (q : Pair) → Decided (Meeting s m t n q)
meeting_decided s m t n (Node i j) = nodes_by s m t n i j (node_here s i (slice_get s.nodes i) refl) (node_here t j (slice_get t.nodes j) refl) (cases_eq (m.node i) (n.node j))
meeting_decided s m t n (Edge x y) = edges_by s m t n x y (edge_here s x (slice_get s.edges x) refl) (edge_here t y (slice_get t.edges y) refl) (cases_eq (m.edge x) (n.edge y))
meeting_decided s m t n (Slot k l) = slots_by s m t n k l (slot_here s k (slice_get s.slots k) refl) (slot_here t l (slice_get t.slots l) refl)

-- one link of a number
record SameLink (a r b a' r' b' : ℕ) : Type 0 where
  source : a ≡ a'
  reference : r ≡ r'
  target : b ≡ b'

one_link : (g : Graph) (n o a r b a' r' b' : ℕ) → HasLink g n a r b → HasLink g o a' r' b' → n ≡ o → SameLink a r b a' r' b'
one_link g n o a r b a' r' b' h k e =
    let there : HasLink g o a r b = subst (λ z. HasLink g z a r b) e h in
    let same = same_Some (record { number = o; source = a; reference = r; target = b }) (record { number = o; source = a'; reference = r'; target = b' }) (sym there ∙ k) in
    record { source = ap (λ (x : GraphEdge). x.source) same; reference = ap (λ (x : GraphEdge). x.reference) same; target = ap (λ (x : GraphEdge). x.target) same }

-- one side of what follows from two matches
drops_own : (meta : Metamodel) (g : Graph) (s : Shape) (m : Map) → IsPlainMatch meta g s m → HasNoDangling g s m → DropsItsEdges s
drops_own meta g s m match clean x i e left node at =
    let link : HasLink g (m.edge x) (m.node e.source) e.reference (m.node e.target) = match.edges x e left in
    let here : (m.node e.source ≡ m.node i) ⊎ (m.node e.target ≡ m.node i) = elim at [ inl is ↦ inl (ap m.node is) | inr is ↦ inr (ap m.node is) ] in
    let gone : IsDroppedImage s m (m.edge x) = clean i node.node node.left node.dropped (m.edge x) (record { number = m.edge x; source = m.node e.source; reference = e.reference; target = m.node e.target }) link here in
    let place : gone.edge ≡ x = match.edges_differ gone.edge x gone.what e gone.left left gone.image in
    let what : gone.what ≡ e = left_edge_same s x gone.what e (moved_edge s gone.edge x gone.what gone.left place) left in
    record { edge = e; left = left; dropped = rw what at gone.dropped }
  where
    moved_edge : (s : Shape) (a i : ℕ) (v : PatternEdge) → IsLeftEdge s a v → a ≡ i → IsLeftEdge s i v
    moved_edge s a i v h e = rw e at h

-- an edge of the other side at a place where this side drops a node lies on a dropped edge of this side
drops_other : (meta : Metamodel) (g : Graph) (s : Shape) (m : Map) (t : Shape) (n : Map) → HasNoDangling g s m → IsPlainMatch meta g t n →
    (i j : ℕ) (v : PatternNode) → IsLeftNode s i v → v.mark ≡ Drop → m.node i ≡ n.node j → (y : ℕ) (f : PatternEdge) → IsLeftEdge t y f → IsAt f j → IsDroppedImage s m (n.edge y)
drops_other meta g s m t n clean match i j v left d e y f other at =
    clean i v left d (n.edge y) (record { number = n.edge y; source = n.node f.source; reference = f.reference; target = n.node f.target }) (match.edges y f other)
    (elim at [ inl is ↦ inl (ap n.node is ∙ sym e) | inr is ↦ inr (ap n.node is ∙ sym e) ])

module _ (meta : Metamodel) (r p : Shape) (formed : CanOccur meta r) (formed' : CanOccur meta p) (g : Graph) (m n : Map) (typed : IsTyped meta g) (first : IsPlainMatch meta g r m) (second : IsPlainMatch meta g p n) (clean : HasNoDangling g r m) (clean' : HasNoDangling g p n) where
  nodes_common : (i j : ℕ) → Meeting r m p n (Node i j) → NodesMeet meta r p i j
  nodes_common i j h =
      let at : NodesAt r m p n i j = h in
      let one : IsFound meta g at.one.class (m.node i) = found meta g at.one.class (m.node i) (first.nodes i at.one at.first) in
      let other : IsFound meta g at.other.class (n.node j) = found meta g at.other.class (n.node j) (second.nodes j at.other at.second) in
      let same : one.object ≡ other.object = same_Some one.object other.object (sym one.at ∙ ap (object_numbered g) at.meet ∙ other.at) in
      let fits : Conforms meta one.object.class at.other.class = subst (λ (z : Object). Conforms meta z.class at.other.class) (sym same) other.fits in
      record { one = at.one; other = at.other; first = at.first; second = at.second; common = (one.object.class, concrete_at meta g typed (m.node i) one.object one.at, one.fits, fits) }

  edges_same : (x y : ℕ) → Meeting r m p n (Edge x y) → EdgesMeet (Meeting r m p n) r p x y
  edges_same x y h =
      let at : EdgesAt r m p n x y = h in
      let same : SameLink (m.node at.one.source) at.one.reference (m.node at.one.target) (n.node at.other.source) at.other.reference (n.node at.other.target) =
      one_link g (m.edge x) (n.edge y) (m.node at.one.source) at.one.reference (m.node at.one.target) (n.node at.other.source) at.other.reference (n.node at.other.target) (first.edges x at.one at.first) (second.edges y at.other at.second) at.meet in
      let ends : HasFittingEnds meta r at.one = formed.edges x at.one at.first in
      let ends' : HasFittingEnds meta p at.other = formed'.edges y at.other at.second in
      record {
        one = at.one;
        other = at.other;
        first = at.first;
        second = at.second;
        same = same.reference;
        sources = record { one = ends.source; other = ends'.source; first = ends.begins; second = ends'.begins; meet = same.source };
        targets = record { one = ends.target; other = ends'.target; first = ends.ends; second = ends'.ends; meet = same.target };
      }

  slots_same : (k l : ℕ) → Meeting r m p n (Slot k l) ↔ SlotsMeet (Meeting r m p n) r p k l
  slots_same k l = (
    (λ h. let at : SlotsAt r m p n k l = h in
        record {
          one = at.one;
          other = at.other;
          node = at.node;
          other_node = at.other_node;
          first = at.first;
          second = at.second;
          same = at.kind;
          nodes = record { one = at.node; other = at.other_node; first = at.first.node; second = at.second.node; meet = at.meet };
        }),
    (λ h. (record {
      one = h.one;
      other = h.other;
      node = h.node;
      other_node = h.other_node;
      first = h.first;
      second = h.second;
      kind = h.same;
      meet = (h.nodes).meet;
    })),
  )

  second_drop : (i j y : ℕ) (f : PatternEdge) → Meeting r m p n (Node i j) → IsDroppedNode r i → IsLeftEdge p y f → IsAt f j → MeetsDropped r (λ x. Meeting r m p n (Edge x y))
  second_drop i j y f h here left at =
      let met : NodesAt r m p n i j = h in
      let gone : IsDroppedImage r m (n.edge y) = drops_other meta g r m p n clean second i j here.node here.left here.dropped met.meet y f left at in
      record { edge = gone.edge; dropped = record { edge = gone.what; left = gone.left; dropped = gone.dropped }; pair = record { one = gone.what; other = f; first = gone.left; second = left; meet = gone.image } }

  first_drop : (i j x : ℕ) (e : PatternEdge) → Meeting r m p n (Node i j) → IsDroppedNode p j → IsLeftEdge r x e → IsAt e i → MeetsDropped p (λ y. Meeting r m p n (Edge x y))
  first_drop i j x e h here left at =
      let met : NodesAt r m p n i j = h in
      let gone : IsDroppedImage p n (m.edge x) = drops_other meta g p n r m clean' first j i here.node here.left here.dropped (sym met.meet) x e left at in
      record { edge = gone.edge; dropped = record { edge = gone.what; left = gone.left; dropped = gone.dropped }; pair = record { one = e; other = gone.what; first = left; second = gone.left; meet = (sym gone.image) } }

  same_first : (a b : Pair) → Meeting r m p n a → Meeting r m p n b → of_first a ≡ of_first b → a ≡ b
  same_first (Node i j) (Node k l) a b e =
      let here : i ≡ k = cc in
      let s = a in let t = b in
      let there : j ≡ l = second.nodes_differ j l s.other t.other s.second t.second (sym s.meet ∙ ap m.node here ∙ t.meet) in cc
  same_first (Edge i j) (Edge k l) a b e =
      let here : i ≡ k = cc in
      let s = a in let t = b in
      let there : j ≡ l = second.edges_differ j l s.other t.other s.second t.second (sym s.meet ∙ ap m.edge here ∙ t.meet) in cc
  same_first (Slot i j) (Slot k l) a b e =
      let here : i ≡ k = cc in
      let s : SlotsAt r m p n i j = a in let t : SlotsAt r m p n k l = b in
      let one : s.one ≡ t.one = same_Some s.one t.one (sym s.first.at ∙ ap (λ x. slice_get r.slots x) here ∙ t.first.at) in
      let nodes : s.other.node ≡ t.other.node = second.nodes_differ s.other.node t.other.node s.other_node t.other_node s.second.node t.second.node (sym s.meet ∙ ap (λ (x : PatternSlot). m.node x.node) one ∙ t.meet) in
      let kinds : s.other.kind ≡ t.other.kind = sym s.kind ∙ ap (λ (x : PatternSlot). x.kind) one ∙ t.kind in
      let there : j ≡ l = formed'.slots j l s.other t.other s.other_node t.other_node s.second t.second nodes kinds in cc
  same_first (Node i j) (Edge k l) a b e = cc
  same_first (Node i j) (Slot k l) a b e = cc
  same_first (Edge i j) (Node k l) a b e = cc
  same_first (Edge i j) (Slot k l) a b e = cc
  same_first (Slot i j) (Node k l) a b e = cc
  same_first (Slot i j) (Edge k l) a b e = cc

  same_second : (a b : Pair) → Meeting r m p n a → Meeting r m p n b → of_second a ≡ of_second b → a ≡ b
  same_second (Node i j) (Node k l) a b e =
      let here : j ≡ l = cc in
      let s = a in let t = b in
      let there : i ≡ k = first.nodes_differ i k s.one t.one s.first t.first (s.meet ∙ ap n.node here ∙ sym t.meet) in cc
  same_second (Edge i j) (Edge k l) a b e =
      let here : j ≡ l = cc in
      let s = a in let t = b in
      let there : i ≡ k = first.edges_differ i k s.one t.one s.first t.first (s.meet ∙ ap n.edge here ∙ sym t.meet) in cc
  same_second (Slot i j) (Slot k l) a b e =
      let here : j ≡ l = cc in
      let s : SlotsAt r m p n i j = a in let t : SlotsAt r m p n k l = b in
      let other : s.other ≡ t.other = same_Some s.other t.other (sym s.second.at ∙ ap (λ x. slice_get p.slots x) here ∙ t.second.at) in
      let nodes : s.one.node ≡ t.one.node = first.nodes_differ s.one.node t.one.node s.node t.node s.first.node t.first.node (s.meet ∙ ap (λ (x : PatternSlot). n.node x.node) other ∙ sym t.meet) in
      let kinds : s.one.kind ≡ t.one.kind = s.kind ∙ ap (λ (x : PatternSlot). x.kind) other ∙ sym t.kind in
      let there : i ≡ k = formed.slots i k s.one t.one s.node t.node s.first t.first nodes kinds in cc
  same_second (Node i j) (Edge k l) a b e = cc
  same_second (Node i j) (Slot k l) a b e = cc
  same_second (Edge i j) (Node k l) a b e = cc
  same_second (Edge i j) (Slot k l) a b e = cc
  same_second (Slot i j) (Node k l) a b e = cc
  same_second (Slot i j) (Edge k l) a b e = cc

  meeting_closed : IsClosed meta r p (Meeting r m p n)
  meeting_closed = record {
    firsts_differ = same_first;
    seconds_differ = same_second;
    nodes = nodes_common;
    edges = edges_same;
    slots = slots_same;
    second_edges = second_drop;
    first_edges = first_drop;
    first_drops = drops_own meta g r m first clean;
    second_drops = drops_own meta g p n second clean';
  }

  -- the pairs of this overlap are those where the maps meet
  meets_where : (q : Pair) → CanMeet r p q → Coincide r p m n q ↔ Meeting r m p n q
  meets_where (Node i j) can = let here = context_left r (plain_form meta r formed) i can.context in
      ((λ e. record { one = here.0; other = can.left.0; first = here.1; second = can.left.1; meet = e }), (λ h. (h).meet))
  meets_where (Edge x y) can = let here = context_edge r x can.context in
      ((λ e. record { one = here.edge; other = can.left.0; first = here.left; second = can.left.1; meet = e }), (λ h. (h).meet))
  meets_where (Slot k l) can = let here = context_slot r k can.context in (
    (λ e. (slots_at k l here can.left.0 can.left.1 can.left.2 e)),
    (λ h. let s : SlotsAt r m p n k l = h in record { one = s.one; other = s.other; first = s.first.at; second = s.second.at; node = s.meet; kind = s.kind }),
  )
    where
      slots_at : (k l : ℕ) (c : IsWrittenSlot r k) (u : PatternSlot) (w : PatternNode) → IsLeftSlot p l u w → SlotsCoincide r p m n k l → SlotsAt r m p n k l
      slots_at k l c u w left e =
          let one : c.slot ≡ e.one = same_Some c.slot e.one (sym c.left.at ∙ e.first) in
          let other : u ≡ e.other = same_Some u e.other (sym left.at ∙ e.second) in
          record { one = e.one; other = e.other; node = c.node; other_node = w; first = rw one at c.left; second = rw other at left; kind = e.kind; meet = e.node }

  listed : (q : Pair) → Meeting r m p n q ↔ Contains (those (Meeting r m p n) (meeting_decided r m p n) (all_pairs r p)) q
  listed q = ((λ h. those_held (Meeting r m p n) (meeting_decided r m p n) (all_pairs r p) q (within q h) h), (λ c. those_are (Meeting r m p n) (meeting_decided r m p n) (all_pairs r p) q c))
    where
      within : (q : Pair) → Meeting r m p n q → Contains (all_pairs r p) q
      within (Node i j) h = node_in r p i j (slice_get_within r.nodes i h.one h.first.at) (slice_get_within p.nodes j h.other h.second.at)
      within (Edge i j) h = edge_in r p i j (slice_get_within r.edges i h.one h.first.at) (slice_get_within p.edges j h.other h.second.at)
      within (Slot i j) h = slot_in r p i j (slice_get_within r.slots i h.one h.first.at) (slice_get_within p.slots j h.other h.second.at)

  pub glued_from_matched : (span : List Pair) → ((q : Pair) → CanMeet r p q → Coincide r p m n q ↔ Contains span q) → HasClosedOverlap meta r p span
  glued_from_matched span exact = record {
    overlap = those (Meeting r m p n) (meeting_decided r m p n) (all_pairs r p);
    closed = closed_as meta r p (Meeting r m p n) (Contains (those (Meeting r m p n) (meeting_decided r m p n) (all_pairs r p))) listed meeting_closed;
    part = λ q can. let a = meets_where q can in let b = exact q can in let c = listed q in ((λ h. b.0 (a.1 (c.1 h))), (λ h. c.0 (a.0 (b.1 h))));
  }

-- Glue: two matches meet exactly in a span where it is the part of a closed overlap
pub glue_both : (meta : Metamodel) (r p : Shape) → IsMeta meta → Inherits meta → CanOccur meta r → CanOccur meta p → (span : List Pair) → MeetExactly meta r p span ↔ HasClosedOverlap meta r p span
glue_both meta r p is_meta inherits formed formed' span = (
  (λ a. glued_from_matched meta r p formed formed' a.graph a.one a.other a.typed a.first a.second a.first_clean a.second_clean span a.exact),
  (λ a. matched_from_closed meta is_meta inherits r p formed formed' (Contains a.overlap) (held_decided a.overlap) a.closed span a.part),
)
