-- The step of a plan that fits a typed graph is a typed graph.
use Rattle.std.proofs.Common.{ℕ, suc, zero, ◌+◌, ◌<◌, ◌≡◌, inl, inr, List, [], ◌∷◌, ◌++◌, map, length, true, false, not, ◌||◌, eqb, Option, Some, None, IsSomeAnd, slice_get, refl, sym, ap, ◌∙◌, subst, arith}
use Rattle.std.specs.List.{All, filter, find}
use Rattle.std.specs.Option.{option_map, unwrap_or}
use Rattle.std.proofs.lemmas.Bool.{eq-eqb, ne_eqb, cases_Bool, both_ways, and_parts, or_left, or_right, false_from_ne_true, not-true}
use Rattle.std.proofs.lemmas.List.Elements.{All-nil, All-cons, All-head, All-tail, All-append, All-map, All-weaker}
use Rattle.hs_types.specs.declared.graph.Edge.{Edge}
use Rattle.hs_types.specs.declared.graph.Graph.{Graph}
use Rattle.hs_types.specs.declared.graph.Object.{Object}
use Rattle.hs_types.specs.declared.graph.Slot.{Slot}
use Rattle.hs_types.specs.declared.meta.Metamodel.{Metamodel}
use Rattle.hs_types.specs.declared.plan.End.{End}
use Rattle.hs_types.specs.declared.plan.End.TheVariants.{Old, New}
use Rattle.hs_types.specs.declared.plan.MadeEdge.{MadeEdge}
use Rattle.hs_types.specs.Plan.{MadeObject, Plan, CanBeMade, EndIs, SlotFits}
use Rattle.hs_types.specs.declared.plan.Write.{Write}
use Rattle.hs_types.specs.declared.rule.SlotKind.{SlotKind}
use Rattle.hs_types.specs.declared.rule.SlotKind.TheVariants.{Attribute}
use Rattle.hs_types.specs.Dangling.{NoneDangle}
use Rattle.hs_expr.specs.Lists.{has, Differ, Rise}
use Rattle.hs_types.specs.Metamodel.{Conforms, features_of, fits, target_of}
use Rattle.hs_types.specs.Pattern.{is_kind}
use Rattle.hs_types.specs.Step.{is_to, new_edges, new_objects, number_of, object_after, step, slot_after}
use Rattle.hs_types.specs.TypedGraph.{AreSlotsOf, CanJoin, IsTyped, Stands, hash_name, object_numbered}
use Rattle.hs_types.proofs.SlotKinds.{is_kind-same}
use Rattle.hs_expr.proofs.Lists.{All-both, All-find, All-kept, Rise-append, Rise-filter, Rise_past, find-passes, map-append}
use Rattle.hs_types.proofs.AfterStep.{Stands-kept, new_edges-rise, new_objects-rise, object_numbered-step}
use Rattle.hs_types.proofs.HashNames.{Differ-filter, names-below, names-differ}

pub rewritten-same : {B : Type 0} (f : Object → B) (ws : List Write) → ((o : Object) → f (object_after ws o) ≡ f o) → (os : List Object) → map f (map (object_after ws) os) ≡ map f os
rewritten-same f ws same [] = refl
rewritten-same f ws same (o ∷ os) = rw (same o, rewritten-same f ws same os) refl

pub attributes_written : (ws : List Write) (n : ℕ) (ss : List Slot) → map (λ s. s.attribute) (map (slot_after ws n) ss) ≡ map (λ s. s.attribute) ss
attributes_written ws n [] = refl
attributes_written ws n (s ∷ ss) = ap (λ l. s.attribute ∷ l) (attributes_written ws n ss)

-- The slots of an object after the writes are those of its class.
slots_written : (m : Metamodel) (ws : List Write) (o : Object) → All (λ w. SlotFits m w.slot w.value) ws → AreSlotsOf m o.class o.slots → AreSlotsOf m o.class (map (slot_after ws o.number) o.slots)
slots_written m ws o fit h = (
  h.0,
  attributes_written ws o.number o.slots ∙ h.1,
  All-map V (slot_after ws o.number) o.slots (All-weaker V (λ s. V (slot_after ws o.number s)) (λ s i. value_fits s (find (is_to o.number (Attribute s.attribute)) ws) refl i) o.slots h.2),
)
  where
    V : Slot → Type 0
    V s = fits m s.attribute s.value ≡ true

    value_fits : (s : Slot) (found : Option Write) → find (is_to o.number (Attribute s.attribute)) ws ≡ found → V s → fits m s.attribute (unwrap_or (option_map (λ w. w.value) found) s.value) ≡ true
    value_fits s None e i = i
    value_fits s (Some w) e i =
        let at = and_parts (eqb w.object o.number) (is_kind w.slot (Attribute s.attribute)) (find-passes (is_to o.number (Attribute s.attribute)) ws w e) in
        let same : w.slot ≡ Attribute s.attribute = is_kind-same w.slot (Attribute s.attribute) at.1 in
        subst (λ (k : SlotKind). SlotFits m k w.value) same (All-find (λ w. SlotFits m w.slot w.value) (is_to o.number (Attribute s.attribute)) ws w fit e)

made_fit : (m : Metamodel) (n k : ℕ) (os : List MadeObject) → All (λ o. AreSlotsOf m o.class o.slots) os → All (λ o. AreSlotsOf m o.class o.slots) (new_objects n k os)
made_fit m n k [] a = All-nil (λ o. AreSlotsOf m o.class o.slots)
made_fit m n k (o ∷ os) a = All-cons (λ o. AreSlotsOf m o.class o.slots) (record { number = n; name = hash_name k; class = o.class; slots = o.slots }) (new_objects (n + 1) (k + 1) os) (All-head (λ o. AreSlotsOf m o.class o.slots) o os a) (made_fit m (n + 1) (k + 1) os (All-tail (λ o. AreSlotsOf m o.class o.slots) o os a))

-- The i-th made object is at the i-th next number.
made_at : (P : ℕ → Type 0) (n k i : ℕ) (os : List MadeObject) → IsSomeAnd (slice_get os i) (λ o. P o.class) → IsSomeAnd (find (λ o. eqb o.number (n + i)) (new_objects n k os)) (λ o. P o.class)
made_at P n k i [] h = absurd h
made_at P n k zero (o ∷ os) h = let e : eqb n (n + 0) ≡ true = eq-eqb n (n + 0) (omega arith) in rw e h
made_at P n k (suc i) (o ∷ os) h = let e : eqb n (n + suc i) ≡ false = ne_eqb n (n + suc i) (λ e. omega arith) in let s : n + suc i ≡ (n + 1) + i = omega arith in rw e (subst (λ (j : ℕ). IsSomeAnd (find (λ o. eqb o.number j) (new_objects (n + 1) (k + 1) os)) (λ o. P o.class)) (sym s) (made_at P (n + 1) (k + 1) i os h))

-- An end of a made edge is after the step.
end_stands : (m : Metamodel) (g : Graph) (p : Plan) (P : ℕ → Type 0) (x : End) → IsTyped m g → EndIs g p P x → Stands (step g p) P (number_of g.next_object x)
end_stands m g p P (Old n) t h = Stands-kept P g p n h.1 h.0
end_stands m g p P (New i) t h =
    let n : ℕ = g.next_object + i in
    let none : object_numbered g n ≡ None = Rise_past (λ o. o.number) 0 g.objects g.next_object n t.objects_rise (omega arith) in
    let Q : Option Object → Type 0 = λ o. IsSomeAnd o (λ x. P x.class) in
    let new : Q (find (λ o. eqb o.number n) (new_objects g.next_object g.next_name p.make_objects)) = made_at P g.next_object g.next_name i p.make_objects h in
    subst Q (sym (object_numbered-step g p n)) (elim (cases_Bool (has p.drop_objects n)) [ inl d ↦ rw d new | inr d ↦ rw (d, none) new ])

edge_kept : (m : Metamodel) (g : Graph) (p : Plan) (e : Edge) → has p.drop_edges e.number ≡ false → ((has p.drop_objects e.source || has p.drop_objects e.target) ≡ true → has p.drop_edges e.number ≡ true) → CanJoin m g e.source e.reference e.target → CanJoin m (step g p) e.source e.reference e.target
edge_kept m g p e stays dangles h = (Stands-kept (λ c. has (features_of m c) e.reference ≡ true) g p e.source source h.0, go (target_of m e.reference) h.1)
  where
    source : has p.drop_objects e.source ≡ false
    source = false_from_ne_true (has p.drop_objects e.source) (λ d. both_ways (has p.drop_edges e.number) stays (dangles (or_left (has p.drop_objects e.source) (has p.drop_objects e.target) d)))

    target : has p.drop_objects e.target ≡ false
    target = false_from_ne_true (has p.drop_objects e.target) (λ d. both_ways (has p.drop_edges e.number) stays (dangles (or_right (has p.drop_objects e.source) (has p.drop_objects e.target) d)))

    go : (o : Option ℕ) → IsSomeAnd o (λ class. Stands g (λ c. Conforms m c class) e.target) → IsSomeAnd o (λ class. Stands (step g p) (λ c. Conforms m c class) e.target)
    go None h = h
    go (Some class) h = Stands-kept (λ c. Conforms m c class) g p e.target target h

edges_made : (m : Metamodel) (g : Graph) (p : Plan) → IsTyped m g → (n : ℕ) (es : List MadeEdge) → All (CanBeMade m g p) es → All (λ e. CanJoin m (step g p) e.source e.reference e.target) (new_edges g.next_object n es)
edges_made m g p t n [] a = All-nil (λ e. CanJoin m (step g p) e.source e.reference e.target)
edges_made m g p t n (e ∷ es) a =
    let h : CanBeMade m g p e = All-head (CanBeMade m g p) e es a in
    All-cons (λ e. CanJoin m (step g p) e.source e.reference e.target) (record { number = n; source = number_of g.next_object e.source; reference = e.reference; target = number_of g.next_object e.target }) (new_edges g.next_object (n + 1) es) (end_stands m g p (λ c. has (features_of m c) e.reference ≡ true) e.source t h.0, go (target_of m e.reference) h.1) (edges_made m g p t (n + 1) es (All-tail (CanBeMade m g p) e es a))
  where
    go : (o : Option ℕ) → IsSomeAnd o (λ class. EndIs g p (λ c. Conforms m c class) e.target) → IsSomeAnd o (λ class. Stands (step g p) (λ c. Conforms m c class) (number_of g.next_object e.target))
    go None h = h
    go (Some class) h = end_stands m g p (λ c. Conforms m c class) e.target t h

-- What a step needs of a plan to lead to a typed graph.
pub record Carries (m : Metamodel) (g : Graph) (p : Plan) : Type 0 where
  pub none_dangle : NoneDangle p.drop_objects p.drop_edges g
  pub values_fit : All (λ write. SlotFits m write.slot write.value) p.writes
  pub objects_fit : All (λ object. AreSlotsOf m object.class object.slots) p.make_objects
  pub edges_fit : All (CanBeMade m g p) p.make_edges

pub IsTyped-step : (m : Metamodel) (g : Graph) (p : Plan) → IsTyped m g → Carries m g p → IsTyped m (step g p)
IsTyped-step m g p t f = record {
  objects_rise = subst (λ (l : List ℕ). Rise 0 l (g.next_object + length p.make_objects)) (sym numbers) (Rise-append 0 (map (λ o. o.number) kept) g.next_object (map (λ o. o.number) made) (g.next_object + length p.make_objects) (Rise-filter (λ o. o.number) (λ o. not (has p.drop_objects o.number)) 0 g.objects g.next_object t.objects_rise) (new_objects-rise g.next_object g.next_name p.make_objects));
  edges_rise = subst (λ (l : List ℕ). Rise 0 l (g.next_edge + length p.make_edges)) (sym (map-append (λ e. e.number) kept_edges (new_edges g.next_object g.next_edge p.make_edges))) (Rise-append 0 (map (λ e. e.number) kept_edges) g.next_edge (map (λ e. e.number) (new_edges g.next_object g.next_edge p.make_edges)) (g.next_edge + length p.make_edges) (Rise-filter (λ e. e.number) (λ e. not (has p.drop_edges e.number)) 0 g.edges g.next_edge t.edges_rise) (new_edges-rise g.next_object g.next_edge p.make_edges));
  names_differ = subst Differ (sym names) (names-differ (map (λ o. o.name) kept) g.next_object g.next_name p.make_objects (Differ-filter (λ o. o.name) (λ o. not (has p.drop_objects o.number)) g.objects t.names_differ) (All-map N (λ o. o.name) kept (All-kept B B (λ o. not (has p.drop_objects o.number)) g.objects (λ o q h. h) t.names_below)));
  names_below = All-append C (map (object_after p.writes) kept) made (All-map C (object_after p.writes) kept (All-kept B C (λ o. not (has p.drop_objects o.number)) g.objects (λ o q h k e. let less : k < g.next_name = h k e in omega arith) t.names_below)) (names-below g.next_object g.next_name p.make_objects);
  objects_fit = All-append O (map (object_after p.writes) kept) made (All-map O (object_after p.writes) kept (All-kept O (λ o. O (object_after p.writes o)) (λ o. not (has p.drop_objects o.number)) g.objects (λ o q h. slots_written m p.writes o f.values_fit h) t.objects_fit)) (made_fit m g.next_object g.next_name p.make_objects f.objects_fit);
  edges_fit = All-append E kept_edges (new_edges g.next_object g.next_edge p.make_edges) (All-kept (λ e. D e × F e) E (λ e. not (has p.drop_edges e.number)) g.edges (λ e q h. edge_kept m g p e (not-true (has p.drop_edges e.number) q) h.0 h.1) (All-both D F g.edges f.none_dangle t.edges_fit)) (edges_made m g p t g.next_edge p.make_edges f.edges_fit);
}
  where
    N : List ℕ → Type 0
    N name = (k : ℕ) → name ≡ hash_name k → k < g.next_name

    B : Object → Type 0
    B o = (k : ℕ) → o.name ≡ hash_name k → k < g.next_name

    C : Object → Type 0
    C o = (k : ℕ) → o.name ≡ hash_name k → k < g.next_name + length p.make_objects

    O : Object → Type 0
    O o = AreSlotsOf m o.class o.slots

    D : Edge → Type 0
    D e = (has p.drop_objects e.source || has p.drop_objects e.target) ≡ true → has p.drop_edges e.number ≡ true

    F : Edge → Type 0
    F e = CanJoin m g e.source e.reference e.target

    E : Edge → Type 0
    E e = CanJoin m (step g p) e.source e.reference e.target

    kept : List Object
    kept = filter (λ o. not (has p.drop_objects o.number)) g.objects

    made : List Object
    made = new_objects g.next_object g.next_name p.make_objects

    kept_edges : List Edge
    kept_edges = filter (λ e. not (has p.drop_edges e.number)) g.edges

    numbers : map (λ o. o.number) (map (object_after p.writes) kept ++ made) ≡ map (λ o. o.number) kept ++ map (λ o. o.number) made
    numbers = map-append (λ o. o.number) (map (object_after p.writes) kept) made ∙ ap (λ (l : List ℕ). l ++ map (λ o. o.number) made) (rewritten-same (λ o. o.number) p.writes (λ o. refl) kept)

    names : map (λ o. o.name) (map (object_after p.writes) kept ++ made) ≡ map (λ o. o.name) kept ++ map (λ o. o.name) made
    names = map-append (λ o. o.name) (map (object_after p.writes) kept) made ∙ ap (λ (l : List (List ℕ)). l ++ map (λ o. o.name) made) (rewritten-same (λ o. o.name) p.writes (λ o. refl) kept)
