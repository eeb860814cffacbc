-- What a step brings: made objects and edges with the next numbers and names, and written values.
use Rattle.std.proofs.Common.{ℕ, suc, zero, ◌+◌, ◌≡◌, inl, inr, List, [], ◌∷◌, map, true, false, eqb, Option, Some, None, IsSome, slice_get, refl, sym, ap, ◌∙◌, subst, arith}
use Rattle.std.specs.List.{find}
use Rattle.std.proofs.lemmas.Bool.{eq-eqb, eqb-true, false≢true, ne_eqb, cases_Bool, and_parts, false_from_ne_true}
use Rattle.std.proofs.lemmas.Option.{none-some, same_Some}
use Rattle.hs_types.specs.declared.graph.Edge.{Edge}
use Rattle.hs_types.specs.declared.graph.Graph.{Graph}
use Rattle.hs_types.specs.declared.graph.Object.{Object}
use Rattle.hs_types.specs.declared.graph.Slot.{Slot}
use Rattle.hs_types.specs.declared.meta.Metamodel.{Metamodel}
use Rattle.hs_types.specs.declared.plan.MadeEdge.{MadeEdge}
use Rattle.hs_types.specs.Plan.{MadeObject, Plan, Fits}
use Rattle.hs_types.specs.declared.plan.Write.{Write}
use Rattle.hs_types.specs.declared.rule.SlotKind.{SlotKind}
use Rattle.hs_types.specs.declared.rule.SlotKind.TheVariants.{Attribute, Link, Container}
use Rattle.hs_expr.specs.Lists.{EachPair, has}
use Rattle.hs_types.specs.Pattern.{is_kind}
use Rattle.hs_types.specs.Step.{is_to, new_edges, new_objects, number_of, object_after, slot_after, step}
use Rattle.hs_types.specs.TypedGraph.{IsTyped, edge_numbered, hash_name, object_numbered, value_at, value_in}
use Rattle.hs_expr.proofs.Items.{All-at}
use Rattle.hs_expr.proofs.Lists.{Rise_past, find-passes}
use Rattle.hs_types.proofs.SlotKinds.{is_kind-itself, is_kind-same}
use Rattle.hs_types.proofs.AfterStep.{edge_numbered-step, object_numbered-step}
use Rattle.hs_laws.proofs.Stepped.{object-stays}

-- A made object with this number and the name of this hash number.
abbrev object_made : ℕ → ℕ → MadeObject → Object
object_made n k made = record { number = n; name = hash_name k; class = made.class; slots = made.slots }

-- A made edge with this number, where the first made object has number next.
abbrev edge_made : ℕ → ℕ → MadeEdge → Edge
edge_made next n made = record { number = n; source = number_of next made.source; reference = made.reference; target = number_of next made.target }

among_objects : (n k i : ℕ) (os : List MadeObject) (o : MadeObject) → slice_get os i ≡ Some o → find (λ (x : Object). eqb x.number (n + i)) (new_objects n k os) ≡ Some (object_made (n + i) (k + i) o)
among_objects n k i [] o e = absurd (none-some o e)
among_objects n k zero (x ∷ os) o e =
    let here : eqb n (n + 0) ≡ true = eq-eqb n (n + 0) (omega arith) in
    let number : n ≡ n + 0 = omega arith in
    let name : k ≡ k + 0 = omega arith in
    rw here (ap (λ (y : MadeObject). Some (object_made n k y)) (same_Some x o e) ∙ ap (λ (j : ℕ). Some (object_made j k o)) number ∙ ap (λ (j : ℕ). Some (object_made (n + 0) j o)) name)
among_objects n k (suc i) (x ∷ os) o e =
    let differs : eqb n (n + suc i) ≡ false = ne_eqb n (n + suc i) (λ e. omega arith) in
    let number : (n + 1) + i ≡ n + suc i = omega arith in
    let name : (k + 1) + i ≡ k + suc i = omega arith in
    rw differs (subst (λ (j : ℕ). find (λ (y : Object). eqb y.number j) (new_objects (n + 1) (k + 1) os) ≡ Some (object_made j (k + suc i) o)) number
    (among_objects (n + 1) (k + 1) i os o e ∙ ap (λ (j : ℕ). Some (object_made ((n + 1) + i) j o)) name))

among_edges : (next n i : ℕ) (es : List MadeEdge) (e : MadeEdge) → slice_get es i ≡ Some e → find (λ (x : Edge). eqb x.number (n + i)) (new_edges next n es) ≡ Some (edge_made next (n + i) e)
among_edges next n i [] e h = absurd (none-some e h)
among_edges next n zero (x ∷ es) e h =
    let here : eqb n (n + 0) ≡ true = eq-eqb n (n + 0) (omega arith) in
    let number : n ≡ n + 0 = omega arith in
    rw here (ap (λ (y : MadeEdge). Some (edge_made next n y)) (same_Some x e h) ∙ ap (λ (j : ℕ). Some (edge_made next j e)) number)
among_edges next n (suc i) (x ∷ es) e h =
    let differs : eqb n (n + suc i) ≡ false = ne_eqb n (n + suc i) (λ e. omega arith) in
    let number : (n + 1) + i ≡ n + suc i = omega arith in
    rw differs (subst (λ (j : ℕ). find (λ (y : Edge). eqb y.number j) (new_edges next (n + 1) es) ≡ Some (edge_made next j e)) number (among_edges next (n + 1) i es e h))

pub objects-come : (m : Metamodel) (g : Graph) (p : Plan) (i : ℕ) (made : MadeObject) → IsTyped m g → slice_get p.make_objects i ≡ Some made →
    object_numbered (step g p) (g.next_object + i) ≡ Some (record { number = g.next_object + i; name = hash_name (g.next_name + i); class = made.class; slots = made.slots })
objects-come m g p i made t at =
    let n : ℕ = g.next_object + i in
    let none : object_numbered g n ≡ None = Rise_past (λ o. o.number) 0 g.objects g.next_object n t.objects_rise (omega arith) in
    let new = among_objects g.next_object g.next_name i p.make_objects made at in
    subst (λ (o : Option Object). o ≡ Some (object_made n (g.next_name + i) made)) (sym (object_numbered-step g p n)) (elim (cases_Bool (has p.drop_objects n)) [ inl d ↦ rw d new | inr d ↦ rw (d, none) new ])

pub edges-come : (m : Metamodel) (g : Graph) (p : Plan) (i : ℕ) (made : MadeEdge) → IsTyped m g → slice_get p.make_edges i ≡ Some made →
    edge_numbered (step g p) (g.next_edge + i) ≡ Some (record { number = g.next_edge + i; source = number_of g.next_object made.source; reference = made.reference; target = number_of g.next_object made.target })
edges-come m g p i made t at =
    let n : ℕ = g.next_edge + i in
    let none : edge_numbered g n ≡ None = Rise_past (λ e. e.number) 0 g.edges g.next_edge n t.edges_rise (omega arith) in
    let new = among_edges g.next_object g.next_edge i p.make_edges made at in
    subst (λ (e : Option Edge). e ≡ Some (edge_made g.next_object n made)) (sym (edge_numbered-step g p n)) (elim (cases_Bool (has p.drop_edges n)) [ inl d ↦ rw d new | inr d ↦ rw (d, none) new ])

-- The first write to a slot is the only one.
found_write : (ws : List Write) (k : ℕ) (w : Write) → EachPair (λ u v. (u.object ≡ v.object) × (u.slot ≡ v.slot) → ⊥) ws → slice_get ws k ≡ Some w → find (is_to w.object w.slot) ws ≡ Some w
found_write [] k w d e = absurd (none-some w e)
found_write (u ∷ ws) zero w d e =
    let same : u ≡ w = same_Some u w e in
    let own : eqb w.object w.object ≡ true = eq-eqb w.object w.object refl in
    subst (λ (v : Write). find (is_to w.object w.slot) (v ∷ ws) ≡ Some w) (sym same) (rw (own, is_kind-itself w.slot) refl)
found_write (u ∷ ws) (suc k) w d e =
    let other : is_to w.object w.slot u ≡ false = false_from_ne_true (is_to w.object w.slot u) (λ h.
    let both = and_parts (eqb u.object w.object) (is_kind u.slot w.slot) h in
    All-at (λ (v : Write). (u.object ≡ v.object) × (u.slot ≡ v.slot) → ⊥) ws k w d.0 e (eqb-true u.object w.object both.0, is_kind-same u.slot w.slot both.1)) in
    rw other (found_write ws k w d.1 e)

-- A slot that is there has the value of the write to it.
written_in : (ws : List Write) (n a : ℕ) (w : Write) (ss : List Slot) → find (is_to n (Attribute a)) ws ≡ Some w → IsSome (value_in a ss) → value_in a (map (slot_after ws n) ss) ≡ Some w.value
written_in ws n a w [] h there = absurd (false≢true there)
written_in ws n a w (s ∷ ss) h there = elim (cases_Bool (eqb s.attribute a)) [
  | inl q ↦ let here : find (is_to n (Attribute s.attribute)) ws ≡ Some w = subst (λ (b : ℕ). find (is_to n (Attribute b)) ws ≡ Some w) (sym (eqb-true s.attribute a q)) h in rw (q, here) refl
  | inr q ↦ rw q (written_in ws n a w ss h (rw q at there))
]

values_at : (g : Graph) (p : Plan) (k : ℕ) (w : Write) (slot : SlotKind) (o : Option Object) → object_numbered g w.object ≡ o → has p.drop_objects w.object ≡ false → find (is_to w.object slot) p.writes ≡ Some w →
    IsSome (value_at g w.object slot) → value_at (step g p) w.object slot ≡ Some w.value
values_at g p k w (Link r) o e d h there = absurd (false≢true there)
values_at g p k w Container o e d h there = absurd (false≢true there)
values_at g p k w (Attribute a) None e d h there = absurd (false≢true (rw e at there))
values_at g p k w (Attribute a) (Some x) e d h there =
    let at : object_numbered (step g p) w.object ≡ Some (object_after p.writes x) = object-stays g p w.object x d e in
    let same : x.number ≡ w.object = eqb-true x.number w.object (find-passes (λ o. eqb o.number w.object) g.objects x e) in
    rw at (subst (λ (n : ℕ). value_in a (map (slot_after p.writes n) x.slots) ≡ Some w.value) (sym same) (written_in p.writes w.object a w x.slots h (rw e at there)))

pub values-come : (m : Metamodel) (g : Graph) (p : Plan) (k : ℕ) (w : Write) → Fits m g p → slice_get p.writes k ≡ Some w → value_at (step g p) w.object w.slot ≡ Some w.value
values-come m g p k w f at =
    let stands = All-at (λ (v : Write). IsSome (value_at g v.object v.slot) × (has p.drop_objects v.object ≡ false)) p.writes k w f.slots_stand at in
    values_at g p k w w.slot (object_numbered g w.object) refl stands.1 (found_write p.writes k w f.slots_differ at) stands.0
