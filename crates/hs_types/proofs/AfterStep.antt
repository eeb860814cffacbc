-- What is in the graph after a step.
use Rattle.std.proofs.Common.{ℕ, ◌+◌, ◌<◌, ◌≡◌, inl, inr, List, [], ◌∷◌, map, length, Bool, true, false, cond, not, eqb, Option, Some, None, IsSomeAnd, refl, sym, ap, ◌∙◌, subst, arith}
use Rattle.std.specs.List.{All, filter, find, list_any}
use Rattle.std.specs.Option.{option_map, option_or}
use Rattle.std.proofs.lemmas.Bool.{eqb-true, cases_Bool, cond-true, or_parts}
use Rattle.std.proofs.lemmas.List.Elements.{All-head, All-tail}
use Rattle.std.proofs.lemmas.List.Folds.{find-append}
use Rattle.hs_types.specs.declared.graph.Edge.{Edge}
use Rattle.hs_types.specs.declared.graph.Graph.{Graph}
use Rattle.hs_types.specs.declared.graph.Object.{Object}
use Rattle.hs_types.specs.declared.graph.Slot.{Slot}
use Rattle.hs_types.specs.declared.meta.Metamodel.{Metamodel}
use Rattle.hs_types.specs.declared.plan.MadeEdge.{MadeEdge}
use Rattle.hs_types.specs.Plan.{MadeObject, Plan}
use Rattle.hs_types.specs.declared.plan.Write.{Write}
use Rattle.hs_types.specs.declared.rule.SlotKind.{SlotKind}
use Rattle.hs_types.specs.declared.rule.SlotKind.TheVariants.{Attribute, Link, Container}
use Rattle.hs_expr.specs.Lists.{has, Rise}
use Rattle.hs_types.specs.Metamodel.{Conforms}
use Rattle.hs_types.specs.TypedGraph.{object_numbered, edge_numbered, name_at, value_in, value_at, Stands, IsOf}
use Rattle.hs_types.specs.Step.{is_to, slot_after, object_after, new_objects, new_edges, step}
use Rattle.hs_expr.proofs.Lists.{find-passes, find-map, Rise_missing}

-- What is found among those that are not dropped.
pub find-kept : {A : Type 0} (f : A → ℕ) (drops : List ℕ) (xs : List A) (n : ℕ) → find (λ x. eqb (f x) n) (filter (λ x. not (has drops (f x))) xs) ≡ cond (has drops n) None (find (λ x. eqb (f x) n) xs)
find-kept f drops [] n = elim (cases_Bool (has drops n)) [ inl e ↦ rw e refl | inr e ↦ rw e refl ]
find-kept f drops (x ∷ xs) n = elim (cases_Bool (eqb (f x) n)) [
  | inl e ↦ let same : f x ≡ n = eqb-true (f x) n e in elim (cases_Bool (has drops n)) [
    | inl d ↦ let d' : has drops (f x) ≡ true = ap (has drops) same ∙ d in rw (d', d) (find-kept f drops xs n ∙ cond-true (has drops n) None (find (λ x. eqb (f x) n) xs) d)
    | inr d ↦ let d' : has drops (f x) ≡ false = ap (has drops) same ∙ d in rw (d', d, e) refl
  ]
  | inr e ↦ elim (cases_Bool (has drops (f x))) [
    | inl d ↦ rw (d, e) (find-kept f drops xs n)
    | inr d ↦ rw (d, e) (find-kept f drops xs n)
  ]
]

-- The object, and the edge, at a number after the step.
pub object_numbered-step : (g : Graph) (p : Plan) (n : ℕ) → object_numbered (step g p) n ≡ option_or (option_map (object_after p.writes) (cond (has p.drop_objects n) None (object_numbered g n))) (find (λ object. eqb object.number n) (new_objects g.next_object g.next_name p.make_objects))
object_numbered-step g p n =
    let q : Object → Bool = λ o. eqb o.number n in
    let kept = filter (λ o. not (has p.drop_objects o.number)) g.objects in
    let made = new_objects g.next_object g.next_name p.make_objects in
    find-append q (map (object_after p.writes) kept) made ∙ ap (λ o. option_or o (find q made)) (find-map q (object_after p.writes) kept ∙ ap (option_map (object_after p.writes)) (find-kept (λ o. o.number) p.drop_objects g.objects n))

pub edge_numbered-step : (g : Graph) (p : Plan) (n : ℕ) → edge_numbered (step g p) n ≡ option_or (cond (has p.drop_edges n) None (edge_numbered g n)) (find (λ edge. eqb edge.number n) (new_edges g.next_object g.next_edge p.make_edges))
edge_numbered-step g p n =
    let q : Edge → Bool = λ e. eqb e.number n in
    let kept = filter (λ e. not (has p.drop_edges e.number)) g.edges in
    let made = new_edges g.next_object g.next_edge p.make_edges in
    find-append q kept made ∙ ap (λ o. option_or o (find q made)) (find-kept (λ e. e.number) p.drop_edges g.edges n)

-- An object that is not dropped stays, with all but its values.
pub object-kept : (P : Object → Type 0) (g : Graph) (p : Plan) → ((o : Object) → P o → P (object_after p.writes o)) → (n : ℕ) → has p.drop_objects n ≡ false → IsSomeAnd (object_numbered g n) P → IsSomeAnd (object_numbered (step g p) n) P
object-kept P g p f n d h =
    let made : Option Object = find (λ o. eqb o.number n) (new_objects g.next_object g.next_name p.make_objects) in
    subst (λ (o : Option Object). IsSomeAnd o P) (sym (object_numbered-step g p n)) (rw d (stays (object_numbered g n) made h))
  where
    stays : (o made : Option Object) → IsSomeAnd o P → IsSomeAnd (option_or (option_map (object_after p.writes) o) made) P
    stays None made h = absurd h
    stays (Some x) made h = f x h

pub Stands-kept : (P : ℕ → Type 0) (g : Graph) (p : Plan) (n : ℕ) → has p.drop_objects n ≡ false → Stands g P n → Stands (step g p) P n
Stands-kept P g p n d h = object-kept (λ o. P o.class) g p (λ o k. k) n d h

pub name_at-kept : (g : Graph) (p : Plan) (n : ℕ) (name : List ℕ) → has p.drop_objects n ≡ false → name_at g n ≡ Some name → name_at (step g p) n ≡ Some name
name_at-kept g p n name d h =
    let made : Option Object = find (λ o. eqb o.number n) (new_objects g.next_object g.next_name p.make_objects) in
    subst (λ (o : Option Object). option_map (λ object. object.name) o ≡ Some name) (sym (object_numbered-step g p n)) (rw d (stays (object_numbered g n) made h))
  where
    stays : (o made : Option Object) → option_map (λ object. object.name) o ≡ Some name → option_map (λ object. object.name) (option_or (option_map (object_after p.writes) o) made) ≡ Some name
    stays None made h = absurd (cc)
    stays (Some x) made h = h

-- An edge that is not dropped stays.
pub edge_numbered-kept : (g : Graph) (p : Plan) (n : ℕ) (e : Edge) → has p.drop_edges n ≡ false → edge_numbered g n ≡ Some e → edge_numbered (step g p) n ≡ Some e
edge_numbered-kept g p n e d h = rw (edge_numbered-step g p n, d, h) refl

-- A slot that is not written keeps its value.
pub value_at-kept : (g : Graph) (p : Plan) (n : ℕ) (slot : SlotKind) (x : Object) → has p.drop_objects n ≡ false → object_numbered g n ≡ Some x → list_any (is_to n slot) p.writes ≡ false → value_at (step g p) n slot ≡ value_at g n slot
value_at-kept g p n (Link r) x d h w = refl
value_at-kept g p n Container x d h w = refl
value_at-kept g p n (Attribute a) x d h w =
    let at : object_numbered (step g p) n ≡ Some (object_after p.writes x) = object_numbered-step g p n ∙ rw (d, h) refl in
    let same : x.number ≡ n = eqb-true x.number n (find-passes (λ o. eqb o.number n) g.objects x h) in
    rw (at, h) (subst (λ (k : ℕ). value_in a (map (slot_after p.writes k) x.slots) ≡ value_in a x.slots) (sym same) (in_slots x.slots))
  where
    unwritten : (ws : List Write) → list_any (is_to n (Attribute a)) ws ≡ false → find (is_to n (Attribute a)) ws ≡ None
    unwritten [] miss = refl
    unwritten (w ∷ ws) miss = let parts = or_parts (is_to n (Attribute a) w) (list_any (is_to n (Attribute a)) ws) miss in rw parts.0 (unwritten ws parts.1)

    in_slots : (ss : List Slot) → value_in a (map (slot_after p.writes n) ss) ≡ value_in a ss
    in_slots [] = refl
    in_slots (s ∷ ss) = elim (cases_Bool (eqb s.attribute a)) [
      | inl q ↦ let none : find (is_to n (Attribute s.attribute)) p.writes ≡ None = subst (λ (b : ℕ). find (is_to n (Attribute b)) p.writes ≡ None) (sym (eqb-true s.attribute a q)) (unwritten p.writes w) in rw (q, none) refl
      | inr q ↦ rw q (in_slots ss)
    ]

-- Made objects and edges rise from the next numbers on.
pub new_objects-rise : (n k : ℕ) (os : List MadeObject) → Rise n (map (λ o. o.number) (new_objects n k os)) (n + length os)
new_objects-rise n k [] = omega arith
new_objects-rise n k (o ∷ os) = let e : n + length (o ∷ os) ≡ (n + 1) + length os = omega arith in (omega arith, rw e (new_objects-rise (n + 1) (k + 1) os))

pub new_edges-rise : (next n : ℕ) (es : List MadeEdge) → Rise n (map (λ e. e.number) (new_edges next n es)) (n + length es)
new_edges-rise next n [] = omega arith
new_edges-rise next n (x ∷ es) = let e : n + length (x ∷ es) ≡ (n + 1) + length es = omega arith in (omega arith, rw e (new_edges-rise next (n + 1) es))

-- What is below the next number after the step was not dropped, and was before it.
pub Stands-old : (P : ℕ → Type 0) (g : Graph) (p : Plan) (n : ℕ) → n < g.next_object → Stands (step g p) P n → (has p.drop_objects n ≡ false) × Stands g P n
Stands-old P g p n l h =
    let made = new_objects g.next_object g.next_name p.make_objects in
    let none : find (λ o. eqb o.number n) made ≡ None = Rise_missing (λ o. o.number) g.next_object made (g.next_object + length p.make_objects) n l (new_objects-rise g.next_object g.next_name p.make_objects) in
    let Q : Option Object → Type 0 = λ o. IsSomeAnd o (λ o. P o.class) in
    back (has p.drop_objects n) (object_numbered g n) (rw none at (subst Q (object_numbered-step g p n) h))
  where
    back : (b : Bool) (o : Option Object) → IsSomeAnd (option_or (option_map (object_after p.writes) (cond b None o)) None) (λ o. P o.class) → (b ≡ false) × IsSomeAnd o (λ o. P o.class)
    back true o h = absurd h
    back false None h = absurd h
    back false (Some x) h = (refl, h)

pub edge-old : (g : Graph) (p : Plan) (n : ℕ) (e : Edge) → n < g.next_edge → edge_numbered (step g p) n ≡ Some e → edge_numbered g n ≡ Some e
edge-old g p n e l h =
    let made = new_edges g.next_object g.next_edge p.make_edges in
    let none : find (λ e. eqb e.number n) made ≡ None = Rise_missing (λ e. e.number) g.next_edge made (g.next_edge + length p.make_edges) n l (new_edges-rise g.next_object g.next_edge p.make_edges) in
    back (has p.drop_edges n) (edge_numbered g n) (ap (λ o. option_or (cond (has p.drop_edges n) None (edge_numbered g n)) o) (sym none) ∙ (sym (edge_numbered-step g p n) ∙ h))
  where
    back : (b : Bool) (o : Option Edge) → option_or (cond b None o) None ≡ Some e → o ≡ Some e
    back true o h = absurd (cc)
    back false None h = h
    back false (Some x) h = h

-- What is of a class that is not made was before.
pub object-unmade : (m : Metamodel) (g : Graph) (p : Plan) (class n : ℕ) → All (λ o. Conforms m o.class class → ⊥) p.make_objects → IsOf m (step g p) class n → (has p.drop_objects n ≡ false) × IsOf m g class n
object-unmade m g p class n none h =
    let P : Option Object → Type 0 = λ o. IsSomeAnd o (λ o. Conforms m o.class class) in
    back (has p.drop_objects n) (object_numbered g n) (find (λ o. eqb o.number n) (new_objects g.next_object g.next_name p.make_objects)) (unmade g.next_object g.next_name p.make_objects none) (subst P (object_numbered-step g p n) h)
  where
    unmade : (k j : ℕ) (os : List MadeObject) → All (λ o. Conforms m o.class class → ⊥) os → IsSomeAnd (find (λ o. eqb o.number n) (new_objects k j os)) (λ o. Conforms m o.class class) → ⊥
    unmade k j [] a h = h
    unmade k j (o ∷ os) a h = elim (cases_Bool (eqb k n)) [
      | inl e ↦ All-head (λ o. Conforms m o.class class → ⊥) o os a (rw e at h)
      | inr e ↦ unmade (k + 1) (j + 1) os (All-tail (λ o. Conforms m o.class class → ⊥) o os a) (rw e at h)
    ]

    back : (b : Bool) (o made : Option Object) → (IsSomeAnd made (λ o. Conforms m o.class class) → ⊥) → IsSomeAnd (option_or (option_map (object_after p.writes) (cond b None o)) made) (λ o. Conforms m o.class class) → (b ≡ false) × IsSomeAnd o (λ o. Conforms m o.class class)
    back true o made miss h = absurd (miss h)
    back false None made miss h = absurd (miss h)
    back false (Some x) made miss h = (refl, h)

-- An edge of a reference that is not made was before.
pub edge-unmade : (g : Graph) (p : Plan) (n : ℕ) (e : Edge) → All (λ m. m.reference ≡ e.reference → ⊥) p.make_edges → edge_numbered (step g p) n ≡ Some e → edge_numbered g n ≡ Some e
edge-unmade g p n e none h =
    back (has p.drop_edges n) (edge_numbered g n) (find (λ e. eqb e.number n) (new_edges g.next_object g.next_edge p.make_edges)) (unmade g.next_edge p.make_edges none) (sym (edge_numbered-step g p n) ∙ h)
  where
    unmade : (k : ℕ) (es : List MadeEdge) → All (λ m. m.reference ≡ e.reference → ⊥) es → find (λ e. eqb e.number n) (new_edges g.next_object k es) ≡ Some e → ⊥
    unmade k [] a h = absurd (cc)
    unmade k (m ∷ ms) a h = elim (cases_Bool (eqb k n)) [
      | inl e' ↦ All-head (λ m. m.reference ≡ e.reference → ⊥) m ms a (ap reference_of (rw e' at h))
      | inr e' ↦ unmade (k + 1) ms (All-tail (λ m. m.reference ≡ e.reference → ⊥) m ms a) (rw e' at h)
    ]
      where
        reference_of : Option Edge → ℕ
        reference_of None = 0
        reference_of (Some x) = x.reference

    back : (b : Bool) (o made : Option Edge) → (made ≡ Some e → ⊥) → option_or (cond b None o) made ≡ Some e → o ≡ Some e
    back true o made miss h = absurd (miss h)
    back false None made miss h = absurd (miss h)
    back false (Some x) made miss h = h
