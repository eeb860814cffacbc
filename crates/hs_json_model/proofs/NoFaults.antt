-- The written objects of a typed graph that can be written have no fault.
use Rattle.std.proofs.Common.{ℕ, suc, ◌+◌, ◌<◌, ◌≤◌, ◌≡◌, ◌++◌, List, [], ◌∷◌, Bool, true, false, not, cond, map, length, take, eqb, ltb, nat_lt, is_some, Option, Some, None, IsSomeAnd, slice_get, refl, ap, sym, ◌∙◌, subst, arith, rules, add-zero, zero-add}
use Rattle.std.proofs.lemmas.Bool.{eqb-true, false≢true}
use Rattle.std.proofs.lemmas.List.Elements.{All-filter}
use Rattle.std.proofs.lemmas.Option.{none-some, slice_get-map, slice_get_within}
use Rattle.std.specs.List.{All, filter, find, position, position_or_len}
use Rattle.std.specs.Option.{option_and_then, option_map, option_map_or, unwrap_or}
use Rattle.hs_expr.specs.Verdict.{each, each_from, fault_if}
use Rattle.hs_types.specs.declared.graph.Edge.{Edge}
use Rattle.hs_types.specs.declared.graph.Graph.{Graph}
use Rattle.hs_types.specs.declared.graph.Object.{Object}
use Rattle.hs_types.specs.declared.graph.Slot.{Slot}
use Rattle.hs_types.specs.declared.meta.Class.{Class}
use Rattle.hs_types.specs.declared.meta.Feature.{Feature}
use Rattle.hs_types.specs.declared.meta.Metamodel.{Metamodel}
use Rattle.hs_expr.specs.Lists.{has, same_text}
use Rattle.hs_types.specs.Metamodel.{Conforms, IsConcrete, IsMeta, attributes_of, class_at, feature_at, features_of, fits, is_attribute, target_of, type_of, type_of_kind}
use Rattle.hs_types.specs.TypedGraph.{CanJoin, IsOf, IsTyped, object_numbered}
use Rattle.hs_expr.proofs.Lists.{All-by_has, All-kept, All-of_map}
use Rattle.hs_graph.specs.declared.edges.Link.{Link}
use Rattle.hs_graph.specs.declared.fault.GraphPlace.{GraphPlace}
use Rattle.hs_graph.specs.declared.fault.GraphPlace.TheVariants as place
use Rattle.hs_graph.specs.declared.raw.RawObject.{RawObject}
use Rattle.hs_graph.specs.declared.raw.RawValue.TheVariants.{Given}
use Rattle.hs_graph.specs.Faults.{attr_faults, attr_faults_at, object_class_faults, object_class_faults_at, graph_faults, is_abstract, is_short, known_class_faults, leads_to, many_edges, many_objects, name_faults, name_faults_at, reach_faults, ref_faults, ref_faults_at, takes, target_faults_at, targets_faults, value_faults}
use Rattle.hs_graph.specs.Lookups.{attribute_named, class_of_object, classes_of_objects, is_reference, object_names, place_of}
use Rattle.hs_graph.specs.Names.{is_object_name}
use Rattle.hs_types.proofs.Conforming.{conforms_from}
use Rattle.hs_expr.proofs.Items.{is_some-position, has-filter, All-at}
use Rattle.hs_json_model.specs.Renumbered.{IsWritable, edges_by, links_by_place}
use Rattle.hs_json_model.specs.Written.{feature_name, name_in}
use Rattle.hs_graph.specs.Problems.{edges_leaving}
use Rattle.hs_json_model.proofs.FormBack.{attr_written, attrs_written, is_used, object_written, ref_written, refs_written, targets_at}
use Rattle.hs_json_model.proofs.NamesBack.{feature_back, none_before}
use Rattle.hs_json_model.proofs.Sorted.{all_sorted, sorted}
use Rattle.hs_json_model.proofs.Counted.{links_few}
use Rattle.hs_json_model.proofs.LinksBack.{Joins, all_links_back, class_found, class_written, classes_concrete, classes_written, names_written, place_back, target_there, used_is}
use Rattle.hs_json_model.proofs.MeantBack.{length_written}
use Rattle.hs_json_model.proofs.RefsBack.{reference_there}
use Rattle.hs_expr.proofs.Clean.{both_empty}

-- ---- nothing is found

each_none : {X E : Type 0} (finds : ℕ → X → List E) (n : ℕ) (xs : List X) → ((k : ℕ) (x : X) → slice_get xs k ≡ Some x → finds (n + k) x ≡ []) → each_from finds n xs ≡ []
each_none finds n [] h = refl
each_none {X} {E} finds n (x ∷ xs) h =
    let here : finds n x ≡ [] = ap (λ i. finds i x) (sym (add-zero n)) ∙ h 0 x refl in
    nothing (finds n x) (each_from finds (n + 1) xs) here
    (each_none finds (n + 1) xs (λ k y at. ap (λ i. finds i y) (later k) ∙ h (suc k) y at))
  where
    later : (k : ℕ) → n + 1 + k ≡ n + suc k
    later k = omega arith

    nothing : (a b : List E) → a ≡ [] → b ≡ [] → a ++ b ≡ []
    nothing a b e f = rw (e, f) refl

-- Nothing is found where nothing is found at any item.
none_each : {X E : Type 0} (finds : ℕ → X → List E) (xs : List X) → ((k : ℕ) (x : X) → slice_get xs k ≡ Some x → finds k x ≡ []) → each finds xs ≡ []
none_each finds xs h = each_none finds 0 xs (λ k x at. ap (λ i. finds i x) (zero-add k) ∙ h k x at)

each_mapped : {X Y E : Type 0} (finds : ℕ → Y → List E) (f : X → Y) (n : ℕ) (xs : List X) → each_from finds n (map f xs) ≡ each_from (λ i x. finds i (f x)) n xs
each_mapped finds f n [] = refl
each_mapped {X} {Y} {E} finds f n (x ∷ xs) = ap (λ (es : List E). finds n (f x) ++ es) (each_mapped finds f (n + 1) xs)

-- The same over a list of what a function gives.
none_mapped : {X Y E : Type 0} (finds : ℕ → Y → List E) (f : X → Y) (xs : List X) → ((k : ℕ) (x : X) → slice_get xs k ≡ Some x → finds k (f x) ≡ []) → each finds (map f xs) ≡ []
none_mapped finds f xs h = each_mapped finds f 0 xs ∙ none_each (λ i x. finds i (f x)) xs h

fine : {E : Type 0} (b : Bool) (f : E) → b ≡ false → fault_if b f ≡ []
fine b f e = rw e refl

not_true : (b : Bool) → b ≡ true → not b ≡ false
not_true b e = rw e refl

within_limit : (most n : ℕ) → n ≤ most → nat_lt most n ≡ false
within_limit most n h = grind (arith, rules)

-- ---- objects, names and classes

few : (m : Metamodel) (g : Graph) → IsWritable g → many_objects (map (object_written m g) g.objects) ≡ []
few m g writable = fine _ _ (ap (nat_lt 200000) (length_written m g g.objects) ∙ within_limit 200000 (length g.objects) writable.objects)

named : (m : Metamodel) (g : Graph) → IsTyped m g → IsWritable g → name_faults (map (object_written m g) g.objects) ≡ []
named m g typed writable = none_mapped (name_faults_at ws) (object_written m g) g.objects each_name
  where
    ws : List RawObject
    ws = map (object_written m g) g.objects

    each_name : (k : ℕ) (o : Object) → slice_get g.objects k ≡ Some o → name_faults_at ws k (object_written m g o) ≡ []
    each_name k o at =
        both_empty _ _ (fine _ _ (not_true (is_object_name o.name) (All-at (λ (o : Object). is_object_name o.name ≡ true) g.objects k o writable.names at)))
        (fine _ _
        (ap (λ (ns : List (List ℕ)). is_some (place_of (take k ns) o.name)) (names_written m g g.objects)
        ∙ is_some-position (same_text o.name) (take k (map (λ (o : Object). o.name) g.objects))
        ∙ none_before (map (λ (o : Object). o.name) g.objects) k o.name typed.names_differ (slice_get-map (λ (o : Object). o.name) g.objects k ∙ ap (option_map (λ (o : Object). o.name)) at)))

not_abstract : (m : Metamodel) (c : ℕ) → IsConcrete m c → is_abstract m c ≡ false
not_abstract m c concrete = go (class_at m c) concrete
  where
    go : (o : Option Class) → IsSomeAnd o (λ class. class.is_abstract ≡ false) → option_map_or (λ (class : Class). class.is_abstract) o false ≡ false
    go None is = absurd is
    go (Some class) is = is

classed : (m : Metamodel) (g : Graph) → IsMeta m → IsTyped m g → object_class_faults m (map (object_written m g) g.objects) ≡ []
classed m g is typed = none_mapped (object_class_faults_at m) (object_written m g) g.objects each_class
  where
    each_class : (k : ℕ) (o : Object) → slice_get g.objects k ≡ Some o → object_class_faults_at m k (object_written m g o) ≡ []
    each_class k o at =
        let concrete = All-at (λ (o : Object). IsConcrete m o.class) g.objects k o (classes_concrete m g typed) at in
        ap (known_class_faults m k) (class_found m o.class is concrete) ∙ fine _ _ (not_abstract m o.class concrete)

-- ---- values

attribute_there : (m : Metamodel) (f : ℕ) → is_some (type_of m f) ≡ true → (feature : Feature) × (feature_at m f ≡ Some feature) × (is_attribute feature ≡ true)
attribute_there m f t = go (feature_at m f) refl
  where
    go : (o : Option Feature) → feature_at m f ≡ o → (feature : Feature) × (feature_at m f ≡ Some feature) × (is_attribute feature ≡ true)
    go None at = absurd (false≢true (sym (ap (λ (o : Option Feature). is_some (option_and_then (λ (feature : Feature). type_of_kind feature.kind) o)) at) ∙ t))
    go (Some feature) at = (feature, at, sym (ap (λ (o : Option Feature). is_some (option_and_then (λ (feature : Feature). type_of_kind feature.kind) o)) at) ∙ t)

-- The slot's attribute is found by its name, and takes the slot's value.
record SlotFine (m : Metamodel) (c : ℕ) (slot : Slot) : Type 0 where
  found : attribute_named m c (feature_name m slot.attribute) ≡ Some slot.attribute
  fitting : fits m slot.attribute slot.value ≡ true
  short : is_short slot.value ≡ true

slots_found : (m : Metamodel) (c : ℕ) (slots : List Slot) → IsMeta m → map (λ (slot : Slot). slot.attribute) slots ≡ attributes_of m c → All (λ (slot : Slot). attribute_named m c (feature_name m slot.attribute) ≡ Some slot.attribute) slots
slots_found m c slots is whole =
    All-of_map (λ f. attribute_named m c (feature_name m f) ≡ Some f) (λ (slot : Slot). slot.attribute) slots
    (subst (λ (ns : List ℕ). All (λ f. attribute_named m c (feature_name m f) ≡ Some f) ns) (sym whole)
    (All-by_has (λ f. attribute_named m c (feature_name m f) ≡ Some f) (attributes_of m c) each_found))
  where
    each_found : (f : ℕ) → has (attributes_of m c) f ≡ true → attribute_named m c (feature_name m f) ≡ Some f
    each_found f h =
        let own = has-filter (λ f. is_some (type_of m f)) (features_of m c) f h in
        let there = attribute_there m f own.1 in
        feature_back m c is_attribute f there.0 is own.0 there.1 there.2

slots_fine : (m : Metamodel) (c : ℕ) (slots : List Slot) → IsMeta m → map (λ (slot : Slot). slot.attribute) slots ≡ attributes_of m c → All (λ (slot : Slot). fits m slot.attribute slot.value ≡ true) slots → All (λ (slot : Slot). is_short slot.value ≡ true) slots → All (SlotFine m c) slots
slots_fine m c slots is whole fit short = λ i d h. record { found = slots_found m c slots is whole i d h; fitting = fit i d h; short = short i d h }

slot_fine : (m : Metamodel) (c i a : ℕ) (slot : Slot) → SlotFine m c slot → attr_faults_at m c i a (attr_written m slot) ≡ []
slot_fine m c i a slot h = ap (value_faults m i a (Given slot.value)) h.found ∙ fine _ _ (not_true (takes m slot.attribute (Given slot.value)) (rw (h.fitting, h.short) refl))

slots_clean : (m : Metamodel) (c i : ℕ) (slots : List Slot) → All (SlotFine m c) slots → each (attr_faults_at m c i) (attrs_written m slots) ≡ []
slots_clean m c i slots all =
    none_mapped (attr_faults_at m c i) (attr_written m) (sorted (λ (slot : Slot). feature_name m slot.attribute) slots)
    (λ a slot at. slot_fine m c i a slot (All-at (SlotFine m c) (sorted (λ (slot : Slot). feature_name m slot.attribute) slots) a slot (all_sorted (SlotFine m c) (λ (slot : Slot). feature_name m slot.attribute) slots all) at))

valued : (m : Metamodel) (g : Graph) → IsMeta m → IsTyped m g → IsWritable g → attr_faults m (map (object_written m g) g.objects) ≡ []
valued m g is typed writable = none_mapped (λ i object. each (attr_faults_at m (class_of_object m object) i) object.attrs) (object_written m g) g.objects each_object
  where
    each_object : (k : ℕ) (o : Object) → slice_get g.objects k ≡ Some o → each (attr_faults_at m (class_of_object m (object_written m g o)) k) (attrs_written m o.slots) ≡ []
    each_object k o at =
        let fit = All-at (λ (o : Object). IsConcrete m o.class × (map (λ (slot : Slot). slot.attribute) o.slots ≡ attributes_of m o.class) × All (λ (slot : Slot). fits m slot.attribute slot.value ≡ true) o.slots) g.objects k o typed.objects_fit at in
        let short = All-at (λ (o : Object). All (λ (slot : Slot). is_short slot.value ≡ true) o.slots) g.objects k o writable.texts at in
        ap (λ (c : ℕ). each (attr_faults_at m c k) (attrs_written m o.slots)) (class_written m g o is fit.0)
        ∙ slots_clean m o.class k o.slots (slots_fine m o.class o.slots is fit.1 fit.2 short)

-- ---- targets

pub place_found : {A : Type 0} (p : A → Bool) (xs : List A) (x : A) → find p xs ≡ Some x → (slice_get xs (position_or_len p xs) ≡ Some x) × (position p xs ≡ Some (position_or_len p xs))
place_found {A} p xs x e = let at = stands xs e in (at, rw (below_true (position_or_len p xs) (length xs) (slice_get_within xs (position_or_len p xs) x at)) refl)
  where
    below_true : (i n : ℕ) → i < n → ltb i n ≡ true
    below_true i n h = grind (arith, rules)

    stands : (xs : List A) → find p xs ≡ Some x → slice_get xs (position_or_len p xs) ≡ Some x
    stands [] e = absurd (none-some x e)
    stands (y ∷ ys) e = go (p y) refl e (stands ys)
      where
        go : (b : Bool) → p y ≡ b → cond b (Some y) (find p ys) ≡ Some x → (find p ys ≡ Some x → slice_get ys (position_or_len p ys) ≡ Some x) → slice_get (y ∷ ys) (position_or_len p (y ∷ ys)) ≡ Some x
        go true s f rest = rw s f
        go false s f rest = rw s (ap (slice_get (y ∷ ys)) (next (position_or_len p ys)) ∙ rest f)
          where
            next : (n : ℕ) → 1 + n ≡ suc n
            next n = omega arith

leads : (m : Metamodel) (classes : List ℕ) (f t c class : ℕ) → slice_get classes t ≡ Some c → target_of m f ≡ Some class → Conforms m c class → leads_to m classes f t ≡ true
leads m classes f t c class at target conform = rw (at, target) (conforms_from m c class conform)

-- The class that the reference leads to, to which the target's conforms.
join_conforms : (m : Metamodel) (g : Graph) (e : Edge) (o : Object) → CanJoin m g e.source e.reference e.target → object_numbered g e.target ≡ Some o → (class : ℕ) × (target_of m e.reference ≡ Some class) × Conforms m o.class class
join_conforms m g e o join at = go (target_of m e.reference) refl join.1
  where
    go : (t : Option ℕ) → target_of m e.reference ≡ t → IsSomeAnd t (λ class. IsOf m g class e.target) → (class : ℕ) × (target_of m e.reference ≡ Some class) × Conforms m o.class class
    go None s is = absurd is
    go (Some class) s is = (class, s, subst (λ (x : Option Object). IsSomeAnd x (λ object. Conforms m object.class class)) at is)

edge_fine : (m : Metamodel) (g : Graph) (f : ℕ) (p : GraphPlace) (e : Edge) → IsTyped m g → (e.reference ≡ f) × Joins m g e →
    reach_faults m (map (λ (o : Object). o.class) g.objects) f p (place_of (map (λ (o : Object). o.name) g.objects) (name_in g e.target)) ≡ []
edge_fine m g f p e typed h =
    let there = target_there m g e h.1 in
    let o = there.0 in
    let spot = place_found (λ (o : Object). eqb o.number e.target) g.objects o there.1 in
    let t = position_or_len (λ (o : Object). eqb o.number e.target) g.objects in
    let name : name_in g e.target ≡ o.name = name_of o there.1 in
    let to = join_conforms m g e o h.1 there.1 in
    ap (reach_faults m (map (λ (o : Object). o.class) g.objects) f p) (ap (place_of (map (λ (o : Object). o.name) g.objects)) name ∙ place_back g.objects e.target o typed.names_differ there.1 ∙ spot.1)
    ∙ fine _ _ (not_true (leads_to m (map (λ (o : Object). o.class) g.objects) f t) (leads m (map (λ (o : Object). o.class) g.objects) f t o.class to.0 (slice_get-map (λ (o : Object). o.class) g.objects t ∙ ap (option_map (λ (o : Object). o.class)) spot.0) (ap (target_of m) (sym h.0) ∙ to.1) to.2))
  where
    name_of : (o : Object) → object_numbered g e.target ≡ Some o → name_in g e.target ≡ o.name
    name_of o at = ap (λ (o : Option Object). unwrap_or (option_map (λ (o : Object). o.name) o) []) at

edges_fine : (m : Metamodel) (g : Graph) (f i r : ℕ) (es : List Edge) → IsTyped m g → All (λ (e : Edge). (e.reference ≡ f) × Joins m g e) es →
    each (target_faults_at m (map (λ (o : Object). o.name) g.objects) (map (λ (o : Object). o.class) g.objects) f i r) (map (λ (e : Edge). name_in g e.target) es) ≡ []
edges_fine m g f i r es typed all =
    none_mapped (target_faults_at m (map (λ (o : Object). o.name) g.objects) (map (λ (o : Object). o.class) g.objects) f i r) (λ (e : Edge). name_in g e.target) es
    (λ k e at. edge_fine m g f (place.Target i r k) e typed (All-at (λ (e : Edge). (e.reference ≡ f) × Joins m g e) es k e all at))

ref_fine : (m : Metamodel) (g : Graph) (o : Object) (i r f : ℕ) → IsMeta m → IsTyped m g → has (features_of m o.class) f ≡ true → is_used (targets_at g o f) ≡ true →
    ref_faults_at m (map (λ (o : Object). o.name) g.objects) (map (λ (o : Object). o.class) g.objects) o.class i r (ref_written m (targets_at g o) f) ≡ []
ref_fine m g o i r f is typed h u =
    let there = reference_there m f (used_is m g o typed f u) in
    ap (targets_faults m (map (λ (o : Object). o.name) g.objects) (map (λ (o : Object). o.class) g.objects) i r (targets_at g o f)) (feature_back m o.class is_reference f there.0 is h there.1 there.2)
    ∙ edges_fine m g f i r (edges_by (edges_leaving g o.number) f) typed
    (All-kept (Joins m g) (λ (e : Edge). (e.reference ≡ f) × Joins m g e) (λ (e : Edge). eqb e.reference f) (edges_leaving g o.number) (λ e s j. (eqb-true e.reference f s, j))
    (All-filter (λ (e : Edge). eqb e.source o.number) (Joins m g) g.edges typed.edges_fit))

refs_fine : (m : Metamodel) (g : Graph) (o : Object) (i : ℕ) → IsMeta m → IsTyped m g →
    each (ref_faults_at m (map (λ (o : Object). o.name) g.objects) (map (λ (o : Object). o.class) g.objects) o.class i) (refs_written m (targets_at g o) (features_of m o.class)) ≡ []
refs_fine m g o i is typed =
    none_mapped (ref_faults_at m (map (λ (o : Object). o.name) g.objects) (map (λ (o : Object). o.class) g.objects) o.class i) (ref_written m (targets_at g o)) (sorted (feature_name m) used)
    (λ r f at. let own = All-at Own (sorted (feature_name m) used) r f (all_sorted Own (feature_name m) used (All-by_has Own used (λ k t. has-filter (λ f. is_used (targets_at g o f)) (features_of m o.class) k t))) at in ref_fine m g o i r f is typed own.0 own.1)
  where
    used : List ℕ
    used = filter (λ f. is_used (targets_at g o f)) (features_of m o.class)

    Own : ℕ → Type 0
    Own f = (has (features_of m o.class) f ≡ true) × (is_used (targets_at g o f) ≡ true)

joined : (m : Metamodel) (g : Graph) → IsMeta m → IsTyped m g → ref_faults m (map (object_written m g) g.objects) ≡ []
joined m g is typed =
    none_mapped (λ i object. each (ref_faults_at m (object_names ws) (classes_of_objects m ws) (class_of_object m object) i) object.refs) (object_written m g) g.objects each_object
  where
    ws : List RawObject
    ws = map (object_written m g) g.objects

    each_object : (k : ℕ) (o : Object) → slice_get g.objects k ≡ Some o → each (ref_faults_at m (object_names ws) (classes_of_objects m ws) (class_of_object m (object_written m g o)) k) (refs_written m (targets_at g o) (features_of m o.class)) ≡ []
    each_object k o at =
        let refs = refs_written m (targets_at g o) (features_of m o.class) in
        let concrete = All-at (λ (o : Object). IsConcrete m o.class) g.objects k o (classes_concrete m g typed) at in
        ap (λ (c : ℕ). each (ref_faults_at m (object_names ws) (classes_of_objects m ws) c k) refs) (class_written m g o is concrete)
        ∙ ap (λ (ns : List (List ℕ)). each (ref_faults_at m ns (classes_of_objects m ws) o.class k) refs) (names_written m g g.objects)
        ∙ ap (λ (cs : List ℕ). each (ref_faults_at m (map (λ (o : Object). o.name) g.objects) cs o.class k) refs) (classes_written m g g.objects is (classes_concrete m g typed))
        ∙ refs_fine m g o k is typed

few_edges : (m : Metamodel) (g : Graph) → IsMeta m → IsTyped m g → IsWritable g → many_edges m (map (object_written m g) g.objects) ≡ []
few_edges m g is typed writable =
    let counted = links_few m g is typed in
    let most = writable.edges in
    fine _ _ (ap (λ (ls : List Link). nat_lt 400000 (length ls)) (all_links_back m g is typed) ∙ within_limit 400000 (length (links_by_place m g 0 g.objects)) (omega (arith, counted, most)))

-- No check finds a fault.
pub no_faults : (m : Metamodel) (g : Graph) → IsMeta m → IsTyped m g → IsWritable g → graph_faults m (map (object_written m g) g.objects) ≡ []
no_faults m g is typed writable =
    let names = both_empty _ _ (few m g writable) (named m g typed writable) in
    let classes = both_empty _ _ names (classed m g is typed) in
    let values = both_empty _ _ classes (valued m g is typed writable) in
    both_empty _ _ (both_empty _ _ values (joined m g is typed)) (few_edges m g is typed writable)
