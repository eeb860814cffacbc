-- The plan of a valid match fits its graph.
use Rattle.std.proofs.Common.{ℕ, ◌-◌, ◌≤◌, ◌≡◌, inl, inr, List, [], ◌∷◌, ◌++◌, map, length, Bool, true, false, not, ◌||◌, ◌&&◌, eqb, Option, Some, None, IsSomeAnd, IsSome, slice_get, Contains, refl, sym, ap, ◌∙◌, subst}
use Rattle.std.specs.List.{All, AllZip, filter, flat_map, list_any}
use Rattle.std.specs.Option.{option_map, option_and_then, is_some}
use Rattle.std.proofs.lemmas.Bool.{cases_Bool, both_ways, eq-eqb, not-true, and_from, or_left, or_right}
use Rattle.std.proofs.lemmas.List.Elements.{All-nil, All-cons, All-head, All-tail, All-append, All-weaker, All-contains, All-contains_itself}
use Rattle.hs_expr.specs.declared.value.Value.{Value}
use Rattle.hs_expr.specs.Evaluation.{Env, Scope, value_of}
use Rattle.hs_types.specs.declared.graph.Graph.{Graph}
use Rattle.hs_types.specs.declared.graph.Object.{Object}
use Rattle.hs_types.specs.declared.graph.Slot.{Slot}
use Rattle.hs_types.specs.declared.matching.Extension.{Extension}
use Rattle.hs_types.specs.declared.matching.Match.{Match}
use Rattle.hs_types.specs.declared.meta.Metamodel.{Metamodel}
use Rattle.hs_types.specs.declared.plan.Write.{Write}
use Rattle.hs_types.specs.declared.request.Args.{Args}
use Rattle.hs_types.specs.declared.rule.Mark.{Mark}
use Rattle.hs_types.specs.declared.rule.Mark.TheVariants.{Keep, Drop, Make}
use Rattle.hs_types.specs.declared.rule.PatternEdge.{PatternEdge}
use Rattle.hs_types.specs.declared.rule.PatternNode.{PatternNode}
use Rattle.hs_types.specs.declared.rule.PatternSlot.{PatternSlot}
use Rattle.hs_types.specs.declared.rule.Rule.{Rule}
use Rattle.hs_types.specs.declared.rule.SetItem.{SetItem}
use Rattle.hs_types.specs.declared.rule.SlotKind.{SlotKind}
use Rattle.hs_types.specs.declared.rule.SlotKind.TheVariants.{Attribute}
use Rattle.hs_types.specs.Conditions.{env_of}
use Rattle.hs_types.specs.Copies.{At, Copy, SparesCopy, copies_of, copy_env, images_of, nodes_of, slots_at, used_slots, written_slots, all_dropped_nodes}
use Rattle.hs_types.specs.Dangling.{dropped_edges, dropped_nodes}
use Rattle.hs_expr.specs.Lists.{has, Apart, Differ, EachPair}
use Rattle.hs_types.specs.Metamodel.{IsMeta, attributes_of}
use Rattle.hs_types.specs.Pattern.{is_drop, is_keep, is_kind, is_left, is_make, left_edges, left_nodes, node_is}
use Rattle.hs_types.specs.Plan.{Fits, copy_writes, plan_of, writes_of}
use Rattle.hs_types.specs.PlainMatch.{Extends, IsImage, image, kernel_of}
use Rattle.hs_types.specs.RuleForm.{EndFits, IsRule, SetFits, SetOnce, has_slot, is_among, reads_in, scope_of, slot_of_set, slots_read, slots_set}
use Rattle.hs_types.specs.TypedGraph.{AreSlotsOf, IsTyped, Stands, edge_numbered, object_numbered, value_at, value_in}
use Rattle.hs_types.specs.ValidMatch.{IsValid}
use Rattle.hs_laws.proofs.Classes.{Stands-down, attribute-down}
use Rattle.hs_laws.proofs.Images.{FitsNode, IsLeft, IsLeft-from, image-among, image-at, image-behind, image-injective, joined}
use Rattle.hs_types.proofs.Lookups.{object_there}
use Rattle.hs_types.proofs.SlotKinds.{is_kind-itself}
use Rattle.hs_laws.proofs.Kept.{has_slot-all}
use Rattle.hs_expr.proofs.Lists.{All-beside, All-both, All-filter_map, All-find, All-flat_map, All-kept, All-of_filter, All-of_map, All-one, AllZip-right, Differ-across, Differ-beside, Differ-not, EachPair-append, EachPair-filter, EachPair-filter_map, EachPair-flat_map, EachPair-known, EachPair-rest, EachPair-weaker, beside-has, has_cases, has-here, has-later, has_not, slice_get-last}
use Rattle.hs_laws.proofs.Planned.{left_or_made, not_dropped, plan-carries}
use Rattle.hs_laws.proofs.Staying.{CopyIs, CopyStays, copies_are, copies_stay, kernel_stays}
use Rattle.hs_types.proofs.TypedStep.{Carries}

-- What each image is, each dropped one is.
nodes_stand : (m : Metamodel) (g : Graph) (nodes : List PatternNode) (images : List ℕ) → AllZip (FitsNode m g) (left_nodes nodes) images → All (λ n. IsSome (object_numbered g n)) images
nodes_stand m g nodes images z = AllZip-right (FitsNode m g) (λ n. IsSome (object_numbered g n)) (λ node n k. let o = object_there m g node.class n k in ap is_some o.1) (left_nodes nodes) images z

edges_stand : (g : Graph) (at : ℕ → ℕ) (edges : List PatternEdge) (images : List ℕ) → AllZip (IsImage g at) (left_edges edges) images → All (λ n. IsSome (edge_numbered g n)) images
edges_stand g at edges images z = AllZip-right (IsImage g at) (λ n. IsSome (edge_numbered g n)) (λ edge n k. ap is_some k) (left_edges edges) images z

-- Numbers of two lists, some of either, differ where the lists are apart.
some_differ : (ms ns some : List ℕ) → Apart ms ns → ((k : ℕ) → has some k ≡ true → has ns k ≡ true) → All (λ m. All (λ n. m ≡ n → ⊥) some) ms
some_differ ms ns some a f = All-weaker (λ m. has ns m ≡ false) (λ m. All (λ n. m ≡ n → ⊥) some) (λ m h. Differ-not m some (has_not some ns m f h)) ms a

-- What the kernel drops, and what all copies drop, comes once.
drops_differ : (kernel : List ℕ) (own : Copy → List ℕ) (drops : Copy → List ℕ) (kernel_drops : List ℕ) (copies : List Copy) → Differ kernel_drops → ((k : ℕ) → has kernel_drops k ≡ true → has kernel k ≡ true) → ((c : Copy) (k : ℕ) → has (drops c) k ≡ true → has (own c) k ≡ true) → All (λ c. Differ (drops c) × Differ (kernel ++ own c)) copies → EachPair (λ c d. Apart (drops c) (own d)) copies → Differ (kernel_drops ++ flat_map drops copies)
drops_differ kernel own drops kernel_drops copies d f h a p = EachPair-append (λ x y. x ≡ y → ⊥) kernel_drops (flat_map drops copies) d
    (EachPair-flat_map (λ x y. x ≡ y → ⊥) drops copies (All-weaker (λ c. Differ (drops c) × Differ (kernel ++ own c)) (λ c. Differ (drops c)) (λ c k. k.0) copies a) (EachPair-known (λ c. Differ (drops c) × Differ (kernel ++ own c)) (λ c d. Apart (drops c) (own d)) (λ c d. All (λ x. All (λ y. x ≡ y → ⊥) (drops d)) (drops c)) (λ c d i j k. some_differ (drops c) (own d) (drops d) k (h d)) copies a p))
    (across kernel_drops f)
  where
    across : (ks : List ℕ) → ((k : ℕ) → has ks k ≡ true → has kernel k ≡ true) → All (λ x. All (λ y. x ≡ y → ⊥) (flat_map drops copies)) ks
    across [] f = All-nil (λ x. All (λ y. x ≡ y → ⊥) (flat_map drops copies))
    across (k ∷ ks) f = All-cons (λ x. All (λ y. x ≡ y → ⊥) (flat_map drops copies)) k ks (All-flat_map (λ y. k ≡ y → ⊥) drops copies (All-weaker (λ c. Differ (drops c) × Differ (kernel ++ own c)) (λ c. All (λ y. k ≡ y → ⊥) (drops c)) (λ c i. Differ-not k (drops c) (has_not (drops c) (own c) k (h c) (Differ-across kernel (own c) k i.1 (f k (has-here k ks))))) copies a)) (across ks (λ j l. f j (has-later j k ks l)))

-- An object of a typed graph has a value for each attribute of its class.
value-found : (a : ℕ) (slots : List Slot) → has (map (λ s. s.attribute) slots) a ≡ true → IsSome (value_in a slots)
value-found a [] h = absurd (both_ways false refl h)
value-found a (s ∷ ss) h = elim (cases_Bool (eqb s.attribute a)) [
  | inl e ↦ rw e refl
  | inr e ↦ elim (has_cases a s.attribute (map (λ s. s.attribute) ss) h) [
    | inl k ↦ absurd (both_ways (eqb s.attribute a) e (eq-eqb s.attribute a (sym k)))
    | inr l ↦ rw e (value-found a ss l)
  ]
]

value-there : (m : Metamodel) (g : Graph) (n a : ℕ) → IsTyped m g → Stands g (λ c. has (attributes_of m c) a ≡ true) n → IsSome (value_at g n (Attribute a))
value-there m g n a t h = go (object_numbered g n) refl h
  where
    go : (o : Option Object) → object_numbered g n ≡ o → IsSomeAnd o (λ x. has (attributes_of m x.class) a ≡ true) → IsSome (option_and_then (λ x. value_in a x.slots) o)
    go None e k = absurd k
    go (Some x) e k =
        let slots : AreSlotsOf m x.class x.slots = All-find (λ o. AreSlotsOf m o.class o.slots) (λ o. eqb o.number n) g.objects x t.objects_fit e in
        value-found a x.slots (rw slots.1 k)

keep_from : (k : Mark) → is_make k ≡ false → is_drop k ≡ false → is_keep k ≡ true
keep_from Keep a b = refl
keep_from Drop a b = absurd (both_ways true b refl)
keep_from Make a b = absurd (both_ways true a refl)

-- A `set` that is no first value is one of a kept node.
set_kept : (nodes : List PatternNode) (P : ℕ → Type 0) (n : ℕ) → EndFits (λ mark. not (is_drop mark)) nodes P n → not (node_is is_make nodes n) ≡ true → (x : PatternNode) × (slice_get nodes n ≡ Some x) × (is_left x.mark ≡ true) × (is_drop x.mark ≡ false) × (is_keep x.mark ≡ true) × P x.class
set_kept nodes P n s k = go (slice_get nodes n) refl s
  where
    go : (o : Option PatternNode) → slice_get nodes n ≡ o → IsSomeAnd o (λ node. (not (is_drop node.mark) ≡ true) × P node.class) → (x : PatternNode) × (slice_get nodes n ≡ Some x) × (is_left x.mark ≡ true) × (is_drop x.mark ≡ false) × (is_keep x.mark ≡ true) × P x.class
    go None e s = absurd s
    go (Some x) e s =
        let made : is_make x.mark ≡ false = not-true (is_make x.mark) (rw e at k) in
        let stays : is_drop x.mark ≡ false = not_dropped x.mark s.0 in
        (x, e, left_or_made x.mark made, stays, keep_from x.mark made stays, s.1)

-- A relation that each item has to itself it has to one of them.
any_self : {A : Type 0} (test : A → A → Bool) → ((x : A) → test x x ≡ true) → (xs : List A) → All (λ x. list_any (λ y. test y x) xs ≡ true) xs
any_self test r [] = All-nil (λ x. list_any (λ y. test y x) [] ≡ true)
any_self test r (x ∷ xs) = All-cons (λ z. list_any (λ y. test y z) (x ∷ xs) ≡ true) x xs (or_left (test x x) (list_any (λ y. test y x) xs) (r x)) (All-weaker (λ z. list_any (λ y. test y z) xs ≡ true) (λ z. list_any (λ y. test y z) (x ∷ xs) ≡ true) (λ z h. or_right (test x z) (list_any (λ y. test y z) xs) h) xs (any_self test r xs))

abbrev slot_at : ℕ → SlotKind → PatternSlot
slot_at n kind = record { node = n; kind = kind; written = true }

sets_set : (sets : List SetItem) → All (λ item. is_among (slots_set sets) (slot_at item.node (Attribute item.attribute)) ≡ true) sets
sets_set sets = All-of_map (λ s. is_among (slots_set sets) (slot_at s.node s.kind) ≡ true) slot_of_set sets (any_self (λ a b. eqb a.node b.node && is_kind a.kind b.kind) (λ a. and_from (eqb a.node a.node) (is_kind a.kind a.kind) (eq-eqb a.node a.node refl) (is_kind-itself a.kind)) (slots_set sets))

abbrev place : List PatternNode → List ℕ → ℕ → SlotKind → At
place nodes images n kind = record { object = image nodes images n; slot = kind }

-- A slot that a block has is among its used slots, and among its written ones where it is set.
slot-used : (nodes : List PatternNode) (images : List ℕ) (slots : List PatternSlot) (n : ℕ) (kind : SlotKind) → has_slot slots n kind ≡ true → Contains (slots_at nodes images slots) (place nodes images n kind)
slot-used nodes images slots n kind h = has_slot-all (λ n kind. Contains (slots_at nodes images slots) (place nodes images n kind)) slots n kind (All-of_map (Contains (slots_at nodes images slots)) (λ slot. place nodes images slot.node slot.kind) slots (All-contains_itself (slots_at nodes images slots))) h

slot-written : (nodes : List PatternNode) (images : List ℕ) (sets : List SetItem) (slots : List PatternSlot) (n : ℕ) (kind : SlotKind) → All (λ slot. slot.written ≡ is_among (slots_set sets) slot) slots → has_slot slots n kind ≡ true → is_among (slots_set sets) (slot_at n kind) ≡ true → Contains (slots_at nodes images (filter (λ slot. slot.written) slots)) (place nodes images n kind)
slot-written nodes images sets slots n kind w h = has_slot-all (λ n kind. is_among (slots_set sets) (slot_at n kind) ≡ true → Contains written (place nodes images n kind)) slots n kind (All-weaker (λ slot. (slot.written ≡ is_among (slots_set sets) slot) × (slot.written ≡ true → Contains written (place nodes images slot.node slot.kind))) (λ slot. is_among (slots_set sets) (slot_at slot.node slot.kind) ≡ true → Contains written (place nodes images slot.node slot.kind)) (λ slot i t. i.1 (i.0 ∙ t)) slots (All-both (λ slot. slot.written ≡ is_among (slots_set sets) slot) (λ slot. slot.written ≡ true → Contains written (place nodes images slot.node slot.kind)) slots w (All-of_filter (λ slot. Contains written (place nodes images slot.node slot.kind)) (λ slot. slot.written) slots (All-of_map (Contains written) (λ slot. place nodes images slot.node slot.kind) (filter (λ slot. slot.written) slots) (All-contains_itself written))))) h
  where
    written : List At
    written = slots_at nodes images (filter (λ slot. slot.written) slots)

-- What is known of each write of a block: its slot is, at an image that is not dropped and is one of the block's own.
record WriteIs (g : Graph) (dropped own : List ℕ) (w : Write) : Type 0 where
  pub stands : IsSome (value_at g w.object w.slot)
  pub stays : has dropped w.object ≡ false
  pub owned : has own w.object ≡ true

-- A fact of each write by its item.
writes_each : (P : Write → Type 0) (env : Env) (nodes : List PatternNode) (images : List ℕ) (sets : List SetItem) → All (λ item. not (node_is is_make nodes item.node) ≡ true → (v : Value) → P (record { object = image nodes images item.node; slot = Attribute item.attribute; value = v })) sets → All P (writes_of env nodes images sets)
writes_each P env nodes images sets a = All-filter_map P write (filter q sets) (All-kept F (λ item. (w : Write) → write item ≡ Some w → P w) q sets (λ item k f w e. go item (value_of env item.value) (f k) w e) a)
  where
    q : SetItem → Bool
    q item = not (node_is is_make nodes item.node)

    made : SetItem → Value → Write
    made item v = record { object = image nodes images item.node; slot = Attribute item.attribute; value = v }

    write : SetItem → Option Write
    write item = option_map (made item) (value_of env item.value)

    F : SetItem → Type 0
    F item = q item ≡ true → (v : Value) → P (made item v)

    go : (item : SetItem) (o : Option Value) → ((v : Value) → P (made item v)) → (w : Write) → option_map (made item) o ≡ Some w → P w
    go item None f w e = absurd (cc)
    go item (Some v) f w e = let same : made item v ≡ w = cc in subst P same (f v)

-- The value in a slot of an image.
image-value : (m : Metamodel) (g : Graph) (nodes : List PatternNode) (images : List ℕ) (n a : ℕ) (x : PatternNode) → IsMeta m → IsTyped m g → AllZip (FitsNode m g) (left_nodes nodes) images → slice_get nodes n ≡ Some x → is_left x.mark ≡ true → has (attributes_of m x.class) a ≡ true → IsSome (value_at g (image nodes images n) (Attribute a))
image-value m g nodes images n a x d t z e left h = value-there m g (image nodes images n) a t (Stands-down m g (λ c. has (attributes_of m c) a ≡ true) x.class (image nodes images n) (attribute-down m a d) h (image-at (FitsNode m g) nodes images n x z e left))

kernel_writes : (m : Metamodel) (g : Graph) (rule : Rule) (args : Args) (f : Match) → IsMeta m → IsRule m rule → IsTyped m g → IsValid m g rule args f → All (WriteIs g (all_dropped_nodes rule f) f.nodes) (writes_of (env_of g rule args rule.shape.nodes f.nodes) rule.shape.nodes f.nodes rule.sets)
kernel_writes m g rule args f d w t v = writes_each (WriteIs g (all_dropped_nodes rule f) f.nodes) (env_of g rule args nodes f.nodes) nodes f.nodes rule.sets (All-weaker (λ item. (0 ≤ item.node) × SetFits m scope nodes item) (λ item. not (node_is is_make nodes item.node) ≡ true → (u : Value) → WriteIs g (all_dropped_nodes rule f) f.nodes (record { object = image nodes f.nodes item.node; slot = Attribute item.attribute; value = u })) (λ item s k u. each item s.1 k u) rule.sets w.kernel.sets_fit)
  where
    nodes : List PatternNode
    nodes = rule.shape.nodes

    scope : Scope
    scope = scope_of m rule nodes

    each : (item : SetItem) → SetFits m scope nodes item → not (node_is is_make nodes item.node) ≡ true → (u : Value) → WriteIs g (all_dropped_nodes rule f) f.nodes (record { object = image nodes f.nodes item.node; slot = Attribute item.attribute; value = u })
    each item s k u = let x = set_kept nodes (λ c. has (attributes_of m c) item.attribute ≡ true) item.node s.0 k in record {
      stands = image-value m g nodes f.nodes item.node item.attribute x.0 d t v.plain.nodes_fit x.1 x.2 x.5;
      stays = kernel_stays m g rule args f w v item.node x.0 x.1 x.2 x.3;
      owned = image-among (FitsNode m g) nodes f.nodes item.node v.plain.nodes_fit (IsLeft-from nodes item.node x.0 x.1 x.2);
    }

-- Of a copy also: its slot is one of the copy's used and written ones.
record CopyWriteIs (g : Graph) (rule : Rule) (f : Match) (copy : Copy) (w : Write) : Type 0 where
  pub is : WriteIs g (all_dropped_nodes rule f) copy.found.nodes w
  pub used : Contains (used_slots rule (kernel_of f) copy) (record { object = w.object; slot = w.slot })
  pub written : Contains (written_slots rule (kernel_of f) copy) (record { object = w.object; slot = w.slot })

copy_writes-are : (m : Metamodel) (g : Graph) (rule : Rule) (args : Args) (f : Match) (copy : Copy) → IsMeta m → IsTyped m g → IsValid m g rule args f → CopyIs m g rule args (kernel_of f) copy → CopyStays rule f copy → All (CopyWriteIs g rule f copy) (copy_writes g rule args (kernel_of f) copy)
copy_writes-are m g rule args f copy d t v i stays = writes_each (CopyWriteIs g rule f copy) (copy_env g rule args (kernel_of f) copy) nodes images sets (All-weaker (λ item. ((first ≤ item.node) × SetFits m (scope_of m rule nodes) nodes item) × (K item × T item)) (λ item. not (node_is is_make nodes item.node) ≡ true → (u : Value) → CopyWriteIs g rule f copy (write item u)) (λ item j k u. each item j.0.0 j.0.1 j.1.0 j.1.1 k u) sets (All-both (λ item. (first ≤ item.node) × SetFits m (scope_of m rule nodes) nodes item) (λ item. K item × T item) sets i.multi.sets_fit (All-both K T sets (All-of_map (λ s. node_is is_keep nodes s.node ≡ true → has_slot slots s.node s.kind ≡ true) slot_of_set sets i.multi.slots.all_written) (sets_set sets))))
  where
    first : ℕ
    first = length rule.shape.nodes

    nodes : List PatternNode
    nodes = rule.shape.nodes ++ copy.multi.shape.nodes

    images : List ℕ
    images = f.nodes ++ copy.found.nodes

    sets : List SetItem
    sets = copy.multi.sets

    slots : List PatternSlot
    slots = copy.multi.shape.slots

    write : SetItem → Value → Write
    write item u = record { object = image nodes images item.node; slot = Attribute item.attribute; value = u }

    K : SetItem → Type 0
    K item = node_is is_keep nodes item.node ≡ true → has_slot slots item.node (Attribute item.attribute) ≡ true

    T : SetItem → Type 0
    T item = is_among (slots_set sets) (slot_at item.node (Attribute item.attribute)) ≡ true

    each : (item : SetItem) → first ≤ item.node → SetFits m (scope_of m rule nodes) nodes item → K item → T item → not (node_is is_make nodes item.node) ≡ true → (u : Value) → CopyWriteIs g rule f copy (write item u)
    each item l s k set made u =
        let n : ℕ = item.node in
        let x = set_kept nodes (λ c. has (attributes_of m c) item.attribute ≡ true) n s.0 made in
        let slot : has_slot slots n (Attribute item.attribute) ≡ true = k (rw x.1 x.4) in
        let ext : Extends m g rule.shape (kernel_of f) copy.multi.shape copy.found = i.extends.0 in
        let at : slice_get copy.multi.shape.nodes (n - first) ≡ Some x.0 = sym (slice_get-last rule.shape.nodes copy.multi.shape.nodes n l) ∙ x.1 in
        let same : image nodes images n ≡ image copy.multi.shape.nodes copy.found.nodes (n - first) = image-behind (FitsNode m g) rule.shape.nodes copy.multi.shape.nodes f.nodes copy.found.nodes n v.plain.nodes_fit l in
        record {
          is = record {
            stands = image-value m g nodes images n item.attribute x.0 d t (joined m g rule.shape (kernel_of f) copy.multi.shape copy.found v.plain ext) x.1 x.2 x.5;
            stays = stays n x.0 l x.1 x.2 x.3;
            owned = subst (λ (j : ℕ). has copy.found.nodes j ≡ true) (sym same) (image-among (FitsNode m g) copy.multi.shape.nodes copy.found.nodes (n - first) ext.nodes_fit (IsLeft-from copy.multi.shape.nodes (n - first) x.0 at x.2));
          };
          used = slot-used nodes images slots n (Attribute item.attribute) slot;
          written = slot-written nodes images sets slots n (Attribute item.attribute) (All-weaker (λ slot. (is_among (slots_read (reads_in copy.multi.wheres copy.multi.sets)) slot || is_among (slots_set sets) slot ≡ true) × (slot.written ≡ is_among (slots_set sets) slot)) (λ slot. slot.written ≡ is_among (slots_set sets) slot) (λ slot j. j.1) slots i.multi.slots.needed) slot set;
        }

-- Two writes to different slots.
abbrev Elsewhere : Write → Write → Type 0
Elsewhere v w = (v.object ≡ w.object) × (v.slot ≡ w.slot) → ⊥

abbrev LeftIfKept : List PatternNode → SetItem → Type 0
LeftIfKept nodes item = not (node_is is_make nodes item.node) ≡ true → IsLeft nodes item.node

-- A block writes each slot once.
block_writes-differ : (R : PatternNode → ℕ → Type 0) (env : Env) (nodes : List PatternNode) (images : List ℕ) (sets : List SetItem) → AllZip R (left_nodes nodes) images → Differ images → All (LeftIfKept nodes) sets → SetOnce sets → EachPair Elsewhere (writes_of env nodes images sets)
block_writes-differ R env nodes images sets z d lefts once = EachPair-filter_map Both Elsewhere write apart (filter q sets) (EachPair-known L Once Both (λ a b i j o. (i, j, o)) (filter q sets) (All-kept (LeftIfKept nodes) L q sets (λ item k f. f k) lefts) (EachPair-filter Once q sets once))
  where
    q : SetItem → Bool
    q item = not (node_is is_make nodes item.node)

    made : SetItem → Value → Write
    made item v = record { object = image nodes images item.node; slot = Attribute item.attribute; value = v }

    write : SetItem → Option Write
    write item = option_map (made item) (value_of env item.value)

    L : SetItem → Type 0
    L item = IsLeft nodes item.node

    Once : SetItem → SetItem → Type 0
    Once a b = (a.node ≡ b.node) × (a.attribute ≡ b.attribute) → ⊥

    Both : SetItem → SetItem → Type 0
    Both a b = L a × L b × Once a b

    wrote : (item : SetItem) (o : Option Value) (v : Write) → option_map (made item) o ≡ Some v → (image nodes images item.node ≡ v.object) × (Attribute item.attribute ≡ v.slot)
    wrote item None v e = absurd (cc)
    wrote item (Some u) v e = let same : made item u ≡ v = cc in (ap (λ (w : Write). w.object) same, ap (λ (w : Write). w.slot) same)

    attribute_same : (a b : ℕ) → Attribute a ≡ Attribute b → a ≡ b
    attribute_same a b e = cc

    apart : (a b : SetItem) (v w : Write) → write a ≡ Some v → write b ≡ Some w → Both a b → Elsewhere v w
    apart a b v w e f h k =
        let x = wrote a (value_of env a.value) v e in
        let y = wrote b (value_of env b.value) w f in
        let node : a.node ≡ b.node = image-injective R nodes images a.node b.node z d h.0 h.1 (x.0 ∙ (k.0 ∙ sym y.0)) in
        h.2 (node, attribute_same a.attribute b.attribute (x.1 ∙ (k.1 ∙ sym y.1)))

abbrev place_of : ℕ → SlotKind → At
place_of n kind = record { object = n; slot = kind }

same_place : (m n : ℕ) (k l : SlotKind) → m ≡ n → k ≡ l → place_of m k ≡ place_of n l
same_place m n k l a b = ap (λ (i : ℕ). place_of i k) a ∙ ap (λ (s : SlotKind). place_of n s) b

-- Copies that don't touch write to different slots.
copies_elsewhere : (g : Graph) (rule : Rule) (f : Match) (c d : Copy) (vs ws : List Write) → All (CopyWriteIs g rule f c) vs → All (CopyWriteIs g rule f d) ws → SparesCopy rule (kernel_of f) c d → All (λ v. All (Elsewhere v) ws) vs
copies_elsewhere g rule f c d vs ws a b s = All-weaker (CopyWriteIs g rule f c) (λ v. All (Elsewhere v) ws) (λ v i. All-weaker (CopyWriteIs g rule f d) (Elsewhere v) (λ w j k. All-contains (λ t. place_of v.object v.slot ≡ t → ⊥) (used_slots rule (kernel_of f) d) (place_of w.object w.slot) (All-contains (λ s. All (λ t. s ≡ t → ⊥) (used_slots rule (kernel_of f) d)) (written_slots rule (kernel_of f) c) (place_of v.object v.slot) s.slots i.written) j.used (same_place v.object w.object v.slot w.slot k.0 k.1)) ws b) vs a

kernel_elsewhere : (g : Graph) (rule : Rule) (f : Match) (copy : Copy) (vs ws : List Write) → All (WriteIs g (all_dropped_nodes rule f) f.nodes) vs → All (CopyWriteIs g rule f copy) ws → Differ (f.nodes ++ copy.found.nodes) → All (λ v. All (Elsewhere v) ws) vs
kernel_elsewhere g rule f copy vs ws a b d = All-weaker (WriteIs g (all_dropped_nodes rule f) f.nodes) (λ v. All (Elsewhere v) ws) (λ v i. All-weaker (CopyWriteIs g rule f copy) (Elsewhere v) (λ w j k. both_ways (has copy.found.nodes w.object) (Differ-across f.nodes copy.found.nodes w.object d (subst (λ (n : ℕ). has f.nodes n ≡ true) k.0 i.owned)) j.is.owned) ws b) vs a

-- The plan of a valid match of a typed graph fits it.
pub plan-fits : (m : Metamodel) (g : Graph) (rule : Rule) (args : Args) (f : Match) → IsMeta m → IsRule m rule → IsTyped m g → IsValid m g rule args f → Fits m g (plan_of m g rule args f)
plan-fits m g rule args f d w t v = record {
  objects_stand = All-append (λ n. IsSome (object_numbered g n)) (dropped_nodes rule.shape k) (flat_map drops copies) (All-beside (λ n. IsSome (object_numbered g n)) (λ node. is_drop node.mark) (left_nodes nodes) f.nodes (nodes_stand m g nodes f.nodes v.plain.nodes_fit)) (All-flat_map (λ n. IsSome (object_numbered g n)) drops copies (All-weaker C (λ c. All (λ n. IsSome (object_numbered g n)) (drops c)) (λ c i. All-beside (λ n. IsSome (object_numbered g n)) (λ node. is_drop node.mark) (left_nodes c.multi.shape.nodes) c.found.nodes (nodes_stand m g c.multi.shape.nodes c.found.nodes i.0.extends.0.nodes_fit)) copies are));
  objects_differ = drops_differ f.nodes (λ c. c.found.nodes) drops (dropped_nodes rule.shape k) copies (Differ-beside (λ node. is_drop node.mark) (left_nodes nodes) f.nodes v.plain.nodes_differ) (λ n h. beside-has (λ node. is_drop node.mark) (left_nodes nodes) f.nodes n h) (λ c n h. beside-has (λ node. is_drop node.mark) (left_nodes c.multi.shape.nodes) c.found.nodes n h) (All-weaker C (λ c. Differ (drops c) × Differ (f.nodes ++ c.found.nodes)) (λ c i. (Differ-beside (λ node. is_drop node.mark) (left_nodes c.multi.shape.nodes) c.found.nodes (EachPair-rest (λ x y. x ≡ y → ⊥) f.nodes c.found.nodes i.0.extends.0.nodes_differ), i.0.extends.0.nodes_differ)) copies are) (EachPair-weaker Touch (λ c e. Apart (drops c) e.found.nodes) (λ c e s. s.0.objects) copies v.none_touch);
  edges_stand = All-append (λ n. IsSome (edge_numbered g n)) (dropped_edges rule.shape k) (flat_map cuts copies) (All-beside (λ n. IsSome (edge_numbered g n)) (λ edge. is_drop edge.mark) (left_edges rule.shape.edges) f.edges (edges_stand g (image nodes f.nodes) rule.shape.edges f.edges v.plain.edges_fit)) (All-flat_map (λ n. IsSome (edge_numbered g n)) cuts copies (All-weaker C (λ c. All (λ n. IsSome (edge_numbered g n)) (cuts c)) (λ c i. All-beside (λ n. IsSome (edge_numbered g n)) (λ edge. is_drop edge.mark) (left_edges c.multi.shape.edges) c.found.edges (edges_stand g (image (nodes ++ c.multi.shape.nodes) (f.nodes ++ c.found.nodes)) c.multi.shape.edges c.found.edges i.0.extends.0.edges_fit)) copies are));
  edges_differ = drops_differ f.edges (λ c. c.found.edges) cuts (dropped_edges rule.shape k) copies (Differ-beside (λ edge. is_drop edge.mark) (left_edges rule.shape.edges) f.edges v.plain.edges_differ) (λ n h. beside-has (λ edge. is_drop edge.mark) (left_edges rule.shape.edges) f.edges n h) (λ c n h. beside-has (λ edge. is_drop edge.mark) (left_edges c.multi.shape.edges) c.found.edges n h) (All-weaker C (λ c. Differ (cuts c) × Differ (f.edges ++ c.found.edges)) (λ c i. (Differ-beside (λ edge. is_drop edge.mark) (left_edges c.multi.shape.edges) c.found.edges (EachPair-rest (λ x y. x ≡ y → ⊥) f.edges c.found.edges i.0.extends.0.edges_differ), i.0.extends.0.edges_differ)) copies are) (EachPair-weaker Touch (λ c e. Apart (cuts c) e.found.edges) (λ c e s. s.0.edges) copies v.none_touch);
  none_dangle = carries.none_dangle;
  slots_stand = All-append W kernel_written (flat_map wrote copies) (All-weaker (WriteIs g (all_dropped_nodes rule f) f.nodes) W (λ u i. (i.stands, i.stays)) kernel_written kernel) (All-flat_map W wrote copies (All-weaker C (λ c. All W (wrote c)) (λ c i. All-weaker (CopyWriteIs g rule f c) W (λ u j. (j.is.stands, j.is.stays)) (wrote c) (own c i)) copies are));
  slots_differ = EachPair-append Elsewhere kernel_written (flat_map wrote copies) (block_writes-differ (FitsNode m g) env nodes f.nodes rule.sets v.plain.nodes_fit v.plain.nodes_differ (All-weaker (λ item. (0 ≤ item.node) × SetFits m (scope_of m rule nodes) nodes item) (LeftIfKept nodes) (λ item s. left_set nodes (λ c. has (attributes_of m c) item.attribute ≡ true) item s.1.0) rule.sets w.kernel.sets_fit) w.kernel.sets_once) (EachPair-flat_map Elsewhere wrote copies (All-weaker C (λ c. EachPair Elsewhere (wrote c)) (λ c i. block_writes-differ (FitsNode m g) (copy_env g rule args k c) (nodes_of rule c.multi) (images_of k c.found) c.multi.sets (joined m g rule.shape k c.multi.shape c.found v.plain i.0.extends.0) i.0.extends.0.nodes_differ (All-weaker (λ item. (length nodes ≤ item.node) × SetFits m (scope_of m rule (nodes_of rule c.multi)) (nodes_of rule c.multi) item) (LeftIfKept (nodes_of rule c.multi)) (λ item s. left_set (nodes_of rule c.multi) (λ e. has (attributes_of m e) item.attribute ≡ true) item s.1.0) c.multi.sets i.0.multi.sets_fit) i.0.multi.sets_once) copies are) (EachPair-known C Touch (λ c e. All (λ a. All (Elsewhere a) (wrote e)) (wrote c)) (λ c e i j s. copies_elsewhere g rule f c e (wrote c) (wrote e) (own c i) (own e j) s.0) copies are v.none_touch)) (across kernel_written kernel);
  values_fit = carries.values_fit;
  objects_fit = carries.objects_fit;
  edges_fit = carries.edges_fit;
}
  where
    k : Extension
    k = kernel_of f

    nodes : List PatternNode
    nodes = rule.shape.nodes

    env : Env
    env = env_of g rule args nodes f.nodes

    copies : List Copy
    copies = copies_of rule f

    drops : Copy → List ℕ
    drops c = dropped_nodes c.multi.shape c.found

    cuts : Copy → List ℕ
    cuts c = dropped_edges c.multi.shape c.found

    wrote : Copy → List Write
    wrote = copy_writes g rule args k

    C : Copy → Type 0
    C c = CopyIs m g rule args k c × CopyStays rule f c

    are : All C copies
    are = All-both (CopyIs m g rule args k) (CopyStays rule f) copies (copies_are m g rule args f w v) (copies_stay m g rule args f w v)

    Touch : Copy → Copy → Type 0
    Touch c e = SparesCopy rule k c e × SparesCopy rule k e c

    carries : Carries m g (plan_of m g rule args f)
    carries = plan-carries m g rule args f d w v

    W : Write → Type 0
    W u = IsSome (value_at g u.object u.slot) × (has (all_dropped_nodes rule f) u.object ≡ false)

    kernel_written : List Write
    kernel_written = writes_of env nodes f.nodes rule.sets

    kernel : All (WriteIs g (all_dropped_nodes rule f) f.nodes) kernel_written
    kernel = kernel_writes m g rule args f d w t v

    own : (c : Copy) → C c → All (CopyWriteIs g rule f c) (wrote c)
    own c i = copy_writes-are m g rule args f c d t v i.0 i.1

    left_set : (nodes : List PatternNode) (P : ℕ → Type 0) (item : SetItem) → EndFits (λ mark. not (is_drop mark)) nodes P item.node → LeftIfKept nodes item
    left_set nodes P item s made = let x = set_kept nodes P item.node s made in IsLeft-from nodes item.node x.0 x.1 x.2

    across : (us : List Write) → All (WriteIs g (all_dropped_nodes rule f) f.nodes) us → All (λ u. All (Elsewhere u) (flat_map wrote copies)) us
    across [] a = All-nil (λ u. All (Elsewhere u) (flat_map wrote copies))
    across (u ∷ us) a = All-cons (λ u. All (Elsewhere u) (flat_map wrote copies)) u us (All-flat_map (Elsewhere u) wrote copies (All-weaker C (λ c. All (Elsewhere u) (wrote c)) (λ c i. All-head (λ v. All (Elsewhere v) (wrote c)) u [] (kernel_elsewhere g rule f c (u ∷ []) (wrote c) (All-one (WriteIs g (all_dropped_nodes rule f) f.nodes) u (All-head (WriteIs g (all_dropped_nodes rule f) f.nodes) u us a)) (own c i) i.0.extends.0.nodes_differ)) copies are)) (across us (All-tail (WriteIs g (all_dropped_nodes rule f) f.nodes) u us a))
