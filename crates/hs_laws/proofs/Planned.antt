-- The plan of a valid match carries a typed graph to a typed graph.
use Rattle.std.proofs.Common.{ℕ, suc, zero, ◌+◌, ◌-◌, ◌≤◌, ◌≡◌, inl, inr, List, [], ◌∷◌, ◌++◌, map, length, take, Bool, true, false, not, ◌&&◌, eqb, ltb, Option, Some, None, IsSomeAnd, IsSome, slice_get, refl, sym, ap, ◌∙◌, subst, arith, length-append, zero-add, append_assoc}
use Rattle.std.specs.List.{All, cons_option, filter, filter_map, find, flat_map}
use Rattle.std.specs.Option.{option_map, option_and_then, option_or, unwrap_or, is_some}
use Rattle.std.proofs.lemmas.Bool.{cases_Bool, both_ways, eqb-true, and_parts, ltb-true, ltb-false, not-true}
use Rattle.std.proofs.lemmas.List.{append-nil}
use Rattle.std.proofs.lemmas.List.Elements.{All-nil, All-cons, All-head, All-tail, All-append, All-map, All-weaker, All-filter, filter_passes}
use Rattle.hs_expr.specs.declared.value.Value.{Value}
use Rattle.hs_expr.specs.Evaluation.{Env, value_of}
use Rattle.hs_types.specs.declared.graph.Graph.{Graph}
use Rattle.hs_types.specs.declared.graph.Slot.{Slot}
use Rattle.hs_types.specs.declared.matching.Extension.{Extension}
use Rattle.hs_types.specs.declared.matching.Match.{Match}
use Rattle.hs_types.specs.declared.meta.Feature.{Feature}
use Rattle.hs_types.specs.declared.meta.FeatureKind.{FeatureKind}
use Rattle.hs_types.specs.declared.meta.FeatureKind.TheVariants as feature
use Rattle.hs_types.specs.declared.meta.Metamodel.{Metamodel}
use Rattle.hs_types.specs.declared.plan.End.{End}
use Rattle.hs_types.specs.declared.plan.MadeEdge.{MadeEdge}
use Rattle.hs_types.specs.Plan.{MadeObject, Plan, CanBeMade, EndIs, SlotFits, copy_edges, copy_end, copy_objects, copy_writes, edges_for, end_of, made_slots, objects_for, plan_of, value_set, writes_of}
use Rattle.hs_types.specs.declared.plan.Write.{Write}
use Rattle.hs_types.specs.declared.request.Args.{Args}
use Rattle.hs_types.specs.declared.rule.Mark.{Mark}
use Rattle.hs_types.specs.declared.rule.Mark.TheVariants.{Keep, Drop, Make}
use Rattle.hs_types.specs.declared.rule.PatternEdge.{PatternEdge}
use Rattle.hs_types.specs.declared.rule.PatternNode.{PatternNode}
use Rattle.hs_types.specs.declared.rule.Rule.{Rule}
use Rattle.hs_types.specs.declared.rule.SetItem.{SetItem}
use Rattle.hs_types.specs.declared.rule.SlotKind.TheVariants.{Attribute}
use Rattle.hs_types.specs.Conditions.{AreFit, env_of}
use Rattle.hs_types.specs.Copies.{Copy, copies_of, copy_env, images_of, nodes_of}
use Rattle.hs_expr.specs.Lists.{has}
use Rattle.hs_types.specs.Metamodel.{Conforms, IsConcrete, IsMeta, FeatureFits, attributes_of, default_of, default_of_kind, feature_at, features_of, fits, is_of_type, target_of, type_of, type_of_kind}
use Rattle.hs_types.specs.Pattern.{is_drop, is_left, is_make, made_edges, made_nodes, node_is}
use Rattle.hs_types.specs.PlainMatch.{image, kernel_of}
use Rattle.hs_types.specs.RuleForm.{EdgeFits, EndFits, IsRule, NodeFits, joins}
use Rattle.hs_types.specs.Step.{step}
use Rattle.hs_types.specs.TypedGraph.{AreSlotsOf, IsTyped}
use Rattle.hs_types.specs.ValidMatch.{IsValid}
use Rattle.hs_laws.proofs.Classes.{GoesDown, Stands-down, conforms-down, feature-down}
use Rattle.hs_laws.proofs.Images.{FitsNode, image-at, joined}
use Rattle.hs_expr.proofs.Lists.{All-both, All-filter_map, All-find, All-flat_map, All-kept, find-passes, slice_get-append, slice_get-behind, slice_get-first, slice_get-last}
use Rattle.hs_laws.proofs.Staying.{CopyIs, CopyStays, copies_are, copies_stay, kernel_stays}
use Rattle.hs_types.proofs.TypedStep.{Carries, IsTyped-step}

-- The values that are written fit.
writes_fit : (m : Metamodel) (env : Env) (nodes : List PatternNode) (images : List ℕ) (sets : List SetItem) → AreFit m env sets → All (λ write. SlotFits m write.slot write.value) (writes_of env nodes images sets)
writes_fit m env nodes images sets h = All-filter_map W write (filter q sets) (All-weaker F (λ item. (w : Write) → write item ≡ Some w → W w) (λ item i w e. go item (value_of env item.value) refl i w e) (filter q sets) (All-filter q F sets h))
  where
    W : Write → Type 0
    W w = SlotFits m w.slot w.value

    q : SetItem → Bool
    q item = not (node_is is_make nodes item.node)

    made : SetItem → Value → Write
    made item v = record { object = image nodes images item.node; slot = Attribute item.attribute; value = v }

    write : SetItem → Option Write
    write item = option_map (made item) (value_of env item.value)

    F : SetItem → Type 0
    F item = IsSomeAnd (value_of env item.value) (λ v. fits m item.attribute v ≡ true)

    go : (item : SetItem) (o : Option Value) → value_of env item.value ≡ o → IsSomeAnd o (λ v. fits m item.attribute v ≡ true) → (w : Write) → option_map (made item) o ≡ Some w → W w
    go item None e i w s = absurd i
    go item (Some v) e i w s = let same : made item v ≡ w = cc in subst W same i

-- An attribute has a default, and it fits.
default-fits : (m : Metamodel) (a : ℕ) → IsMeta m → IsSome (type_of m a) → IsSomeAnd (default_of m a) (λ v. fits m a v ≡ true)
default-fits m a w h = go (feature_at m a) refl h
  where
    of_kind : (k : FeatureKind) → IsSome (type_of_kind k) → FeatureFits m k → IsSomeAnd (default_of_kind k) (λ v. unwrap_or (option_map (λ t. is_of_type t v) (type_of_kind k)) false ≡ true)
    of_kind (feature.Attribute t v) h s = s
    of_kind (feature.Reference target containment lower upper) h s = absurd (both_ways false refl h)

    go : (o : Option Feature) → feature_at m a ≡ o → IsSome (option_and_then (λ f. type_of_kind f.kind) o) → IsSomeAnd (option_and_then (λ f. default_of_kind f.kind) o) (λ v. fits m a v ≡ true)
    go None e h = absurd (both_ways false refl h)
    go (Some f) e h = rw e (of_kind f.kind h (sound m.features a f w.features_sound e))
      where
        sound : (fs : List Feature) (i : ℕ) (f : Feature) → All (λ f. FeatureFits m f.kind) fs → slice_get fs i ≡ Some f → FeatureFits m f.kind
        sound [] i f a h = absurd (cc)
        sound (x ∷ xs) zero f a h = let same : x ≡ f = cc in subst (λ (f : Feature). FeatureFits m f.kind) same (All-head (λ f. FeatureFits m f.kind) x xs a)
        sound (x ∷ xs) (suc i) f a h = sound xs i f (All-tail (λ f. FeatureFits m f.kind) x xs a) h

-- Each attribute of a made object has a value that fits.
slot-fits : (m : Metamodel) (env : Env) (sets : List SetItem) (n a : ℕ) → IsMeta m → AreFit m env sets → IsSome (type_of m a) → IsSomeAnd (option_or (value_set env sets n a) (default_of m a)) (λ v. fits m a v ≡ true)
slot-fits m env sets n a w f h = go (find q sets) refl
  where
    q : SetItem → Bool
    q item = eqb item.node n && eqb item.attribute a

    F : SetItem → Type 0
    F item = IsSomeAnd (value_of env item.value) (λ v. fits m item.attribute v ≡ true)

    chosen : (o : Option Value) → IsSomeAnd o (λ v. fits m a v ≡ true) → IsSomeAnd (option_or o (default_of m a)) (λ v. fits m a v ≡ true)
    chosen None i = absurd i
    chosen (Some v) i = i

    go : (o : Option SetItem) → find q sets ≡ o → IsSomeAnd (option_or (option_and_then (λ item. value_of env item.value) o) (default_of m a)) (λ v. fits m a v ≡ true)
    go None e = default-fits m a w h
    go (Some item) e =
        let same : item.attribute ≡ a = eqb-true item.attribute a (and_parts (eqb item.node n) (eqb item.attribute a) (find-passes q sets item e)).1 in
        chosen (value_of env item.value) (subst (λ (b : ℕ). IsSomeAnd (value_of env item.value) (λ v. fits m b v ≡ true)) same (All-find F q sets item f e))

-- The slots of a made object are those of its class.
made_slots-fit : (m : Metamodel) (env : Env) (sets : List SetItem) (n class : ℕ) → IsMeta m → AreFit m env sets → IsConcrete m class → AreSlotsOf m class (made_slots m env sets n class)
made_slots-fit m env sets n class w f c = (c, named (attributes_of m class) typed, All-filter_map V slot (attributes_of m class) (All-weaker T (λ a. (s : Slot) → slot a ≡ Some s → V s) (λ a t s e. value a (option_or (value_set env sets n a) (default_of m a)) (slot-fits m env sets n a w f t) s e) (attributes_of m class) typed))
  where
    T : ℕ → Type 0
    T a = IsSome (type_of m a)

    typed : All T (attributes_of m class)
    typed = filter_passes (λ a. is_some (type_of m a)) (features_of m class)

    V : Slot → Type 0
    V s = fits m s.attribute s.value ≡ true

    with_value : ℕ → Value → Slot
    with_value a v = record { attribute = a; value = v }

    slot : ℕ → Option Slot
    slot a = option_map (with_value a) (option_or (value_set env sets n a) (default_of m a))

    value : (a : ℕ) (o : Option Value) → IsSomeAnd o (λ v. fits m a v ≡ true) → (s : Slot) → option_map (with_value a) o ≡ Some s → V s
    value a None i s e = absurd i
    value a (Some v) i s e = let same : with_value a v ≡ s = cc in subst V same i

    first : (a : ℕ) (rest : List Slot) (o : Option Value) → IsSomeAnd o (λ v. fits m a v ≡ true) → map (λ s. s.attribute) (cons_option (option_map (with_value a) o) rest) ≡ a ∷ map (λ s. s.attribute) rest
    first a rest None i = absurd i
    first a rest (Some v) i = refl

    named : (as' : List ℕ) → All T as' → map (λ s. s.attribute) (filter_map slot as') ≡ as'
    named [] t = refl
    named (a ∷ as') t = first a (filter_map slot as') (option_or (value_set env sets n a) (default_of m a)) (slot-fits m env sets n a w f (All-head T a as' t)) ∙ ap (λ (l : List ℕ). a ∷ l) (named as' (All-tail T a as' t))

objects_for-fit : (m : Metamodel) (env : Env) (sets : List SetItem) (k : ℕ) (nodes : List PatternNode) → IsMeta m → AreFit m env sets → All (NodeFits m) nodes → All (λ o. AreSlotsOf m o.class o.slots) (objects_for m env sets k nodes)
objects_for-fit m env sets k [] w f a = All-nil (λ o. AreSlotsOf m o.class o.slots)
objects_for-fit m env sets k (x ∷ xs) w f a = elim (cases_Bool (is_make x.mark)) [
  | inl e ↦ rw e (All-cons (λ o. AreSlotsOf m o.class o.slots) (record { class = x.class; slots = made_slots m env sets k x.class }) (objects_for m env sets (k + 1) xs) (made_slots-fit m env sets k x.class w f ((All-head (NodeFits m) x xs a).1 e)) (objects_for-fit m env sets (k + 1) xs w f (All-tail (NodeFits m) x xs a)))
  | inr e ↦ rw e (objects_for-fit m env sets (k + 1) xs w f (All-tail (NodeFits m) x xs a))
]

pub left_or_made : (b : Mark) → is_make b ≡ false → is_left b ≡ true
left_or_made Keep e = refl
left_or_made Drop e = refl
left_or_made Make e = sym e

pub not_dropped : (b : Mark) → not (is_drop b) ≡ true → is_drop b ≡ false
not_dropped b h = not-true (is_drop b) h

-- The object that is made for a made node.
made_at : (m : Metamodel) (env : Env) (sets : List SetItem) (k : ℕ) (nodes : List PatternNode) (n : ℕ) (x : PatternNode) (P : ℕ → Type 0) → slice_get nodes n ≡ Some x → is_make x.mark ≡ true → P x.class → IsSomeAnd (slice_get (objects_for m env sets k nodes) (length (made_nodes (take n nodes)))) (λ o. P o.class)
made_at m env sets k [] n x P h l c = absurd (cc)
made_at m env sets k (y ∷ ys) zero x P h l c = let same : y ≡ x = cc in rw (ap (λ (k : PatternNode). is_make k.mark) same ∙ l) (subst (λ (k : PatternNode). P k.class) (sym same) c)
made_at m env sets k (y ∷ ys) (suc n) x P h l c = elim (cases_Bool (is_make y.mark)) [
  | inl e ↦ rw e (made_at m env sets (k + 1) ys n x P h l c)
  | inr e ↦ rw e (made_at m env sets (k + 1) ys n x P h l c)
]

objects_for-length : (m : Metamodel) (env : Env) (sets : List SetItem) (k : ℕ) (nodes : List PatternNode) → length (objects_for m env sets k nodes) ≡ length (made_nodes nodes)
objects_for-length m env sets k [] = refl
objects_for-length m env sets k (x ∷ xs) = elim (cases_Bool (is_make x.mark)) [
  | inl e ↦ rw e (ap suc (objects_for-length m env sets (k + 1) xs))
  | inr e ↦ rw e (objects_for-length m env sets (k + 1) xs)
]

-- How many are made before node n of shape and part together.
made_before : (xs ys : List PatternNode) (n : ℕ) → length xs ≤ n → length (made_nodes (take n (xs ++ ys))) ≡ length (made_nodes xs) + length (made_nodes (take (n - length xs) ys))
made_before [] ys n l = let e : n - 0 ≡ n = omega arith in rw e (sym (zero-add (length (made_nodes (take n ys)))))
made_before (x ∷ xs) ys zero l = absurd (omega arith)
made_before (x ∷ xs) ys (suc n) l =
    let e : suc n - length (x ∷ xs) ≡ n - length xs = omega arith in
    let rest : length (made_nodes (take n (xs ++ ys))) ≡ length (made_nodes xs) + length (made_nodes (take (n - length xs) ys)) = made_before xs ys n (omega arith) in
    elim (cases_Bool (is_make x.mark)) [ inl t ↦ rw (e, t) (omega arith) | inr t ↦ rw (e, t) rest ]

-- An end of an edge that the kernel makes.
kernel_end : (m : Metamodel) (g : Graph) (rule : Rule) (args : Args) (f : Match) (P : ℕ → Type 0) (n : ℕ) → IsRule m rule → IsValid m g rule args f → GoesDown m P → EndFits (joins Make) rule.shape.nodes P n → EndIs g (plan_of m g rule args f) P (end_of rule.shape.nodes f.nodes n)
kernel_end m g rule args f P n w v down s = go (slice_get rule.shape.nodes n) refl s
  where
    nodes : List PatternNode
    nodes = rule.shape.nodes

    plan : Plan
    plan = plan_of m g rule args f

    go : (o : Option PatternNode) → slice_get nodes n ≡ o → IsSomeAnd o (λ node. (joins Make node.mark ≡ true) × P node.class) → EndIs g plan P (end_of nodes f.nodes n)
    go None e s = absurd s
    go (Some x) e s = elim (cases_Bool (is_make x.mark)) [
      | inl d ↦ let made : node_is is_make nodes n ≡ true = rw e d in
          rw made (slice_get-append (λ o. P o.class) (objects_for m (env_of g rule args nodes f.nodes) rule.sets 0 nodes) (flat_map (copy_objects m g rule args (kernel_of f)) (copies_of rule f)) (length (made_nodes (take n nodes))) (made_at m (env_of g rule args nodes f.nodes) rule.sets 0 nodes n x P e d s.1))
      | inr d ↦ let made : node_is is_make nodes n ≡ false = rw e d in
          let left : is_left x.mark ≡ true = left_or_made x.mark d in
          rw made (Stands-down m g P x.class (image nodes f.nodes n) down s.1 (image-at (FitsNode m g) nodes f.nodes n x v.plain.nodes_fit e left), kernel_stays m g rule args f w v n x e left (not_dropped x.mark s.0))
    ]

-- An end of an edge that a copy makes, in a plan that makes the objects of the kernel, of the copies before it, and of this one.
copy_end-fits : (m : Metamodel) (g : Graph) (rule : Rule) (args : Args) (f : Match) (copy : Copy) (front rest : List MadeObject) (P : ℕ → Type 0) (n : ℕ) → IsRule m rule → IsValid m g rule args f → CopyIs m g rule args (kernel_of f) copy → CopyStays rule f copy
    → (plan_of m g rule args f).make_objects ≡ objects_for m (env_of g rule args rule.shape.nodes f.nodes) rule.sets 0 rule.shape.nodes ++ (front ++ (copy_objects m g rule args (kernel_of f) copy ++ rest))
    → GoesDown m P → EndFits (joins Make) (rule.shape.nodes ++ copy.multi.shape.nodes) P n → EndIs g (plan_of m g rule args f) P (copy_end rule (kernel_of f) (length front) copy n)
copy_end-fits m g rule args f copy front rest P n w v is stays objects down s = go (slice_get nodes n) refl s
  where
    kernel : List PatternNode
    kernel = rule.shape.nodes

    own : List PatternNode
    own = copy.multi.shape.nodes

    nodes : List PatternNode
    nodes = kernel ++ own

    images : List ℕ
    images = f.nodes ++ copy.found.nodes

    plan : Plan
    plan = plan_of m g rule args f

    env : Env
    env = env_of g rule args kernel f.nodes

    made : List MadeObject
    made = copy_objects m g rule args (kernel_of f) copy

    K : List MadeObject
    K = objects_for m env rule.sets 0 kernel

    Q : MadeObject → Type 0
    Q o = P o.class

    go : (o : Option PatternNode) → slice_get nodes n ≡ o → IsSomeAnd o (λ node. (joins Make node.mark ≡ true) × P node.class) → EndIs g plan P (copy_end rule (kernel_of f) (length front) copy n)
    go None e s = absurd s
    go (Some x) e s = elim (cases_Bool (ltb n (length kernel))) [
      | inl l ↦ let e' : slice_get kernel n ≡ Some x = sym (slice_get-first kernel own n (ltb-true n (length kernel) l)) ∙ e in
          let s' : EndFits (joins Make) kernel P n = rw e' s in
          rw l (kernel_end m g rule args f P n w v down s')
      | inr l ↦ let more : length kernel ≤ n = ltb-false n (length kernel) l in
          let e' : slice_get own (n - length kernel) ≡ Some x = sym (slice_get-last kernel own n more) ∙ e in
          rw l (elim (cases_Bool (is_make x.mark)) [
            | inl d ↦ let is_made : node_is is_make nodes n ≡ true = rw e d in
                let i : ℕ = length (made_nodes (take (n - length kernel) own)) in
                let here : IsSomeAnd (slice_get made i) Q = made_at m (copy_env g rule args (kernel_of f) copy) copy.multi.sets (length kernel) own (n - length kernel) x P e' d s.1 in
                let a : IsSomeAnd (slice_get (front ++ (made ++ rest)) (length front + i)) Q = slice_get-behind Q front (made ++ rest) i (length front + i) refl (slice_get-append Q made rest i here) in
                let k : ℕ = length (made_nodes (take n nodes)) + length front in
                let at : k ≡ length K + (length front + i) = omega (arith, made_before kernel own n more, objects_for-length m env rule.sets 0 kernel) in
                rw (is_made, objects) (slice_get-behind Q K (front ++ (made ++ rest)) (length front + i) k at a)
            | inr d ↦ let is_made : node_is is_make nodes n ≡ false = rw e d in
                let left : is_left x.mark ≡ true = left_or_made x.mark d in
                rw is_made (Stands-down m g P x.class (image nodes images n) down s.1 (image-at (FitsNode m g) nodes images n x (joined m g rule.shape (kernel_of f) copy.multi.shape copy.found v.plain is.extends.0) e left), stays n x more e left (not_dropped x.mark s.0))
          ])
    ]

-- Edges that are made can be made where their ends can.
edges_for-fit : (m : Metamodel) (g : Graph) (plan : Plan) (nodes : List PatternNode) (end : ℕ → End) (edges : List PatternEdge) → IsMeta m → ((P : ℕ → Type 0) (n : ℕ) → GoesDown m P → EndFits (joins Make) nodes P n → EndIs g plan P (end n)) → All (λ edge. EdgeFits m (joins edge.mark) nodes edge) edges → All (CanBeMade m g plan) (edges_for end edges)
edges_for-fit m g plan nodes end edges w ends a = All-map (CanBeMade m g plan) made (made_edges edges) (All-kept (λ edge. EdgeFits m (joins edge.mark) nodes edge) (λ edge. CanBeMade m g plan (made edge)) (λ edge. is_make edge.mark) edges each a)
  where
    made : PatternEdge → MadeEdge
    made edge = record { source = end edge.source; reference = edge.reference; target = end edge.target }

    joins_make : (k : Mark) → is_make k ≡ true → k ≡ Make
    joins_make Keep h = absurd (both_ways false refl h)
    joins_make Drop h = absurd (both_ways false refl h)
    joins_make Make h = refl

    target : (edge : PatternEdge) (o : Option ℕ) → IsSomeAnd o (λ class. EndFits (joins Make) nodes (λ c. Conforms m c class) edge.target) → IsSomeAnd o (λ class. EndIs g plan (λ c. Conforms m c class) (end edge.target))
    target edge None h = h
    target edge (Some class) h = ends (λ c. Conforms m c class) edge.target (conforms-down m class) h

    each : (edge : PatternEdge) → is_make edge.mark ≡ true → EdgeFits m (joins edge.mark) nodes edge → CanBeMade m g plan (made edge)
    each edge k h = let h' : EdgeFits m (joins Make) nodes edge = subst (λ (b : Mark). EdgeFits m (joins b) nodes edge) (joins_make edge.mark k) h in
        (ends (λ c. has (features_of m c) edge.reference ≡ true) edge.source (feature-down m edge.reference w) h'.0, target edge (target_of m edge.reference) h'.1)

flat_map-append : {A B : Type 0} (h : A → List B) (xs ys : List A) → flat_map h (xs ++ ys) ≡ flat_map h xs ++ flat_map h ys
flat_map-append h [] ys = refl
flat_map-append h (x ∷ xs) ys = ap (λ l. h x ++ l) (flat_map-append h xs ys) ∙ sym (append_assoc (h x) (flat_map h xs) (flat_map h ys))

-- The edges of all copies can be made.
copy_edges-fit : (m : Metamodel) (g : Graph) (rule : Rule) (args : Args) (f : Match) (done copies : List Copy) → IsMeta m → IsRule m rule → IsValid m g rule args f → All (λ copy. CopyIs m g rule args (kernel_of f) copy × CopyStays rule f copy) copies → copies_of rule f ≡ done ++ copies → All (CanBeMade m g (plan_of m g rule args f)) (copy_edges rule (kernel_of f) (length (flat_map (copy_objects m g rule args (kernel_of f)) done)) copies)
copy_edges-fit m g rule args f done [] d w v a e = All-nil (CanBeMade m g (plan_of m g rule args f))
copy_edges-fit m g rule args f done (copy ∷ copies) d w v a e = All-append (CanBeMade m g plan) (edges_for (copy_end rule k (length front) copy) copy.multi.shape.edges) (copy_edges rule k (length front + length (made_nodes copy.multi.shape.nodes)) copies)
    (edges_for-fit m g plan (rule.shape.nodes ++ copy.multi.shape.nodes) (copy_end rule k (length front) copy) copy.multi.shape.edges d (λ P n down s. copy_end-fits m g rule args f copy front (flat_map objects copies) P n w v here.0 here.1 all down s) here.0.multi.form.edges_fit)
    (subst (λ (count : ℕ). All (CanBeMade m g plan) (copy_edges rule k count copies)) count (copy_edges-fit m g rule args f (done ++ copy ∷ []) copies d w v (All-tail (λ copy. CopyIs m g rule args k copy × CopyStays rule f copy) copy copies a) (e ∙ sym (append_assoc done (copy ∷ []) copies))))
  where
    k : Extension
    k = kernel_of f

    plan : Plan
    plan = plan_of m g rule args f

    objects : Copy → List MadeObject
    objects = copy_objects m g rule args k

    front : List MadeObject
    front = flat_map objects done

    here : CopyIs m g rule args k copy × CopyStays rule f copy
    here = All-head (λ copy. CopyIs m g rule args k copy × CopyStays rule f copy) copy copies a

    count : length (flat_map objects (done ++ copy ∷ [])) ≡ length front + length (made_nodes copy.multi.shape.nodes)
    count = ap length (flat_map-append objects done (copy ∷ [])) ∙ (length-append front (objects copy ++ []) ∙ ap (λ (i : ℕ). length front + i) (ap length (append-nil (objects copy)) ∙ objects_for-length m (copy_env g rule args k copy) copy.multi.sets (length rule.shape.nodes) copy.multi.shape.nodes))

    all : plan.make_objects ≡ objects_for m (env_of g rule args rule.shape.nodes f.nodes) rule.sets 0 rule.shape.nodes ++ (front ++ (objects copy ++ flat_map objects copies))
    all = ap (λ (l : List MadeObject). objects_for m (env_of g rule args rule.shape.nodes f.nodes) rule.sets 0 rule.shape.nodes ++ l) (ap (flat_map objects) e ∙ flat_map-append objects done (copy ∷ copies))

-- What a valid match plans carries the graph on.
pub plan-carries : (m : Metamodel) (g : Graph) (rule : Rule) (args : Args) (f : Match) → IsMeta m → IsRule m rule → IsValid m g rule args f → Carries m g (plan_of m g rule args f)
plan-carries m g rule args f d w v = record {
  none_dangle = v.none_dangle;
  values_fit = All-append W (writes_of env nodes f.nodes rule.sets) (flat_map (copy_writes g rule args k) copies) (writes_fit m env nodes f.nodes rule.sets v.sets_fit) (All-flat_map W (copy_writes g rule args k) copies (All-weaker (CopyIs m g rule args k) (λ copy. All W (copy_writes g rule args k copy)) (λ copy i. writes_fit m (copy_env g rule args k copy) (nodes_of rule copy.multi) (images_of k copy.found) copy.multi.sets i.sets_fit) copies are));
  objects_fit = All-append O (objects_for m env rule.sets 0 nodes) (flat_map (copy_objects m g rule args k) copies) (objects_for-fit m env rule.sets 0 nodes d v.sets_fit w.kernel.form.nodes_fit) (All-flat_map O (copy_objects m g rule args k) copies (All-weaker (CopyIs m g rule args k) (λ copy. All O (copy_objects m g rule args k copy)) (λ copy i. objects_for-fit m (copy_env g rule args k copy) copy.multi.sets (length nodes) copy.multi.shape.nodes d i.sets_fit i.multi.form.nodes_fit) copies are));
  edges_fit = All-append (CanBeMade m g plan) (edges_for (end_of nodes f.nodes) rule.shape.edges) (copy_edges rule k 0 copies) (edges_for-fit m g plan nodes (end_of nodes f.nodes) rule.shape.edges d (λ P n down s. kernel_end m g rule args f P n w v down s) w.kernel.form.edges_fit) (copy_edges-fit m g rule args f [] copies d w v (All-both (CopyIs m g rule args k) (CopyStays rule f) copies are (copies_stay m g rule args f w v)) refl);
}
  where
    k : Extension
    k = kernel_of f

    plan : Plan
    plan = plan_of m g rule args f

    nodes : List PatternNode
    nodes = rule.shape.nodes

    env : Env
    env = env_of g rule args nodes f.nodes

    copies : List Copy
    copies = copies_of rule f

    are : All (CopyIs m g rule args k) copies
    are = copies_are m g rule args f w v

    W : Write → Type 0
    W write = SlotFits m write.slot write.value

    O : MadeObject → Type 0
    O o = AreSlotsOf m o.class o.slots

-- The step of a valid match of a typed graph is a typed graph.
pub IsTyped-applied : (m : Metamodel) (g : Graph) (rule : Rule) (args : Args) (f : Match) → IsMeta m → IsRule m rule → IsTyped m g → IsValid m g rule args f → IsTyped m (step g (plan_of m g rule args f))
IsTyped-applied m g rule args f d w t v = IsTyped-step m g (plan_of m g rule args f) t (plan-carries m g rule args f d w v)
