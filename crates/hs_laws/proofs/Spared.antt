-- A valid match stays valid, with the same plan, after a plan that spares it.
use Rattle.std.proofs.Common.{ℕ, ◌+◌, ◌≡◌, inl, inr, List, [], ◌∷◌, ◌++◌, map, length, get_or, Bool, true, false, not, ◌&&◌, eqb, Option, Some, None, IsSomeAnd, IfSome, refl, sym, ap, ◌∙◌, subst}
use Rattle.std.specs.List.{All, AllZip, filter, find, list_any, flat_map}
use Rattle.std.specs.Option.{option_map, option_and_then, option_or}
use Rattle.std.proofs.lemmas.Bool.{cases_Bool}
use Rattle.std.proofs.lemmas.List.Elements.{All-nil, All-cons, All-head, All-tail, All-append, All-weaker, All-filter, All-map}
use Rattle.hs_expr.specs.declared.expr.Expr.{Expr}
use Rattle.hs_expr.specs.declared.expr.SlotRead.{SlotRead}
use Rattle.hs_expr.specs.declared.value.Value.{Value}
use Rattle.hs_expr.specs.declared.value.Value.TheVariants as value
use Rattle.hs_expr.specs.Evaluation.{Env, reads_of, value_of}
use Rattle.hs_types.specs.declared.graph.Graph.{Graph}
use Rattle.hs_types.specs.declared.graph.Slot.{Slot}
use Rattle.hs_types.specs.declared.matching.Extension.{Extension}
use Rattle.hs_types.specs.declared.matching.Match.{Match}
use Rattle.hs_types.specs.declared.meta.Metamodel.{Metamodel}
use Rattle.hs_types.specs.Plan.{MadeObject, Plan, copy_objects, copy_writes, made_slots, objects_for, plan_of, value_set, writes_of}
use Rattle.hs_types.specs.declared.plan.Write.{Write}
use Rattle.hs_types.specs.declared.request.Args.{Args}
use Rattle.hs_types.specs.declared.rule.Multi.{Multi}
use Rattle.hs_types.specs.declared.rule.Part.{Part}
use Rattle.hs_types.specs.declared.rule.PatternNode.{PatternNode}
use Rattle.hs_types.specs.declared.rule.Rule.{Rule}
use Rattle.hs_types.specs.declared.rule.SetItem.{SetItem}
use Rattle.hs_types.specs.declared.rule.Shape.{Shape}
use Rattle.hs_types.specs.declared.rule.SlotKind.TheVariants.{Attribute}
use Rattle.hs_types.specs.Arguments.{Follows, object_argument}
use Rattle.hs_types.specs.Conditions.{AreFit, AreTrue, IsAbsent, IsPresent, env_of}
use Rattle.hs_types.specs.Copies.{AreCopies, Copy, CopyFits, IsCopy, copies_from, copies_of, copy_env, images_of, nodes_of, all_dropped_edges, all_dropped_nodes}
use Rattle.hs_expr.specs.Lists.{has, Apart}
use Rattle.hs_types.specs.Metamodel.{attributes_of, default_of, fits}
use Rattle.hs_types.specs.Pattern.{is_make, left_nodes, no_shape, node_is, shape_of}
use Rattle.hs_types.specs.PlainMatch.{Extends, IsPlain, image, kernel_of, no_match}
use Rattle.hs_types.specs.RuleForm.{IsRule, reads_in}
use Rattle.hs_types.specs.Spares.{IsOld, IsSupported, LeavesKinds, Spares, touches_kind}
use Rattle.hs_types.specs.Step.{is_to, step}
use Rattle.hs_types.specs.TypedGraph.{name_at, value_at}
use Rattle.hs_laws.proofs.Images.{FitsNode, image-front, joined}
use Rattle.hs_laws.proofs.Kept.{Extends-kept, Extends-old, Extends-unmade, NoneDangle-kept, Stays, has_slot-all, unwritten_kind, value-stays}
use Rattle.hs_expr.proofs.Lists.{All-both, All-find, All-front, All-of_flat_map, All-of_map, All-rest_of, AllZip-with, filter_map-same, flat_map-same}
use Rattle.hs_types.proofs.AfterStep.{name_at-kept}
use Rattle.hs_laws.proofs.Reading.{ReadsKernel, ReadsMulti, kernel_read, multi_read}
use Rattle.hs_laws.proofs.Values.{Agree, value_of-same}

-- Expressions that read the same have the same values, and the same effect.
abbrev Same : Env → Env → Expr → Type 0
Same a b expr = value_of a expr ≡ value_of b expr

abbrev SetsSame : Env → Env → List SetItem → Type 0
SetsSame a b sets = All (λ item. Same a b item.value) sets

AreTrue-same : (a b : Env) (wheres : List Expr) → All (Same a b) wheres → AreTrue a wheres → AreTrue b wheres
AreTrue-same a b wheres s h = All-weaker (λ expr. Same a b expr × (value_of a expr ≡ Some (value.Bool true))) (λ expr. value_of b expr ≡ Some (value.Bool true)) (λ expr k. sym k.0 ∙ k.1) wheres (All-both (Same a b) (λ expr. value_of a expr ≡ Some (value.Bool true)) wheres s h)

AreFit-same : (m : Metamodel) (a b : Env) (sets : List SetItem) → SetsSame a b sets → AreFit m a sets → AreFit m b sets
AreFit-same m a b sets s h = All-weaker (λ item. Same a b item.value × F item (value_of a item.value)) (λ item. F item (value_of b item.value)) (λ item k. subst (F item) k.0 k.1) sets (All-both (λ item. Same a b item.value) (λ item. F item (value_of a item.value)) sets s h)
  where
    F : SetItem → Option Value → Type 0
    F item o = IsSomeAnd o (λ v. fits m item.attribute v ≡ true)

writes_of-same : (a b : Env) (nodes : List PatternNode) (images : List ℕ) (sets : List SetItem) → SetsSame a b sets → writes_of a nodes images sets ≡ writes_of b nodes images sets
writes_of-same a b nodes images sets s = filter_map-same (write a) (write b) (filter q sets) (All-weaker (λ item. Same a b item.value) (λ item. write a item ≡ write b item) (λ item k. ap (option_map (made item)) k) (filter q sets) (All-filter q (λ item. Same a b item.value) sets s))
  where
    q : SetItem → Bool
    q item = not (node_is is_make nodes item.node)

    made : SetItem → Value → Write
    made item v = record { object = image nodes images item.node; slot = Attribute item.attribute; value = v }

    write : Env → SetItem → Option Write
    write env item = option_map (made item) (value_of env item.value)

value_set-same : (a b : Env) (sets : List SetItem) (n k : ℕ) → SetsSame a b sets → value_set a sets n k ≡ value_set b sets n k
value_set-same a b sets n k s = go (find q sets) refl
  where
    q : SetItem → Bool
    q item = eqb item.node n && eqb item.attribute k

    go : (o : Option SetItem) → find q sets ≡ o → option_and_then (λ item. value_of a item.value) o ≡ option_and_then (λ item. value_of b item.value) o
    go None e = refl
    go (Some item) e = All-find (λ item. Same a b item.value) q sets item s e

objects_for-same : (m : Metamodel) (a b : Env) (sets : List SetItem) (n : ℕ) (nodes : List PatternNode) → SetsSame a b sets → objects_for m a sets n nodes ≡ objects_for m b sets n nodes
objects_for-same m a b sets n [] s = refl
objects_for-same m a b sets n (x ∷ xs) s = elim (cases_Bool (is_make x.mark)) [
  | inl e ↦ rw e (ap (λ (slots : List Slot). record { class = x.class; slots = slots } ∷ objects_for m a sets (n + 1) xs) slots ∙ ap (λ (l : List MadeObject). record { class = x.class; slots = made_slots m b sets n x.class } ∷ l) (objects_for-same m a b sets (n + 1) xs s))
  | inr e ↦ rw e (objects_for-same m a b sets (n + 1) xs s)
]
  where
    slot : ℕ → Value → Slot
    slot k v = record { attribute = k; value = v }

    slots : made_slots m a sets n x.class ≡ made_slots m b sets n x.class
    slots = filter_map-same (λ k. option_map (slot k) (option_or (value_set a sets n k) (default_of m k))) (λ k. option_map (slot k) (option_or (value_set b sets n k) (default_of m k))) (attributes_of m x.class) (λ i d l. ap (λ (o : Option Value). option_map (slot (get_or (attributes_of m x.class) i d)) (option_or o (default_of m (get_or (attributes_of m x.class) i d)))) (value_set-same a b sets n (get_or (attributes_of m x.class) i d) s))

-- Blocks whose reads agree.
wheres-same : (a b : Env) → ((n : ℕ) → a.param n ≡ b.param n) → (wheres : List Expr) (sets : List SetItem) → Agree a b (reads_in wheres sets) → All (Same a b) wheres
wheres-same a b params wheres sets h = All-weaker (λ expr. Agree a b (reads_of expr)) (Same a b) (λ expr k. value_of-same a b params expr k) wheres (All-of_flat_map S reads_of wheres (All-front S (flat_map reads_of wheres) (flat_map (λ item. reads_of item.value) sets) h))
  where
    S : SlotRead → Type 0
    S read = a.slot read.node read.attribute ≡ b.slot read.node read.attribute

sets-same : (a b : Env) → ((n : ℕ) → a.param n ≡ b.param n) → (wheres : List Expr) (sets : List SetItem) → Agree a b (reads_in wheres sets) → SetsSame a b sets
sets-same a b params wheres sets h = All-weaker (λ item. Agree a b (reads_of item.value)) (λ item. Same a b item.value) (λ item k. value_of-same a b params item.value k) sets (All-of_flat_map S (λ item. reads_of item.value) sets (All-rest_of S (flat_map reads_of wheres) (flat_map (λ item. reads_of item.value) sets) h))
  where
    S : SlotRead → Type 0
    S read = a.slot read.node read.attribute ≡ b.slot read.node read.attribute

-- Nothing is written where the kernel uses a slot.
abbrev Unwritten : Rule → Extension → Plan → Type 0
Unwritten rule f p = All (λ slot. list_any (is_to (image rule.shape.nodes f.nodes slot.node) slot.kind) p.writes ≡ false) rule.shape.slots

-- What the kernel's expressions see stays.
kernel-agree : (m : Metamodel) (g : Graph) (p : Plan) (rule : Rule) (args : Args) (f : Extension) → All (ReadsKernel rule) (reads_in rule.wheres rule.sets) → IsPlain m g rule.shape f → Apart f.nodes p.drop_objects → Unwritten rule f p → Agree (env_of g rule args rule.shape.nodes f.nodes) (env_of (step g p) rule args rule.shape.nodes f.nodes) (reads_in rule.wheres rule.sets)
kernel-agree m g p rule args f reads h stay unwritten = All-weaker (ReadsKernel rule) (λ read. value_at g (image rule.shape.nodes f.nodes read.node) (Attribute read.attribute) ≡ value_at (step g p) (image rule.shape.nodes f.nodes read.node) (Attribute read.attribute)) (λ read k. sym (value-stays m g p rule.shape.nodes f.nodes read.node (Attribute read.attribute) h.nodes_fit stay k.0 (has_slot-all (λ n kind. list_any (is_to (image rule.shape.nodes f.nodes n) kind) p.writes ≡ false) rule.shape.slots read.node (Attribute read.attribute) unwritten k.1))) (reads_in rule.wheres rule.sets) reads

-- What a copy's expressions see stays.
copy-agree : (m : Metamodel) (g : Graph) (p : Plan) (rule : Rule) (args : Args) (f : Extension) (copy : Copy) → All (ReadsMulti rule copy.multi) (reads_in copy.multi.wheres copy.multi.sets) → IsPlain m g rule.shape f → Extends m g rule.shape f copy.multi.shape copy.found → Apart f.nodes p.drop_objects → Apart copy.found.nodes p.drop_objects → Unwritten rule f p → LeavesKinds m p copy.multi → Agree (copy_env g rule args f copy) (copy_env (step g p) rule args f copy) (reads_in copy.multi.wheres copy.multi.sets)
copy-agree m g p rule args f copy reads h e stay own unwritten leaves = All-weaker (ReadsMulti rule copy.multi) (λ read. value_at g (image nodes images read.node) (Attribute read.attribute) ≡ value_at (step g p) (image nodes images read.node) (Attribute read.attribute)) (λ read k. sym (value-stays m g p nodes images read.node (Attribute read.attribute) (joined m g rule.shape f copy.multi.shape copy.found h e) (All-append (Stays p.drop_objects) f.nodes copy.found.nodes stay own) k.0 (elim k.1 [
  | inl l ↦ subst (λ (i : ℕ). list_any (is_to i (Attribute read.attribute)) p.writes ≡ false) (sym (image-front (FitsNode m g) rule.shape.nodes copy.multi.shape.nodes f.nodes copy.found.nodes read.node h.nodes_fit l.0)) (has_slot-all (λ n kind. list_any (is_to (image rule.shape.nodes f.nodes n) kind) p.writes ≡ false) rule.shape.slots read.node (Attribute read.attribute) unwritten l.1)
  | inr l ↦ has_slot-all (λ n kind. list_any (is_to (image nodes images n) kind) p.writes ≡ false) copy.multi.shape.slots read.node (Attribute read.attribute) (All-weaker (λ slot. touches_kind p slot.kind ≡ false) (λ slot. list_any (is_to (image nodes images slot.node) slot.kind) p.writes ≡ false) (λ slot k. unwritten_kind (image nodes images slot.node) slot.kind p.writes k) copy.multi.shape.slots leaves.slots) l
]))) (reads_in copy.multi.wheres copy.multi.sets) reads
  where
    nodes : List PatternNode
    nodes = rule.shape.nodes ++ copy.multi.shape.nodes

    images : List ℕ
    images = f.nodes ++ copy.found.nodes

-- A multi-rule keeps all its copies, and gets no new one.
AreCopies-kept : (m : Metamodel) (g : Graph) (p : Plan) (rule : Rule) (args : Args) (f : Extension) (multi : Multi) (xs : List Extension) → All (ReadsMulti rule multi) (reads_in multi.wheres multi.sets) → IsPlain m g rule.shape f → Apart f.nodes p.drop_objects → All (λ x. Apart x.nodes p.drop_objects × Apart x.edges p.drop_edges) xs → Unwritten rule f p → LeavesKinds m p multi → AreCopies m g rule args f multi xs → AreCopies m (step g p) rule args f multi xs
AreCopies-kept m g p rule args f multi xs reads h stay own unwritten leaves k = record {
  each = All-weaker (λ x. S x × C x) (IsCopy m (step g p) rule args f multi) (λ x i. (Extends-kept m g p rule.shape f multi.shape x i.0.0 i.0.1 i.1.0, AreTrue-same (env g x) (env (step g p) x) multi.wheres (trues x i.1.0 i.0.0) i.1.1)) xs (All-both S C xs own k.each);
  whole = λ x i. k.whole x (back x i);
  in_order = k.in_order;
}
  where
    S : Extension → Type 0
    S x = Apart x.nodes p.drop_objects × Apart x.edges p.drop_edges

    C : Extension → Type 0
    C x = IsCopy m g rule args f multi x

    copy : Extension → Copy
    copy x = record { multi = multi; found = x }

    env : Graph → Extension → Env
    env g x = copy_env g rule args f (copy x)

    agree : (x : Extension) → Extends m g rule.shape f multi.shape x → Apart x.nodes p.drop_objects → Agree (env g x) (env (step g p) x) (reads_in multi.wheres multi.sets)
    agree x e d = copy-agree m g p rule args f (copy x) reads h e stay d unwritten leaves

    trues : (x : Extension) → Extends m g rule.shape f multi.shape x → Apart x.nodes p.drop_objects → All (Same (env g x) (env (step g p) x)) multi.wheres
    trues x e d = wheres-same (env g x) (env (step g p) x) (λ n. refl) multi.wheres multi.sets (agree x e d)

    back : (x : Extension) → IsCopy m (step g p) rule args f multi x → C x
    back x i = let e = Extends-unmade m g p rule.shape f multi.shape x leaves.makes i.0 in
        (e.0, AreTrue-same (env (step g p) x) (env g x) multi.wheres (All-weaker (Same (env g x) (env (step g p) x)) (Same (env (step g p) x) (env g x)) (λ expr s. sym s) multi.wheres (trues x e.0 e.1)) i.1)

copies-kept : (m : Metamodel) (g : Graph) (p : Plan) (rule : Rule) (args : Args) (f : Extension) (multis : List Multi) (lists : List (List Extension)) → All (λ multi. All (ReadsMulti rule multi) (reads_in multi.wheres multi.sets)) multis → IsPlain m g rule.shape f → Apart f.nodes p.drop_objects → All (λ copy. Apart copy.found.nodes p.drop_objects × Apart copy.found.edges p.drop_edges) (copies_from multis lists) → Unwritten rule f p → All (LeavesKinds m p) multis → AllZip (AreCopies m g rule args f) multis lists → AllZip (AreCopies m (step g p) rule args f) multis lists
copies-kept m g p rule args f [] [] reads h stay own u leaves k = tt
copies-kept m g p rule args f [] (xs ∷ lists) reads h stay own u leaves k = absurd k
copies-kept m g p rule args f (multi ∷ multis) [] reads h stay own u leaves k = absurd k
copies-kept m g p rule args f (multi ∷ multis) (xs ∷ lists) reads h stay own u leaves k =
    let R : Multi → Type 0 = λ multi. All (ReadsMulti rule multi) (reads_in multi.wheres multi.sets) in
    let S : Copy → Type 0 = λ copy. Apart copy.found.nodes p.drop_objects × Apart copy.found.edges p.drop_edges in
    let made : Extension → Copy = λ x. record { multi = multi; found = x } in (
      AreCopies-kept m g p rule args f multi xs (All-head R multi multis reads) h stay (All-of_map S made xs (All-front S (map made xs) (copies_from multis lists) own)) u (All-head (LeavesKinds m p) multi multis leaves) k.0,
      copies-kept m g p rule args f multis lists (All-tail R multi multis reads) h stay (All-rest_of S (map made xs) (copies_from multis lists) own) u (All-tail (LeavesKinds m p) multi multis leaves) k.1,
    )

-- Each copy of a valid match is a copy of a multi-rule of the rule, of which what holds of all of them holds.
pub copies_each : (m : Metamodel) (g : Graph) (rule : Rule) (args : Args) (f : Extension) (R : Multi → Type 0) (multis : List Multi) (lists : List (List Extension)) → All R multis → AllZip (AreCopies m g rule args f) multis lists → All (λ copy. R copy.multi × IsCopy m g rule args f copy.multi copy.found) (copies_from multis lists)
copies_each m g rule args f R [] [] a k = All-nil (λ copy. R copy.multi × IsCopy m g rule args f copy.multi copy.found)
copies_each m g rule args f R [] (xs ∷ lists) a k = absurd k
copies_each m g rule args f R (multi ∷ multis) [] a k = absurd k
copies_each m g rule args f R (multi ∷ multis) (xs ∷ lists) a k =
    let C : Copy → Type 0 = λ copy. R copy.multi × IsCopy m g rule args f copy.multi copy.found in
    let made : Extension → Copy = λ x. record { multi = multi; found = x } in
    let I : Extension → Type 0 = IsCopy m g rule args f multi in
    All-append C (map made xs) (copies_from multis lists) (All-map C made xs (All-weaker I (λ x. C (made x)) (λ x i. (All-head R multi multis a, i)) xs k.0.each))
    (copies_each m g rule args f R multis lists (All-tail R multi multis a) k.1)

supported-kept : (m : Metamodel) (g : Graph) (p : Plan) (s : Shape) (f : Extension) (needs : List Part) (xs : List Extension) → Apart (flat_map (λ x. x.nodes) xs) p.drop_objects → Apart (flat_map (λ x. x.edges) xs) p.drop_edges → AllZip (λ part x. Extends m g s f (shape_of part) x) needs xs → AllZip (λ part x. Extends m (step g p) s f (shape_of part) x) needs xs
supported-kept m g p s f [] [] a b h = tt
supported-kept m g p s f [] (x ∷ xs) a b h = absurd h
supported-kept m g p s f (t ∷ ts) [] a b h = absurd h
supported-kept m g p s f (t ∷ ts) (x ∷ xs) a b h =
    let ns : List ℕ = flat_map (λ x. x.nodes) xs in
    let es : List ℕ = flat_map (λ x. x.edges) xs in (
      Extends-kept m g p s f (shape_of t) x (All-front (Stays p.drop_objects) x.nodes ns a) (All-front (Stays p.drop_edges) x.edges es b) h.0,
      supported-kept m g p s f ts xs (All-rest_of (Stays p.drop_objects) x.nodes ns a) (All-rest_of (Stays p.drop_edges) x.edges es b) h.1,
    )

supported-present : (m : Metamodel) (g : Graph) (rule : Rule) (f : Extension) (needs : List Part) (xs : List Extension) → AllZip (λ part x. Extends m g rule.shape f (shape_of part) x) needs xs → All (IsPresent m g rule f) needs
supported-present m g rule f [] [] h = All-nil (IsPresent m g rule f)
supported-present m g rule f [] (x ∷ xs) h = absurd h
supported-present m g rule f (t ∷ ts) [] h = absurd h
supported-present m g rule f (t ∷ ts) (x ∷ xs) h = All-cons (IsPresent m g rule f) t ts (x, h.0) (supported-present m g rule f ts xs h.1)

-- What the copies of a spared match set stays.
abbrev CopySame : Graph → Plan → Rule → Args → Extension → Copy → Type 0
CopySame g p rule args f copy = SetsSame (copy_env g rule args f copy) (copy_env (step g p) rule args f copy) copy.multi.sets

copies-same_sets : (m : Metamodel) (g : Graph) (p : Plan) (rule : Rule) (args : Args) (f : Match) (supports : List Extension) → IsRule m rule → IsSupported m g rule args f supports → Spares m g p rule f supports → All (CopySame g p rule args (kernel_of f)) (copies_of rule f)
copies-same_sets m g p rule args f supports w v l = All-weaker (λ copy. (R copy.multi × IsCopy m g rule args k copy.multi copy.found) × Apart copy.found.nodes p.drop_objects) (CopySame g p rule args k) (λ copy i. sets-same (copy_env g rule args k copy) (copy_env (step g p) rule args k copy) (λ n. refl) copy.multi.wheres copy.multi.sets (copy-agree m g p rule args k copy i.0.0.0 v.valid.plain i.0.1.0 stay i.1 l.slots i.0.0.1)) copies
    (All-both (λ copy. R copy.multi × IsCopy m g rule args k copy.multi copy.found) (λ copy. Apart copy.found.nodes p.drop_objects) copies (copies_each m g rule args k R rule.multis f.copies (All-both (λ multi. All (ReadsMulti rule multi) (reads_in multi.wheres multi.sets)) (LeavesKinds m p) rule.multis (multi_read m rule w) l.multis) v.valid.copies) (All-of_flat_map (Stays p.drop_objects) (λ copy. copy.found.nodes) copies (All-rest_of (Stays p.drop_objects) f.nodes ns nodes)))
  where
    k : Extension
    k = kernel_of f

    copies : List Copy
    copies = copies_of rule f

    ns : List ℕ
    ns = flat_map (λ copy. copy.found.nodes) copies

    nodes : Apart (f.nodes ++ ns) p.drop_objects
    nodes = All-front (Stays p.drop_objects) (f.nodes ++ ns) (flat_map (λ x. x.nodes) supports) l.objects

    stay : Apart f.nodes p.drop_objects
    stay = All-front (Stays p.drop_objects) f.nodes ns nodes

    R : Multi → Type 0
    R multi = All (ReadsMulti rule multi) (reads_in multi.wheres multi.sets) × LeavesKinds m p multi

-- The theorem: a plan that spares a supported match leaves it supported.
pub IsSupported-kept : (m : Metamodel) (g : Graph) (p : Plan) (rule : Rule) (args : Args) (f : Match) (supports : List Extension) → IsRule m rule → IsSupported m g rule args f supports → Spares m g p rule f supports → IsSupported m (step g p) rule args f supports
IsSupported-kept m g p rule args f supports w v l = record {
  valid = record {
    plain = Extends-kept m g p no_shape no_match rule.shape k stay (All-front (Stays p.drop_edges) f.edges es edges) h;
    follows = AllZip-with (Stays p.drop_objects) (Follows g args) (Follows (step g p) args) (λ node n d i. named node n (object_argument args node.name) d i) (left_nodes rule.shape.nodes) f.nodes stay v.valid.follows;
    none_dangle = NoneDangle-kept (all_dropped_nodes rule f) (all_dropped_edges rule f) g p l.ends v.valid.none_dangle;
    wheres = AreTrue-same before after rule.wheres (wheres-same before after (λ n. refl) rule.wheres rule.sets agree) v.valid.wheres;
    sets_fit = AreFit-same m before after rule.sets (sets-same before after (λ n. refl) rule.wheres rule.sets agree) v.valid.sets_fit;
    forbids = All-weaker (λ t. IsAbsent m g rule k t × ((x : Extension) → Extends m (step g p) rule.shape k (shape_of t) x → IsOld g x)) (IsAbsent m (step g p) rule k) (λ t i x e. i.0 x (Extends-old m g p rule.shape k (shape_of t) x (i.1 x e) e)) rule.forbids (All-both (IsAbsent m g rule k) (λ t. (x : Extension) → Extends m (step g p) rule.shape k (shape_of t) x → IsOld g x) rule.forbids v.valid.forbids l.forbids);
    needs = supported-present m (step g p) rule k rule.needs supports supported;
    copies = copies-kept m g p rule args k rule.multis f.copies (multi_read m rule w) h stay own l.slots l.multis v.valid.copies;
    copies_fit = All-weaker (λ copy. CopySame g p rule args k copy × CopyFits m g rule args k copy) (CopyFits m (step g p) rule args k) (λ copy i. AreFit-same m (copy_env g rule args k copy) (copy_env (step g p) rule args k copy) copy.multi.sets i.0 i.1) (copies_of rule f) (All-both (CopySame g p rule args k) (CopyFits m g rule args k) (copies_of rule f) (copies-same_sets m g p rule args f supports w v l) v.valid.copies_fit);
    none_touch = v.valid.none_touch;
  };
  supported = supported;
}
  where
    k : Extension
    k = kernel_of f

    h : IsPlain m g rule.shape k
    h = v.valid.plain

    ns : List ℕ
    ns = flat_map (λ copy. copy.found.nodes) (copies_of rule f)

    es : List ℕ
    es = flat_map (λ copy. copy.found.edges) (copies_of rule f)

    nodes : Apart (f.nodes ++ ns) p.drop_objects
    nodes = All-front (Stays p.drop_objects) (f.nodes ++ ns) (flat_map (λ x. x.nodes) supports) l.objects

    edges : Apart (f.edges ++ es) p.drop_edges
    edges = All-front (Stays p.drop_edges) (f.edges ++ es) (flat_map (λ x. x.edges) supports) l.edges

    stay : Apart f.nodes p.drop_objects
    stay = All-front (Stays p.drop_objects) f.nodes ns nodes

    own : All (λ copy. Apart copy.found.nodes p.drop_objects × Apart copy.found.edges p.drop_edges) (copies_of rule f)
    own = All-both (λ copy. Apart copy.found.nodes p.drop_objects) (λ copy. Apart copy.found.edges p.drop_edges) (copies_of rule f) (All-of_flat_map (Stays p.drop_objects) (λ copy. copy.found.nodes) (copies_of rule f) (All-rest_of (Stays p.drop_objects) f.nodes ns nodes)) (All-of_flat_map (Stays p.drop_edges) (λ copy. copy.found.edges) (copies_of rule f) (All-rest_of (Stays p.drop_edges) f.edges es edges))

    before : Env
    before = env_of g rule args rule.shape.nodes f.nodes

    after : Env
    after = env_of (step g p) rule args rule.shape.nodes f.nodes

    agree : Agree before after (reads_in rule.wheres rule.sets)
    agree = kernel-agree m g p rule args k (kernel_read m rule w) h stay l.slots

    supported : AllZip (λ part x. Extends m (step g p) rule.shape k (shape_of part) x) rule.needs supports
    supported = supported-kept m g p rule.shape k rule.needs supports (All-rest_of (Stays p.drop_objects) (f.nodes ++ ns) (flat_map (λ x. x.nodes) supports) l.objects) (All-rest_of (Stays p.drop_edges) (f.edges ++ es) (flat_map (λ x. x.edges) supports) l.edges) v.supported

    named : (node : PatternNode) (n : ℕ) (o : Option (List ℕ)) → has p.drop_objects n ≡ false → IfSome o (λ name. name_at g n ≡ Some name) → IfSome o (λ name. name_at (step g p) n ≡ Some name)
    named node n None d i = i
    named node n (Some name) d i = name_at-kept g p n name d i

-- And with the same plan.
pub plan_of-kept : (m : Metamodel) (g : Graph) (p : Plan) (rule : Rule) (args : Args) (f : Match) (supports : List Extension) → IsRule m rule → IsSupported m g rule args f supports → Spares m g p rule f supports → plan_of m (step g p) rule args f ≡ plan_of m g rule args f
plan_of-kept m g p rule args f supports w v l = sym (rw (writes_of-same before after rule.shape.nodes f.nodes rule.sets sets, flat_map-same (copy_writes g rule args k) (copy_writes (step g p) rule args k) copies written, objects_for-same m before after rule.sets 0 rule.shape.nodes sets, flat_map-same (copy_objects m g rule args k) (copy_objects m (step g p) rule args k) copies made) refl)
  where
    k : Extension
    k = kernel_of f

    copies : List Copy
    copies = copies_of rule f

    ns : List ℕ
    ns = flat_map (λ copy. copy.found.nodes) copies

    nodes : Apart (f.nodes ++ ns) p.drop_objects
    nodes = All-front (Stays p.drop_objects) (f.nodes ++ ns) (flat_map (λ x. x.nodes) supports) l.objects

    stay : Apart f.nodes p.drop_objects
    stay = All-front (Stays p.drop_objects) f.nodes ns nodes

    before : Env
    before = env_of g rule args rule.shape.nodes f.nodes

    after : Env
    after = env_of (step g p) rule args rule.shape.nodes f.nodes

    sets : SetsSame before after rule.sets
    sets = sets-same before after (λ n. refl) rule.wheres rule.sets (kernel-agree m g p rule args k (kernel_read m rule w) v.valid.plain stay l.slots)

    C : Copy → Type 0
    C = CopySame g p rule args k

    same : All C copies
    same = copies-same_sets m g p rule args f supports w v l

    written : All (λ copy. copy_writes g rule args k copy ≡ copy_writes (step g p) rule args k copy) copies
    written = All-weaker C (λ copy. copy_writes g rule args k copy ≡ copy_writes (step g p) rule args k copy) (λ copy s. writes_of-same (copy_env g rule args k copy) (copy_env (step g p) rule args k copy) (nodes_of rule copy.multi) (images_of k copy.found) copy.multi.sets s) copies same

    made : All (λ copy. copy_objects m g rule args k copy ≡ copy_objects m (step g p) rule args k copy) copies
    made = All-weaker C (λ copy. copy_objects m g rule args k copy ≡ copy_objects m (step g p) rule args k copy) (λ copy s. objects_for-same m (copy_env g rule args k copy) (copy_env (step g p) rule args k copy) copy.multi.sets (length rule.shape.nodes) copy.multi.shape.nodes s) copies same
