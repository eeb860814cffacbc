-- The forms of rules, units and rule sets have split support.
use Rattle.std.proofs.Common.{ℕ, zero, suc, ◌<◌, ◌≤◌, ◌≡◌, ◌&&◌, ◌||◌, ◌⊎◌, inl, inr, List, ◌++◌, Bool, true, false, not, map, length, Option, Some, None, IsSomeAnd, eqb, nat_lt, slice_get, refl, sym, subst, ◌∙◌, arith}
use Rattle.std.proofs.lemmas.Bool.{and_parts, eqb-false, eqb-true, false≢true, ltb-false, ltb-true}
use Rattle.std.proofs.lemmas.Option.{slice_get_within}
use Rattle.std.specs.Coded.{Coded, Coded-set, code_by, coded_bool, coded_list, coded_ℕ, coded_option, coded⊎, le_prop}
use Rattle.std.specs.List.{All, AllPairs, find, flat_map, list_any}
use Rattle.std.specs.Option.{option_map, option_map_or}
use mathlib.Core.HLevel.{⊥_prop}
use mathlib.Core.Logic.{∥∥₁_elim, ∥∥₁_map}
use Rattle.hs_expr.specs.declared.expr.Expr.{Expr}
use Rattle.hs_expr.specs.declared.expr.SlotRead.{SlotRead}
use Rattle.hs_expr.specs.declared.value.Kind.{Kind}
use Rattle.hs_expr.specs.declared.value.Kind.TheVariants as value
use Rattle.hs_expr.specs.Evaluation.{Scope, kind_in, nesting}
use Rattle.hs_expr.specs.Lists.{Differ, each_once, has, same_text}
use Rattle.hs_expr.specs.declared.expr.TheConstants.{MAX_NESTING}
use Rattle.hs_types.specs.declared.limits.TheConstants.{MAX_FEATURES, MAX_PARALLEL_EDGES}
use Rattle.hs_types.specs.declared.meta.Class.{Class}
use Rattle.hs_types.specs.declared.meta.Feature.{Feature}
use Rattle.hs_types.specs.declared.meta.FeatureKind.{FeatureKind}
use Rattle.hs_types.specs.declared.meta.FeatureKind.TheVariants as feature
use Rattle.hs_types.specs.declared.meta.Metamodel.{Metamodel}
use Rattle.hs_types.specs.declared.rule.Direction.{Direction}
use Rattle.hs_types.specs.declared.rule.Direction.TheVariants.{In, Out}
use Rattle.hs_types.specs.declared.rule.Mark.{Mark}
use Rattle.hs_types.specs.declared.rule.Param.{Param}
use Rattle.hs_types.specs.declared.rule.ParamKind.{ParamKind}
use Rattle.hs_types.specs.declared.rule.ParamKind.TheVariants.{Data, Object}
use Rattle.hs_types.specs.declared.rule.Part.{Part}
use Rattle.hs_types.specs.declared.rule.PatternEdge.{PatternEdge}
use Rattle.hs_types.specs.declared.rule.PatternNode.{PatternNode}
use Rattle.hs_types.specs.declared.rule.PatternSlot.{PatternSlot}
use Rattle.hs_types.specs.declared.rule.Rule.{Rule}
use Rattle.hs_types.specs.declared.rule.SetItem.{SetItem}
use Rattle.hs_types.specs.declared.rule.Shape.{Shape}
use Rattle.hs_types.specs.declared.rule.SlotKind.{SlotKind}
use Rattle.hs_types.specs.declared.rule.SlotKind.TheVariants.{Attribute, Link, Container}
use Rattle.hs_types.specs.declared.unit.Atom.{Atom}
use Rattle.hs_types.specs.declared.unit.Atom.TheVariants as atom
use Rattle.hs_types.specs.declared.unit.Bind.{Bind}
use Rattle.hs_types.specs.declared.unit.Bind.TheVariants.{Give, Take}
use Rattle.hs_types.specs.declared.unit.Body.{Body}
use Rattle.hs_types.specs.declared.unit.Body.TheVariants as body
use Rattle.hs_types.specs.declared.unit.Call.{Call}
use Rattle.hs_types.specs.declared.unit.Count.{Count}
use Rattle.hs_types.specs.declared.unit.Count.TheVariants as count
use Rattle.hs_types.specs.declared.unit.Unit.{Unit as RuleUnit}
use Rattle.hs_types.specs.Metamodel.{Conforms, FeatureFits, HaveCommon, IsConcrete, IsMeta, StandBefore, attributes_of, class_at, conforms, feature_at, features_of, is_attribute, is_of_type, owned_by, supers_of, target_of}
use Rattle.hs_types.specs.Pattern.{is_drop, is_keep, is_left, node_is}
use Rattle.hs_types.specs.Limits.{AreFlat, IsSmallMeta, IsSmallRule, IsSmallShape, IsSmallUnit, parallel_to}
use Rattle.hs_types.specs.RuleForm.{AreSlots, all_nodes, EdgeFits, EndFits, IsBlock, IsMulti, IsPart, IsRule, IsShape, KindBefore, NodeFits, NodeSlot, ParamFits, SetFits, SlotBefore, has_slot, is_among, joins, kernel_reads, param_side, reads_in, scope_of, slots_read, slots_set}
use Rattle.hs_types.specs.UnitForm.{bound_name, AreBinds, AtomFits, BindFits, BodyFits, CallFits, CountFits, GoalFits, IsRuleSet, IsUnit, KindFits, UnitParamFits, param_named, params_of}
use Rattle.hs_types.specs.Units.{calls_of}
use Rattle.hs_types.proofs.Conforming.{concrete_from, concrete_to, conforms_from, conforms_to}
use Rattle.hs_types.proofs.SplitSupport.{HasSplitSupport, split-prop, split-×, split-×₃, split-→, split-test, split-All, split-IfSome, split-IsSomeAnd, split-EachPair}

coded_direction : Coded Direction
coded_direction = code_by Bool coded_bool to from back
  where
    to : Direction → Bool
    to In = true
    to Out = false

    from : Bool → Direction
    from true = In
    from false = Out

    back : (d : Direction) → from (to d) ≡ d
    back In = refl
    back Out = refl

coded_kind : Coded Kind
coded_kind = code_by (Option Bool) (coded_option coded_bool) to from back
  where
    to : Kind → Option Bool
    to value.Int = None
    to value.Bool = Some true
    to value.Text = Some false

    from : Option Bool → Kind
    from None = value.Int
    from (Some true) = value.Bool
    from (Some false) = value.Text

    back : (k : Kind) → from (to k) ≡ k
    back value.Int = refl
    back value.Bool = refl
    back value.Text = refl

coded_param_kind : Coded ParamKind
coded_param_kind = code_by (Kind ⊎ ℕ) (coded⊎ coded_kind coded_ℕ) to from back
  where
    to : ParamKind → Kind ⊎ ℕ
    to (Data kind) = inl kind
    to (Object class) = inr class

    from : Kind ⊎ ℕ → ParamKind
    from (inl kind) = Data kind
    from (inr class) = Object class

    back : (k : ParamKind) → from (to k) ≡ k
    back (Data kind) = refl
    back (Object class) = refl

split-same : {A : Type 0} → Coded A → (a b : A) → HasSplitSupport (a ≡ b)
split-same code a b = split-prop (Coded-set code a b)

split-true : (b : Bool) → HasSplitSupport (b ≡ true)
split-true b = split-same coded_bool b true

split-≤ : (m n : ℕ) → HasSplitSupport (m ≤ n)
split-≤ m n = split-prop le_prop

split-⊥ : HasSplitSupport ⊥
split-⊥ = split-prop ⊥_prop

split-⊤ : HasSplitSupport (Unit {0})
split-⊤ = λ h. tt

split-Differ : {A : Type 0} (xs : List A) → HasSplitSupport (Differ xs)
split-Differ xs = split-EachPair (λ x y. x ≡ y → ⊥) xs (λ x y. split-→ (λ same. ⊥) (λ same. split-⊥))

split-Conforms : (m : Metamodel) (c d : ℕ) → HasSplitSupport (Conforms m c d)
split-Conforms m c d = split-test (conforms (supers_of m) c d) (conforms_to m c d, conforms_from m c d)

split-IsConcrete : (m : Metamodel) (c : ℕ) → HasSplitSupport (IsConcrete m c)
split-IsConcrete m c = split-IsSomeAnd (λ class. class.is_abstract ≡ false) (class_at m c) (λ class. split-same coded_bool class.is_abstract false)

-- Below n some number passes the test, or none does.
first_passing : (test : ℕ → Bool) (n : ℕ) → ((k : ℕ) × (test k ≡ true)) ⊎ ((k : ℕ) → k < n → test k ≡ false)
first_passing test zero = inr (λ k low. absurd (omega (arith, low)))
first_passing test (suc n) = go (test n) refl (first_passing test n)
  where
    go : (passes : Bool) → test n ≡ passes → ((k : ℕ) × (test k ≡ true)) ⊎ ((k : ℕ) → k < n → test k ≡ false) → ((k : ℕ) × (test k ≡ true)) ⊎ ((k : ℕ) → k < suc n → test k ≡ false)
    go true e found = inl (n, e)
    go false e (inl found) = inl found
    go false e (inr none) = inr (λ k low. at k low (eqb k n) refl)
      where
        at : (k : ℕ) → k < suc n → (same : Bool) → eqb k n ≡ same → test k ≡ false
        at k low true same = subst (λ j. test j ≡ false) (sym (eqb-true k n same)) e
        at k low false other = none k (omega (arith, low, eqb-false k n other))

split-HaveCommon : (m : Metamodel) (a b : ℕ) → HasSplitSupport (HaveCommon m a b)
split-HaveCommon m a b h = go (first_passing test (length m.classes))
  where
    conform : ℕ → Bool
    conform c = conforms (supers_of m) c a && conforms (supers_of m) c b

    test : ℕ → Bool
    test c = option_map_or (λ class. not class.is_abstract) (class_at m c) false && conform c

    below : (c : ℕ) (found : Option Class) → class_at m c ≡ found → IsSomeAnd found (λ class. class.is_abstract ≡ false) → c < length m.classes
    below c None e is = absurd is
    below c (Some class) e is = slice_get_within m.classes c class e

    passing : (c : ℕ) → IsConcrete m c → Conforms m c a → Conforms m c b → test c ≡ true
    passing c concrete one other = rw (concrete_from (class_at m c) concrete, conforms_from m c a one, conforms_from m c b other) refl

    refuted : ((c : ℕ) → c < length m.classes → test c ≡ false) → HaveCommon m a b → ⊥
    refuted none (c, concrete, one, other) = false≢true (sym (none c (below c (class_at m c) refl concrete)) ∙ passing c concrete one other)

    go : ((c : ℕ) × (test c ≡ true)) ⊎ ((c : ℕ) → c < length m.classes → test c ≡ false) → HaveCommon m a b
    go (inl (c, passes)) =
        let parts = and_parts _ _ passes in
        let both = and_parts _ _ parts.1 in
        (c, concrete_to (class_at m c) parts.0, conforms_to m c a both.0, conforms_to m c b both.1)
    go (inr none) = absurd (∥∥₁_elim h ⊥_prop (refuted none))

split-NodeFits : (m : Metamodel) (node : PatternNode) → HasSplitSupport (NodeFits m node)
split-NodeFits m node = split-× (split-HaveCommon m node.class node.class) (split-→ (λ made. IsConcrete m node.class) (λ made. split-IsConcrete m node.class))

split-EndFits : (test : Mark → Bool) (nodes : List PatternNode) (P : ℕ → Type 0) (n : ℕ) → ((c : ℕ) → HasSplitSupport (P c)) → HasSplitSupport (EndFits test nodes P n)
split-EndFits test nodes P n each = split-IsSomeAnd (λ node. (test node.mark ≡ true) × P node.class) (slice_get nodes n) (λ node. split-× (split-true (test node.mark)) (each node.class))

split-EdgeFits : (m : Metamodel) (test : Mark → Bool) (nodes : List PatternNode) (edge : PatternEdge) → HasSplitSupport (EdgeFits m test nodes edge)
split-EdgeFits m test nodes edge = split-×
    (split-EndFits test nodes (λ c. has (features_of m c) edge.reference ≡ true) edge.source (λ c. split-true (has (features_of m c) edge.reference)))
    (split-IsSomeAnd (λ class. EndFits test nodes (λ c. Conforms m c class) edge.target) (target_of m edge.reference) (λ class. split-EndFits test nodes (λ c. Conforms m c class) edge.target (λ c. split-Conforms m c class)))

split-SetFits : (m : Metamodel) (scope : Scope) (nodes : List PatternNode) (item : SetItem) → HasSplitSupport (SetFits m scope nodes item)
split-SetFits m scope nodes item = split-×
    (split-EndFits (λ mark. not (is_drop mark)) nodes (λ c. has (attributes_of m c) item.attribute ≡ true) item.node (λ c. split-true (has (attributes_of m c) item.attribute)))
    (split-same (coded_option coded_kind) _ _)

split-KindBefore : (features : List ℕ) (a b : SlotKind) → HasSplitSupport (KindBefore features a b)
split-KindBefore features (Attribute a) (Attribute b) = split-≤ _ _
split-KindBefore features (Attribute a) (Link s) = split-⊤
split-KindBefore features (Attribute a) Container = split-⊤
split-KindBefore features (Link r) (Attribute b) = split-⊥
split-KindBefore features (Link r) (Link s) = split-≤ _ _
split-KindBefore features (Link r) Container = split-⊤
split-KindBefore features Container b = split-⊥

-- A number is less than another, or else the second part holds.
split-less : (a b : ℕ) {B : Type 0} → HasSplitSupport B → HasSplitSupport ((a < b) ⊎ B)
split-less a b {B} rest h = go (nat_lt a b) refl
  where
    other : (a < b → ⊥) → (a < b) ⊎ B → B
    other not (inl low) = absurd (not low)
    other not (inr is) = is

    go : (low : Bool) → nat_lt a b ≡ low → (a < b) ⊎ B
    go true e = inl (ltb-true a b e)
    go false e = inr (rest (∥∥₁_map h (other (λ low. let high : b ≤ a = ltb-false a b e in omega (arith, low, high)))))

split-SlotBefore : (m : Metamodel) (nodes : List PatternNode) (s t : PatternSlot) → HasSplitSupport (SlotBefore m nodes s t)
split-SlotBefore m nodes s t = split-less s.node t.node (split-×
    (split-same coded_ℕ s.node t.node)
    (split-IsSomeAnd (λ node. KindBefore (features_of m node.class) s.kind t.kind) (slice_get nodes s.node) (λ node. split-KindBefore (features_of m node.class) s.kind t.kind)))

split-AreSlots : (nodes : List PatternNode) (first : ℕ) (reads writes : List NodeSlot) (slots : List PatternSlot) → HasSplitSupport (AreSlots nodes first reads writes slots)
split-AreSlots nodes first reads writes slots h = record {
  needed = split-All (λ slot. (is_among reads slot || is_among writes slot ≡ true) × (slot.written ≡ is_among writes slot)) slots (λ slot. split-× (split-true _) (split-same coded_bool _ _)) (∥∥₁_map h (λ r. r.needed));
  all_read = split-All (λ s. first ≤ s.node → has_slot slots s.node s.kind ≡ true) reads (λ s. split-→ _ (λ own. split-true _)) (∥∥₁_map h (λ r. r.all_read));
  all_written = split-All (λ s. node_is is_keep nodes s.node ≡ true → has_slot slots s.node s.kind ≡ true) writes (λ s. split-→ _ (λ kept. split-true _)) (∥∥₁_map h (λ r. r.all_written));
}

split-IsShape : (m : Metamodel) (nodes : List PatternNode) (first : ℕ) (shape : Shape) → HasSplitSupport (IsShape m nodes first shape)
split-IsShape m nodes first shape h = record {
  nodes_fit = split-All (NodeFits m) shape.nodes (split-NodeFits m) (∥∥₁_map h (λ r. r.nodes_fit));
  edges_fit = split-All (λ edge. EdgeFits m (joins edge.mark) nodes edge) shape.edges (λ edge. split-EdgeFits m (joins edge.mark) nodes edge) (∥∥₁_map h (λ r. r.edges_fit));
  in_order = split-EachPair (SlotBefore m nodes) shape.slots (split-SlotBefore m nodes) (∥∥₁_map h (λ r. r.in_order));
  at_own = split-All (λ slot. (first ≤ slot.node) × (node_is is_left nodes slot.node ≡ true)) shape.slots (λ slot. split-× (split-≤ _ _) (split-true _)) (∥∥₁_map h (λ r. r.at_own));
}

split-IsBlock : (m : Metamodel) (rule : Rule) (nodes : List PatternNode) (first : ℕ) (shape : Shape) (wheres : List Expr) (sets : List SetItem) (reads : List SlotRead) → HasSplitSupport (IsBlock m rule nodes first shape wheres sets reads)
split-IsBlock m rule nodes first shape wheres sets reads h = record {
  form = split-IsShape m nodes first shape (∥∥₁_map h (λ r. r.form));
  wheres_fit = split-All (λ expr. kind_in (scope_of m rule nodes) expr ≡ Some value.Bool) wheres (λ expr. split-same (coded_option coded_kind) _ _) (∥∥₁_map h (λ r. r.wheres_fit));
  sets_fit = split-All (λ item. (first ≤ item.node) × SetFits m (scope_of m rule nodes) nodes item) sets (λ item. split-× (split-≤ _ _) (split-SetFits m (scope_of m rule nodes) nodes item)) (∥∥₁_map h (λ r. r.sets_fit));
  sets_once = split-EachPair (λ a b. (a.node ≡ b.node) × (a.attribute ≡ b.attribute) → ⊥) sets (λ a b. split-→ _ (λ same. split-⊥)) (∥∥₁_map h (λ r. r.sets_once));
  slots = split-AreSlots nodes first (slots_read reads) (slots_set sets) shape.slots (∥∥₁_map h (λ r. r.slots));
}

split-IsPart : (m : Metamodel) (rule : Rule) (part : Part) → HasSplitSupport (IsPart m rule part)
split-IsPart m rule part h = record {
  nodes_kept = split-All (λ node. is_keep node.mark ≡ true) part.nodes (λ node. split-true _) (∥∥₁_map h (λ r. r.nodes_kept));
  edges_kept = split-All (λ edge. is_keep edge.mark ≡ true) part.edges (λ edge. split-true _) (∥∥₁_map h (λ r. r.edges_kept));
  nodes_fit = split-All (NodeFits m) part.nodes (split-NodeFits m) (∥∥₁_map h (λ r. r.nodes_fit));
  edges_fit = split-All (EdgeFits m is_left (rule.shape.nodes ++ part.nodes)) part.edges (split-EdgeFits m is_left (rule.shape.nodes ++ part.nodes)) (∥∥₁_map h (λ r. r.edges_fit));
}

split-ParamFits : (nodes : List PatternNode) (param : Param) (kind : ParamKind) → HasSplitSupport (ParamFits nodes param kind)
split-ParamFits nodes param (Data kind) = split-same coded_direction param.direction In
split-ParamFits nodes param (Object class) = split-IsSomeAnd (λ node. (param_side param.direction node.mark ≡ true) × (node.class ≡ class)) (find (λ node. same_text node.name param.name) nodes) (λ node. split-× (split-true _) (split-same coded_ℕ node.class class))

split-IsRule : (m : Metamodel) (rule : Rule) → HasSplitSupport (IsRule m rule)
split-IsRule m rule h = record {
  params_differ = split-Differ (map (λ param. param.name) rule.params) (∥∥₁_map h (λ r. r.params_differ));
  params_fit = split-All (λ param. ParamFits rule.shape.nodes param param.kind) rule.params (λ param. split-ParamFits rule.shape.nodes param param.kind) (∥∥₁_map h (λ r. r.params_fit));
  names_differ = split-Differ (map (λ node. node.name) (all_nodes rule)) (∥∥₁_map h (λ r. r.names_differ));
  kernel = split-IsBlock m rule rule.shape.nodes 0 rule.shape rule.wheres rule.sets (kernel_reads rule) (∥∥₁_map h (λ r. r.kernel));
  forbids = split-All (IsPart m rule) rule.forbids (split-IsPart m rule) (∥∥₁_map h (λ r. r.forbids));
  needs = split-All (IsPart m rule) rule.needs (split-IsPart m rule) (∥∥₁_map h (λ r. r.needs));
  multis = split-All (IsMulti m rule) rule.multis (λ multi. split-IsBlock m rule (rule.shape.nodes ++ multi.shape.nodes) (length rule.shape.nodes) multi.shape multi.wheres multi.sets (reads_in multi.wheres multi.sets)) (∥∥₁_map h (λ r. r.multis));
}

split-IsSmallShape : (nodes : List PatternNode) (edges : List PatternEdge) → HasSplitSupport (IsSmallShape nodes edges)
split-IsSmallShape nodes edges h = record {
  few_nodes = split-≤ _ _ (∥∥₁_map h (λ r. r.few_nodes));
  few_edges = split-≤ _ _ (∥∥₁_map h (λ r. r.few_edges));
  few_parallel = split-All (λ edge. parallel_to edge edges ≤ MAX_PARALLEL_EDGES) edges (λ edge. split-≤ _ _) (∥∥₁_map h (λ r. r.few_parallel));
}

split-AreFlat : (wheres : List Expr) (sets : List SetItem) → HasSplitSupport (AreFlat wheres sets)
split-AreFlat wheres sets = split-×
    (split-All (λ expr. nesting expr ≤ MAX_NESTING) wheres (λ expr. split-≤ _ _))
    (split-All (λ item. nesting item.value ≤ MAX_NESTING) sets (λ item. split-≤ _ _))

split-IsSmallRule : (rule : Rule) → HasSplitSupport (IsSmallRule rule)
split-IsSmallRule rule h = record {
  params = split-≤ _ _ (∥∥₁_map h (λ r. r.params));
  parts = split-≤ _ _ (∥∥₁_map h (λ r. r.parts));
  multis = split-≤ _ _ (∥∥₁_map h (λ r. r.multis));
  kernel = split-IsSmallShape rule.shape.nodes rule.shape.edges (∥∥₁_map h (λ r. r.kernel));
  each_forbid = split-All (λ part. IsSmallShape part.nodes part.edges) rule.forbids (λ part. split-IsSmallShape part.nodes part.edges) (∥∥₁_map h (λ r. r.each_forbid));
  each_need = split-All (λ part. IsSmallShape part.nodes part.edges) rule.needs (λ part. split-IsSmallShape part.nodes part.edges) (∥∥₁_map h (λ r. r.each_need));
  each_multi = split-All (λ multi. IsSmallShape multi.shape.nodes multi.shape.edges × AreFlat multi.wheres multi.sets) rule.multis (λ multi. split-× (split-IsSmallShape multi.shape.nodes multi.shape.edges) (split-AreFlat multi.wheres multi.sets)) (∥∥₁_map h (λ r. r.each_multi));
  flat = split-AreFlat rule.wheres rule.sets (∥∥₁_map h (λ r. r.flat));
}

split-IsSmallUnit : (unit : RuleUnit) → HasSplitSupport (IsSmallUnit unit)
split-IsSmallUnit unit h = record {
  params = split-≤ _ _ (∥∥₁_map h (λ r. r.params));
  calls = split-≤ _ _ (∥∥₁_map h (λ r. r.calls));
}

split-KindFits : (m : Metamodel) (given wanted : ParamKind) → HasSplitSupport (KindFits m given wanted)
split-KindFits m (Data given) (Data wanted) = split-same coded_kind given wanted
split-KindFits m (Data given) (Object wanted) = split-⊥
split-KindFits m (Object given) (Data wanted) = split-⊥
split-KindFits m (Object given) (Object wanted) = split-Conforms m given wanted

split-AtomFits : (m : Metamodel) (own : List Param) (given : Atom) (wanted : ParamKind) → HasSplitSupport (AtomFits m own given wanted)
split-AtomFits m own (atom.Value v) wanted = split-same coded_param_kind _ wanted
split-AtomFits m own (atom.Name name) wanted = split-IsSomeAnd (λ param. KindFits m param.kind wanted) (param_named own name) (λ param. split-KindFits m param.kind wanted)

split-BindFits : (m : Metamodel) (own params : List Param) (bind : Bind) → HasSplitSupport (BindFits m own params bind)
split-BindFits m own params (Give name given) = split-IsSomeAnd (λ param. (param.direction ≡ In) × AtomFits m own given param.kind) (param_named params name)
    (λ param. split-× (split-same coded_direction param.direction In) (split-AtomFits m own given param.kind))
split-BindFits m own params (Take name variable) = split-IsSomeAnd (λ param. (param.direction ≡ Out) × IsSomeAnd (param_named own variable) (GoalFits m param.kind)) (param_named params name)
    (λ param. split-× (split-same coded_direction param.direction Out) (split-IsSomeAnd (GoalFits m param.kind) (param_named own variable) (λ goal. split-× (split-same coded_direction goal.direction Out) (split-KindFits m param.kind goal.kind))))

split-AreBinds : (m : Metamodel) (own params : List Param) (binds : List Bind) → HasSplitSupport (AreBinds m own params binds)
split-AreBinds m own params binds h = record {
  differ = split-Differ (map bound_name binds) (∥∥₁_map h (λ r. r.differ));
  fit = split-All (BindFits m own params) binds (split-BindFits m own params) (∥∥₁_map h (λ r. r.fit));
  all_given = split-All (λ param. param.direction ≡ In → list_any (λ bind. same_text (bound_name bind) param.name) binds ≡ true) params (λ param. split-→ _ (λ given. split-true _)) (∥∥₁_map h (λ r. r.all_given));
}

split-CallFits : (m : Metamodel) (rules : List Rule) (units : List RuleUnit) (own : List Param) (call : Call) → HasSplitSupport (CallFits m rules units own call)
split-CallFits m rules units own call = split-IsSomeAnd (λ params. AreBinds m own params call.binds) (params_of rules units call.callee) (λ params. split-AreBinds m own params call.binds)

split-CountFits : (own : List Param) (times : Count) → HasSplitSupport (CountFits own times)
split-CountFits own (count.Literal n) = split-⊤
split-CountFits own (count.Param name) = split-IsSomeAnd (λ param. (param.direction ≡ In) × (param.kind ≡ Data value.Int)) (param_named own name)
    (λ param. split-× (split-same coded_direction param.direction In) (split-same coded_param_kind param.kind (Data value.Int)))

split-BodyFits : (own : List Param) (body : Body) → HasSplitSupport (BodyFits own body)
split-BodyFits own (body.Sequential calls) = split-⊤
split-BodyFits own (body.Independent calls) = split-⊤
split-BodyFits own (body.Priority calls) = split-⊤
split-BodyFits own (body.Conditional test yes_call no_call) = split-⊤
split-BodyFits own (body.Loop call) = split-⊤
split-BodyFits own (body.Iterated times call) = split-CountFits own times

split-UnitParamFits : (m : Metamodel) (param : Param) (kind : ParamKind) → HasSplitSupport (UnitParamFits m param kind)
split-UnitParamFits m param (Data kind) = split-same coded_direction param.direction In
split-UnitParamFits m param (Object class) = split-true _

split-IsUnit : (m : Metamodel) (rules : List Rule) (units : List RuleUnit) (unit : RuleUnit) → HasSplitSupport (IsUnit m rules units unit)
split-IsUnit m rules units unit h = record {
  params_differ = split-Differ (map (λ param. param.name) unit.params) (∥∥₁_map h (λ r. r.params_differ));
  params_fit = split-All (λ param. UnitParamFits m param param.kind) unit.params (λ param. split-UnitParamFits m param param.kind) (∥∥₁_map h (λ r. r.params_fit));
  calls_fit = split-All (CallFits m rules units unit.params) (calls_of unit.body) (split-CallFits m rules units unit.params) (∥∥₁_map h (λ r. r.calls_fit));
  body_fits = split-BodyFits unit.params unit.body (∥∥₁_map h (λ r. r.body_fits));
}

split-IsRuleSet : (m : Metamodel) (rules : List Rule) (units : List RuleUnit) → HasSplitSupport (IsRuleSet m rules units)
split-IsRuleSet m rules units h = record {
  are_rules = split-All (λ rule. IsRule m rule × IsSmallRule rule) rules (λ rule. split-× (split-IsRule m rule) (split-IsSmallRule rule)) (∥∥₁_map h (λ r. r.are_rules));
  are_units = split-All (λ unit. IsUnit m rules units unit × IsSmallUnit unit) units (λ unit. split-× (split-IsUnit m rules units unit) (split-IsSmallUnit unit)) (∥∥₁_map h (λ r. r.are_units));
  names_differ = split-Differ (map (λ rule. rule.name) rules ++ map (λ unit. unit.name) units) (∥∥₁_map h (λ r. r.names_differ));
  acyclic = split-→ _ (λ place. split-→ _ (λ circle. split-⊥)) (∥∥₁_map h (λ r. r.acyclic));
  few_rules = split-≤ _ _ (∥∥₁_map h (λ r. r.few_rules));
  few_units = split-≤ _ _ (∥∥₁_map h (λ r. r.few_units));
}

split-AllPairs : {A : Type 0} (R : A → A → Type 0) (xs : List A) → ((x y : A) → HasSplitSupport (R x y)) → HasSplitSupport (AllPairs R xs)
split-AllPairs R xs each h = λ i j d before low. each _ _ (∥∥₁_map h (λ all. all i j d before low))

split-StandBefore : (f g : Feature) → HasSplitSupport (StandBefore f g)
split-StandBefore f g = split-less f.owner g.owner
    (split-× (split-same coded_ℕ f.owner g.owner) (split-→ _ (λ attribute. split-true (is_attribute f))))

split-FeatureFits : (m : Metamodel) (kind : FeatureKind) → HasSplitSupport (FeatureFits m kind)
split-FeatureFits m (feature.Attribute data_type default) = split-true (is_of_type data_type default)
split-FeatureFits m (feature.Reference target containment lower upper) = split-× (split-≤ _ _) (split-IfSome (λ most. (0 < most) × (lower ≤ most)) upper (λ most. split-× (split-≤ _ _) (split-≤ _ _)))

split-IsMeta : (m : Metamodel) → HasSplitSupport (IsMeta m)
split-IsMeta m h = record {
  names_differ = split-Differ (map (λ class. class.name) m.classes) (∥∥₁_map h (λ r. r.names_differ));
  supers_stand = split-All (λ class. All (λ d. d < length m.classes) class.supers) m.classes (λ class. split-All (λ d. d < length m.classes) class.supers (λ d. split-≤ _ _)) (∥∥₁_map h (λ r. r.supers_stand));
  no_cycle = split-→ _ (λ c. split-→ _ (λ d. split-→ _ (λ step. split-→ _ (λ back. split-⊥)))) (∥∥₁_map h (λ r. r.no_cycle));
  owners_stand = split-All (λ feature. feature.owner < length m.classes) m.features (λ feature. split-≤ _ _) (∥∥₁_map h (λ r. r.owners_stand));
  features_sound = split-All (λ feature. FeatureFits m feature.kind) m.features (λ feature. split-FeatureFits m feature.kind) (∥∥₁_map h (λ r. r.features_sound));
  features_in_order = split-AllPairs StandBefore m.features split-StandBefore (∥∥₁_map h (λ r. r.features_in_order));
  features_whole = split-→ _ (λ c. split-→ _ (λ low. split-IsSomeAnd (λ class. class.features ≡ each_once (flat_map (features_of m) class.supers) ++ owned_by m c) (class_at m c) (λ class. split-same (coded_list coded_ℕ) _ _))) (∥∥₁_map h (λ r. r.features_whole));
  features_differ = split-All (λ class. Differ (map (λ f. option_map (λ feature. feature.name) (feature_at m f)) class.features)) m.classes (λ class. split-Differ (map (λ f. option_map (λ feature. feature.name) (feature_at m f)) class.features)) (∥∥₁_map h (λ r. r.features_differ));
}

split-IsSmallMeta : (m : Metamodel) → HasSplitSupport (IsSmallMeta m)
split-IsSmallMeta m h = record {
  classes = split-≤ _ _ (∥∥₁_map h (λ r. r.classes));
  features = split-All (λ class. length class.features ≤ MAX_FEATURES) m.classes (λ class. split-≤ _ _) (∥∥₁_map h (λ r. r.features));
}

-- What the types of metamodels and of rule sets carry.
pub meta_of_form : (m : Metamodel) → ∥ IsMeta m × IsSmallMeta m ∥₁ → IsMeta m × IsSmallMeta m
meta_of_form m = split-× (split-IsMeta m) (split-IsSmallMeta m)

pub set_of_form : (m : Metamodel) (rules : List Rule) (units : List RuleUnit) → ∥ IsMeta m × IsSmallMeta m × IsRuleSet m rules units ∥₁ → IsMeta m × IsSmallMeta m × IsRuleSet m rules units
set_of_form m rules units = split-×₃ (split-IsMeta m) (split-IsSmallMeta m) (split-IsRuleSet m rules units)
