-- The slots that a rule's expressions read are slots of its left side.
use Rattle.std.proofs.Common.{ℕ, suc, zero, ◌<◌, ◌≤◌, ◌≡◌, ◌⊎◌, inl, inr, List, [], ◌∷◌, ◌++◌, length, Bool, true, false, cond, not, ◌&&◌, ltb, Option, Some, None, IsSomeAnd, IsSome, slice_get, refl, sym, ap, ◌∙◌, subst, arith}
use Rattle.std.specs.List.{All, flat_map}
use Rattle.std.specs.Option.{option_and_then, option_map, is_some}
use Rattle.std.proofs.lemmas.Bool.{cases_Bool, both_ways, and_parts, lt-ltb, cases_lt}
use Rattle.std.proofs.lemmas.List.Elements.{All-nil, All-cons, All-append, All-weaker, filter_passes}
use Rattle.hs_expr.specs.declared.expr.Expr.{Expr, ind-Expr, map-Expr, roll-Expr, fold-roll-Expr}
use Rattle.hs_expr.specs.declared.expr.Expr.TheOpen.{Expr-F}
use Rattle.hs_expr.specs.declared.expr.SlotRead.{SlotRead}
use Rattle.hs_expr.specs.declared.value.Kind.{Kind}
use Rattle.hs_expr.specs.declared.value.Kind.TheVariants as kind
use Rattle.hs_expr.specs.Evaluation.{Scope, kind_in, binary_kind, not_kind, kind_of_level, minus_kind, reads_of, reads_of_level}
use Rattle.hs_types.specs.declared.meta.DataType.{DataType}
use Rattle.hs_types.specs.declared.meta.Metamodel.{Metamodel}
use Rattle.hs_types.specs.declared.rule.Mark.{Mark}
use Rattle.hs_types.specs.declared.rule.Multi.{Multi}
use Rattle.hs_types.specs.declared.rule.PatternNode.{PatternNode}
use Rattle.hs_types.specs.declared.rule.Rule.{Rule}
use Rattle.hs_types.specs.declared.rule.SetItem.{SetItem}
use Rattle.hs_types.specs.declared.rule.SlotKind.TheVariants.{Attribute}
use Rattle.hs_expr.specs.Lists.{has}
use Rattle.hs_types.specs.Metamodel.{attributes_of, features_of, kind_of_type, type_of}
use Rattle.hs_types.specs.Pattern.{is_drop, is_left, node_is}
use Rattle.hs_types.specs.RuleForm.{IsMulti, IsRule, SetFits, all_reads, has_slot, kernel_reads, reads_in, scope_of, slot_kind, slot_of_read}
use Rattle.hs_laws.proofs.Images.{IsLeft}
use Rattle.hs_expr.proofs.Lists.{All-of_map, All-flat_map, All-of_flat_map, All-both, All-front, All-rest_of, All-has, All-of_filter, slice_get-first}

-- Where two steps give a value, the first gives one.
pub and_then-some : {A B : Type 0} (f : A → Option B) (o : Option A) (y : B) → option_and_then f o ≡ Some y → (x : A) × (o ≡ Some x) × (f x ≡ Some y)
and_then-some f None y h = absurd (cc)
and_then-some f (Some x) y h = (x, refl, h)

-- Each slot that an expression of a kind reads has a kind.
pub kinds-read : (scope : Scope) (expr : Expr) (k : Kind) → kind_in scope expr ≡ Some k → All (λ read. IsSome (scope.slot read.node read.attribute)) (reads_of expr)
kinds-read scope = ind-Expr P (λ x y h. subst (λ (x : Expr-F Expr). P (roll-Expr x)) h (go y))
  where
    R : SlotRead → Type 0
    R read = IsSome (scope.slot read.node read.attribute)

    P : Expr → Type 0
    P expr = (k : Kind) → kind_in scope expr ≡ Some k → All R (reads_of expr)

    from : (x : Expr-F Expr) → ((k : Kind) → kind_of_level scope (map-Expr Expr (Option Kind) (kind_in scope) x) ≡ Some k → All R (reads_of_level (map-Expr Expr (List SlotRead) reads_of x))) → P (roll-Expr x)
    from x f k h = subst (All R) (sym (fold-roll-Expr (List SlotRead) reads_of_level x)) (f k (sym (fold-roll-Expr (Option Kind) (kind_of_level scope) x) ∙ h))

    go : (y : Expr-F ((e : Expr) × P e)) → P (roll-Expr (map-Expr ((e : Expr) × P e) Expr (λ e. e.0) y))
    go (Expr-F.Literal v) = from (Expr-F.Literal v) (λ k h. All-nil R)
    go (Expr-F.Slot read) = from (Expr-F.Slot read) (λ k h. All-cons R read [] (ap is_some h) (All-nil R))
    go (Expr-F.Param n) = from (Expr-F.Param n) (λ k h. All-nil R)
    go (Expr-F.Not e) = from (Expr-F.Not e.0) (λ k h. let i = and_then-some not_kind (kind_in scope e.0) k h in e.1 i.0 i.1)
    go (Expr-F.Minus e) = from (Expr-F.Minus e.0) (λ k h. let i = and_then-some minus_kind (kind_in scope e.0) k h in e.1 i.0 i.1)
    go (Expr-F.Binary sign e f) = from (Expr-F.Binary sign e.0 f.0) (λ k h.
        let i = and_then-some (λ x. option_and_then (binary_kind sign x) (kind_in scope f.0)) (kind_in scope e.0) k h in
        let j = and_then-some (binary_kind sign i.0) (kind_in scope f.0) k i.2 in
        All-append R (reads_of e.0) (reads_of f.0) (e.1 i.0 i.1) (f.1 j.0 j.1))

-- A slot has a kind at a left node.
pub slot_kind-left : (m : Metamodel) (nodes : List PatternNode) (n a : ℕ) → IsSome (slot_kind m nodes n a) → IsLeft nodes n
slot_kind-left m nodes n a h = go (slice_get nodes n) refl h
  where
    go : (o : Option PatternNode) → slice_get nodes n ≡ o → IsSome (option_and_then (λ node. cond (is_left node.mark && has (attributes_of m node.class) a) (option_map kind_of_type (type_of m a)) None) o) → IsLeft nodes n
    go None e h = absurd (both_ways false refl h)
    go (Some node) e h = elim (cases_Bool (is_left node.mark && has (attributes_of m node.class) a)) [
      | inl t ↦ rw e ((and_parts (is_left node.mark) (has (attributes_of m node.class) a) t).0)
      | inr t ↦ absurd (both_ways false refl (rw t at h))
    ]

-- All reads of a block's expressions are of left nodes.
pub block_left : (m : Metamodel) (rule : Rule) (nodes : List PatternNode) (wheres : List Expr) (sets : List SetItem) → All (λ expr. kind_in (scope_of m rule nodes) expr ≡ Some kind.Bool) wheres → All (λ item. IsSome (kind_in (scope_of m rule nodes) item.value)) sets → All (λ read. IsLeft nodes read.node) (reads_in wheres sets)
block_left m rule nodes wheres sets a b = All-append L (flat_map reads_of wheres) (flat_map (λ item. reads_of item.value) sets)
    (All-flat_map L reads_of wheres (All-weaker (λ expr. kind_in (scope_of m rule nodes) expr ≡ Some kind.Bool) (λ expr. All L (reads_of expr)) (λ expr h. lefts expr kind.Bool h) wheres a))
    (All-flat_map L (λ item. reads_of item.value) sets (All-weaker (λ item. IsSome (kind_in (scope_of m rule nodes) item.value)) (λ item. All L (reads_of item.value)) (λ item h. known item.value (kind_in (scope_of m rule nodes) item.value) refl h) sets b))
  where
    L : SlotRead → Type 0
    L read = IsLeft nodes read.node

    lefts : (expr : Expr) (k : Kind) → kind_in (scope_of m rule nodes) expr ≡ Some k → All L (reads_of expr)
    lefts expr k h = All-weaker (λ read. IsSome (slot_kind m nodes read.node read.attribute)) L (λ read i. slot_kind-left m nodes read.node read.attribute i) (reads_of expr) (kinds-read (scope_of m rule nodes) expr k h)

    known : (expr : Expr) (o : Option Kind) → kind_in (scope_of m rule nodes) expr ≡ o → IsSome o → All L (reads_of expr)
    known expr None e h = absurd (both_ways false refl h)
    known expr (Some k) e h = lefts expr k e

-- An attribute of a class has a data type.
pub attribute-typed : (m : Metamodel) (c a : ℕ) → has (attributes_of m c) a ≡ true → IsSome (type_of m a)
attribute-typed m c a h = All-has (λ f. IsSome (type_of m f)) (attributes_of m c) a (filter_passes (λ f. is_some (type_of m f)) (features_of m c)) h

-- A `set` of a rule has a value of some kind.
pub set-kind : (m : Metamodel) (scope : Scope) (nodes : List PatternNode) (item : SetItem) → SetFits m scope nodes item → IsSome (kind_in scope item.value)
set-kind m scope nodes item s = rw s.1 (mapped (type_of m item.attribute) (go (slice_get nodes item.node) s.0))
  where
    mapped : (o : Option DataType) → IsSome o → IsSome (option_map kind_of_type o)
    mapped None h = absurd (both_ways false refl h)
    mapped (Some d) h = refl

    go : (o : Option PatternNode) → IsSomeAnd o (λ node. (not (is_drop node.mark) ≡ true) × (has (attributes_of m node.class) item.attribute ≡ true)) → IsSome (type_of m item.attribute)
    go None h = absurd h
    go (Some node) h = attribute-typed m node.class item.attribute h.1

-- What a rule reads, as far as matches are concerned: each slot that the kernel's expressions read is one of its slots, at a left node; each that a multi-rule's read is so, or is one of its own.
abbrev pub ReadsKernel : Rule → SlotRead → Type 0
ReadsKernel rule read = IsLeft rule.shape.nodes read.node × (has_slot rule.shape.slots read.node (Attribute read.attribute) ≡ true)

abbrev pub ReadsMulti : Rule → Multi → SlotRead → Type 0
ReadsMulti rule multi read = IsLeft (rule.shape.nodes ++ multi.shape.nodes) read.node × (ReadsKernel rule read ⊎ (has_slot multi.shape.slots read.node (Attribute read.attribute) ≡ true))

node_is-below : (test : Mark → Bool) (nodes : List PatternNode) (n : ℕ) → node_is test nodes n ≡ true → n < length nodes
node_is-below test [] n h = absurd (both_ways false refl h)
node_is-below test (x ∷ xs) zero h = omega arith
node_is-below test (x ∷ xs) (suc n) h = let l = node_is-below test xs n h in omega arith

node_is-first : (test : Mark → Bool) (xs ys : List PatternNode) (n : ℕ) → n < length xs → node_is test (xs ++ ys) n ≡ true → node_is test xs n ≡ true
node_is-first test xs ys n l h = rw (slice_get-first xs ys n l) at h

-- Each read of a node of the kernel is one of the kernel's slots.
abbrev KernelSlot : Rule → SlotRead → Type 0
KernelSlot rule read = read.node < length rule.shape.nodes → has_slot rule.shape.slots read.node (Attribute read.attribute) ≡ true

kernel_slots : (m : Metamodel) (rule : Rule) → IsRule m rule → All (KernelSlot rule) (all_reads rule)
kernel_slots m rule w = All-weaker (λ read. q read ≡ true → 0 ≤ read.node → S read) (KernelSlot rule) (λ read h l. h (lt-ltb read.node (length rule.shape.nodes) l) (omega arith)) (all_reads rule) (All-of_filter (λ read. 0 ≤ read.node → S read) q (all_reads rule) (All-of_map (λ s. 0 ≤ s.node → has_slot rule.shape.slots s.node s.kind ≡ true) slot_of_read (kernel_reads rule) w.kernel.slots.all_read))
  where
    q : SlotRead → Bool
    q read = ltb read.node (length rule.shape.nodes)

    S : SlotRead → Type 0
    S read = has_slot rule.shape.slots read.node (Attribute read.attribute) ≡ true

pub kernel_read : (m : Metamodel) (rule : Rule) → IsRule m rule → All (ReadsKernel rule) (reads_in rule.wheres rule.sets)
kernel_read m rule w = All-weaker (λ read. L read × H read) (ReadsKernel rule) (λ read h. (h.0, h.1 (node_is-below is_left rule.shape.nodes read.node h.0))) (reads_in rule.wheres rule.sets) (All-both L H (reads_in rule.wheres rule.sets) lefts (All-front H (reads_in rule.wheres rule.sets) (flat_map (λ multi. reads_in multi.wheres multi.sets) rule.multis) slots))
  where
    L : SlotRead → Type 0
    L read = IsLeft rule.shape.nodes read.node

    S : SlotRead → Type 0
    S read = has_slot rule.shape.slots read.node (Attribute read.attribute) ≡ true

    H : SlotRead → Type 0
    H read = read.node < length rule.shape.nodes → S read

    lefts : All L (reads_in rule.wheres rule.sets)
    lefts = block_left m rule rule.shape.nodes rule.wheres rule.sets w.kernel.wheres_fit (All-weaker (λ item. (0 ≤ item.node) × SetFits m (scope_of m rule rule.shape.nodes) rule.shape.nodes item) (λ item. IsSome (kind_in (scope_of m rule rule.shape.nodes) item.value)) (λ item h. set-kind m (scope_of m rule rule.shape.nodes) rule.shape.nodes item h.1) rule.sets w.kernel.sets_fit)

    slots : All H (all_reads rule)
    slots = kernel_slots m rule w

pub multi_read : (m : Metamodel) (rule : Rule) → IsRule m rule → All (λ multi. All (ReadsMulti rule multi) (reads_in multi.wheres multi.sets)) rule.multis
multi_read m rule w = All-weaker (λ multi. IsMulti m rule multi × All (KernelSlot rule) (reads_in multi.wheres multi.sets)) (λ multi. All (ReadsMulti rule multi) (reads_in multi.wheres multi.sets)) (λ multi h. each multi h.0 h.1) rule.multis
    (All-both (IsMulti m rule) (λ multi. All (KernelSlot rule) (reads_in multi.wheres multi.sets)) rule.multis w.multis (All-of_flat_map (KernelSlot rule) (λ multi. reads_in multi.wheres multi.sets) rule.multis (All-rest_of (KernelSlot rule) (reads_in rule.wheres rule.sets) (flat_map (λ multi. reads_in multi.wheres multi.sets) rule.multis) (kernel_slots m rule w))))
  where
    each : (multi : Multi) → IsMulti m rule multi → All (KernelSlot rule) (reads_in multi.wheres multi.sets) → All (ReadsMulti rule multi) (reads_in multi.wheres multi.sets)
    each multi b slots =
        let nodes : List PatternNode = rule.shape.nodes ++ multi.shape.nodes in
        let first : ℕ = length rule.shape.nodes in
        let reads : List SlotRead = reads_in multi.wheres multi.sets in
        let L : SlotRead → Type 0 = λ read. IsLeft nodes read.node in
        let O : SlotRead → Type 0 = λ read. first ≤ read.node → has_slot multi.shape.slots read.node (Attribute read.attribute) ≡ true in
        let lefts : All L reads = block_left m rule nodes multi.wheres multi.sets b.wheres_fit (All-weaker (λ item. (first ≤ item.node) × SetFits m (scope_of m rule nodes) nodes item) (λ item. IsSome (kind_in (scope_of m rule nodes) item.value)) (λ item h. set-kind m (scope_of m rule nodes) nodes item h.1) multi.sets b.sets_fit) in
        All-weaker (λ read. L read × (KernelSlot rule read × O read)) (ReadsMulti rule multi) (λ read h. (
          h.0,
          elim (cases_lt read.node first) [
            | inl l ↦ inl (node_is-first is_left rule.shape.nodes multi.shape.nodes read.node l h.0, h.1.0 l)
            | inr l ↦ inr (h.1.1 l)
          ],
        )) reads (All-both L (λ read. KernelSlot rule read × O read) reads lefts (All-both (KernelSlot rule) O reads slots (All-of_map (λ s. first ≤ s.node → has_slot multi.shape.slots s.node s.kind ≡ true) slot_of_read reads b.slots.all_read)))
