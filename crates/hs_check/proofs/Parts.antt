-- The kernel, the parts and the multi-rules that a rule without faults means.
use Rattle.std.proofs.Common.{ℕ, ◌+◌, ◌≡◌, ◌&&◌, ◌||◌, ◌++◌, List, [], ◌∷◌, Bool, true, false, cond, eqb, nat_lt, map, length, Option, None, is_some, if◌then◌else◌, refl, ap, sym, ◌∙◌, subst, arith}
use Rattle.std.proofs.lemmas.Bool.{and_parts, eqb-true, false≢true, lt-ltb, ltb-true}
use Rattle.std.proofs.lemmas.List.Elements.{All-append, All-cons, All-head, All-map, All-nil, All-tail, All-weaker}
use Rattle.std.specs.List.{All, filter, flat_map, list_any}
use Rattle.std.specs.Option.{option_and_then, option_map}
use Rattle.hs_expr.specs.declared.SlotRead.{SlotRead}
use Rattle.hs_expr.specs.Evaluation.{reads_of}
use Rattle.hs_expr.specs.Verdict.{each}
use Rattle.hs_text.specs.declared.syntax.Mark.TheVariants.{Preserve}
use Rattle.hs_text.specs.declared.syntax.Rule.{Rule as WrittenRule}
use Rattle.hs_types.specs.declared.meta.Metamodel.{Metamodel}
use Rattle.hs_types.specs.declared.rule.Multi.{Multi}
use Rattle.hs_types.specs.declared.rule.PatternEdge.{PatternEdge}
use Rattle.hs_types.specs.declared.rule.PatternNode.{PatternNode}
use Rattle.hs_types.specs.declared.rule.SetItem.{SetItem}
use Rattle.hs_types.specs.declared.rule.SlotKind.TheVariants.{Attribute}
use Rattle.hs_types.specs.Metamodel.{IsMeta, attributes_of, kind_of_type, type_of}
use Rattle.hs_expr.specs.Lists.{has}
use Rattle.hs_types.specs.Pattern.{is_keep, is_kind, is_left}
use Rattle.hs_types.specs.RuleForm.{EdgeFits, IsBlock, IsMulti, IsPart, all_reads, joins, kernel_reads, reads_in, slot_kind}
use Rattle.hs_faults.specs.declared.nodes.DeclaredNode.{DeclaredNode}
use Rattle.hs_faults.specs.declared.nodes.BlockId.{BlockId}
use Rattle.hs_faults.specs.declared.nodes.BlockId.TheVariants as home
use Rattle.hs_faults.specs.Sizes.{has_few, is_multi, is_pattern}
use Rattle.hs_faults.specs.Nodes.{declared_nodes}
use Rattle.hs_faults.specs.ParamNodes.{is_kernel}
use Rattle.hs_faults.specs.Statements.{statements}
use Rattle.hs_faults.specs.Marks.{mark_meant}
use Rattle.hs_check.specs.Elements.{edge_in, edges_of_part, node_meant, nodes_in}
use Rattle.hs_check.specs.Expressions.{sets_in, wheres_in}
use Rattle.hs_check.specs.Rules.{multi_at, multi_meant, part_meant, rule_meant}
use Rattle.hs_faults.specs.Contents.{rule_contents}
use Rattle.hs_check.proofs.Bounds.{block_opens, few_nodes, few_open, is_few, kernel_opens}
use Rattle.hs_check.proofs.PartForms.{checked_in, edges_fit, nodes_fit, statements_in, visible_nodes, scope_in, wheres_fit, wheres_known}
use Rattle.hs_check.proofs.ExprKinds.{IsKnown}
use Rattle.hs_check.proofs.BlockIds.{KeepsEdge, KeepsNode, are_multis, edges_keep, nodes_keep}
use Rattle.hs_check.proofs.Edges.{end_test}
use Rattle.hs_check.proofs.StatementForms.{edge_made}
use Rattle.hs_check.proofs.Visibility.{Opens, homes_same, node_in, node_made, nodes_in-picked}
use Rattle.hs_check.proofs.Filters.{All-filter_map, All-made}
use Rattle.hs_check.proofs.Sets.{sets_fit, sets_known, sets_once}
use Rattle.hs_check.proofs.NoFaults.{Clean}
use Rattle.hs_check.proofs.SlotForms.{slots_in_form, SameReads, are_slots}
use Rattle.hs_expr.proofs.Items.{All-at, All-from}
use Rattle.hs_expr.proofs.Lists.{slice_get-first, All-flat_map}

-- The nodes of the kernel.
abbrev pub kernel_of : Metamodel → WrittenRule → List PatternNode
kernel_of m rule = nodes_in m (declared_nodes rule.items) home.Kernel

-- This part of the rule has few nodes and edges.
abbrev pub IsFewPart : WrittenRule → BlockId → Type 0
IsFewPart rule part = has_few (declared_nodes rule.items) (statements rule.items) part ≡ true

-- ---- parts

keep_is : (m : Metamodel) (d : DeclaredNode) → d.mark ≡ Preserve → is_keep (node_meant m d).mark ≡ true
keep_is m d e = ap (λ mark. is_keep (mark_meant mark)) e

nodes_kept : (m : Metamodel) (rule : WrittenRule) (part : BlockId) → is_pattern part ≡ true → All (λ node. is_keep node.mark ≡ true) (nodes_in m (declared_nodes rule.items) part)
nodes_kept m rule part pattern = subst (All (λ (node : PatternNode). is_keep node.mark ≡ true)) (sym (nodes_in-picked m (declared_nodes rule.items) part))
    (All-filter_map (λ (node : PatternNode). is_keep node.mark ≡ true) (node_in m part) (declared_nodes rule.items) (λ k d p at made.
    let is = node_made m part d p made in
    let home_is : is_pattern d.block ≡ true = ap is_pattern (sym (homes_same part d.block is.0)) ∙ pattern in
    subst (λ (node : PatternNode). is_keep node.mark ≡ true) is.1 (keep_is m d (All-at KeepsNode (declared_nodes rule.items) k d (nodes_keep rule.items) at home_is))))

edges_kept : (m : Metamodel) (rule : WrittenRule) (part : BlockId) → is_pattern part ≡ true → All (λ edge. is_keep edge.mark ≡ true) (edges_of_part m (declared_nodes rule.items) (statements_in m rule) part)
edges_kept m rule part pattern = All-made (λ (edge : PatternEdge). is_keep edge.mark ≡ true) (edge_in m (declared_nodes rule.items) part) (checked_in m rule) (statements rule.items) (λ k s edge at made.
    let is = edge_made m (declared_nodes rule.items) part s edge made in
    let preserved = subst KeepsEdge is.is (All-at KeepsEdge (statements rule.items) k s (edges_keep rule.items) at) pattern in
    sym (ap (λ (e : PatternEdge). is_keep e.mark) is.whole) ∙ ap (λ mark. is_keep (mark_meant mark)) preserved)

pattern_edges : (m : Metamodel) (part : BlockId) (nodes : List PatternNode) (edges : List PatternEdge) → is_pattern part ≡ true → All (λ edge. EdgeFits m (end_test part edge.mark) nodes edge) edges → All (EdgeFits m is_left nodes) edges
pattern_edges m home.Kernel nodes edges e a = absurd (false≢true e)
pattern_edges m (home.Pattern i) nodes edges e a = a
pattern_edges m (home.Multi i) nodes edges e a = absurd (false≢true e)

pub pattern_block : (part : BlockId) → is_pattern part ≡ true → is_kernel part ≡ false
pattern_block home.Kernel e = absurd (false≢true e)
pattern_block (home.Pattern i) e = refl
pattern_block (home.Multi i) e = refl

pub part_fits : (m : Metamodel) (rule : WrittenRule) → Clean m rule → (part : BlockId) → is_pattern part ≡ true → IsFewPart rule part → IsPart m (rule_meant m rule) (part_meant m (rule_contents m rule) part)
part_fits m rule clean part pattern few = record {
  nodes_kept = nodes_kept m rule part pattern;
  edges_kept = edges_kept m rule part pattern;
  nodes_fit = nodes_fit m rule clean part;
  edges_fit = pattern_edges m part (visible_nodes m rule part (kernel_of m rule)) (edges_of_part m (declared_nodes rule.items) (statements_in m rule) part) pattern
      (edges_fit m rule clean part (kernel_of m rule) (block_opens m rule clean part (pattern_block part pattern) few));
}

-- ---- the kernel and multi-rules

block_edges : (m : Metamodel) (part : BlockId) (nodes : List PatternNode) (edges : List PatternEdge) → is_pattern part ≡ false → All (λ edge. EdgeFits m (end_test part edge.mark) nodes edge) edges → All (λ edge. EdgeFits m (joins edge.mark) nodes edge) edges
block_edges m home.Kernel nodes edges e a = a
block_edges m (home.Pattern i) nodes edges e a = absurd (false≢true (sym e))
block_edges m (home.Multi i) nodes edges e a = a

pub multi_block : (part : BlockId) → is_multi part ≡ true → (is_kernel part ≡ false) × (is_pattern part ≡ false)
multi_block home.Kernel e = absurd (false≢true e)
multi_block (home.Pattern i) e = absurd (false≢true e)
multi_block (home.Multi i) e = (refl, refl)

-- The reads of a part of the rule.
abbrev pub reads_there : Metamodel → WrittenRule → BlockId → List SlotRead
reads_there m rule part = reads_in (wheres_in (statements_in m rule) part) (sets_in m (declared_nodes rule.items) (statements_in m rule) part)

reads_known : (m : Metamodel) (rule : WrittenRule) (clean : Clean m rule) (part : BlockId) (before : List PatternNode) → Opens m (declared_nodes rule.items) part before → All (IsKnown (scope_in m rule part before)) (reads_there m rule part)
reads_known m rule clean part before opens =
    All-append (IsKnown (scope_in m rule part before)) (flat_map reads_of (wheres_in (statements_in m rule) part))
    (flat_map (λ (item : SetItem). reads_of item.value) (sets_in m (declared_nodes rule.items) (statements_in m rule) part))
    (All-flat_map (IsKnown (scope_in m rule part before)) reads_of (wheres_in (statements_in m rule) part) (wheres_known m rule clean part before opens))
    (All-flat_map (IsKnown (scope_in m rule part before)) (λ (item : SetItem). reads_of item.value) (sets_in m (declared_nodes rule.items) (statements_in m rule) part) (sets_known m rule clean part before opens))

pub multi_fits : (m : Metamodel) → IsMeta m → (rule : WrittenRule) → Clean m rule → (part : BlockId) → is_multi part ≡ true → IsFewPart rule part → IsMulti m (rule_meant m rule) (multi_meant m (rule_contents m rule) (kernel_of m rule) part)
multi_fits m is rule clean part multi few =
    let before = kernel_of m rule in
    let kinds = multi_block part multi in
    let opens = block_opens m rule clean part kinds.0 few in
    let slots = slots_in_form m is before (nodes_in m (declared_nodes rule.items) part) (reads_there m rule part) (sets_in m (declared_nodes rule.items) (statements_in m rule) part) (few_open m rule clean part few) in
    record {
      form = record {
        nodes_fit = nodes_fit m rule clean part;
        edges_fit = block_edges m part (visible_nodes m rule part before) (edges_of_part m (declared_nodes rule.items) (statements_in m rule) part) kinds.1 (edges_fit m rule clean part before opens);
        in_order = slots.0;
        at_own = slots.1;
      };
      wheres_fit = wheres_fit m rule clean part before opens;
      sets_fit = sets_fit m rule clean part before opens;
      sets_once = sets_once m rule clean part before opens;
      slots = are_slots m is (scope_in m rule part before) before (nodes_in m (declared_nodes rule.items) part) (reads_there m rule part) (reads_there m rule part) (sets_in m (declared_nodes rule.items) (statements_in m rule) part)
          (few_open m rule clean part few) (λ n a low high. refl) (reads_known m rule clean part before opens) (sets_fit m rule clean part before opens);
    }

abbrev IsKnownHere : Metamodel → List PatternNode → SlotRead → Type 0
IsKnownHere m kernel read = nat_lt read.node (length kernel) ≡ true → is_some (slot_kind m kernel read.node read.attribute) ≡ true

known_here : (m : Metamodel) (kernel own : List PatternNode) (read : SlotRead) → is_some (slot_kind m (kernel ++ own) read.node read.attribute) ≡ true → IsKnownHere m kernel read
known_here m kernel own read e below =
    sym (ap (λ (o : Option PatternNode). is_some (option_and_then (λ (node : PatternNode). if is_left node.mark && has (attributes_of m node.class) read.attribute then option_map kind_of_type (type_of m read.attribute) else None) o))
    (slice_get-first kernel own read.node (ltb-true read.node (length kernel) below)))
    ∙ e

all_kept : {A : Type 0} (P : A → Type 0) (t : A → Bool) (xs : List A) → All (λ x. t x ≡ true → P x) xs → All P (filter t xs)
all_kept P t [] a = All-nil P
all_kept {A} P t (x ∷ xs) a = go (t x) (All-head (λ (x : A). t x ≡ true → P x) x xs a) (all_kept P t xs (All-tail (λ (x : A). t x ≡ true → P x) x xs a))
  where
    go : (b : Bool) → (b ≡ true → P x) → All P (filter t xs) → All P (cond b (x ∷ filter t xs) (filter t xs))
    go true h rest = All-cons P x (filter t xs) (h refl) rest
    go false h rest = rest

any_kept : {A : Type 0} (p t : A → Bool) (xs : List A) → ((x : A) → p x ≡ true → t x ≡ true) → list_any p xs ≡ list_any p (filter t xs)
any_kept p t [] h = refl
any_kept {A} p t (x ∷ xs) h = go (t x) (p x) refl refl (any_kept p t xs h)
  where
    go : (b c : Bool) → t x ≡ b → p x ≡ c → list_any p xs ≡ list_any p (filter t xs) → (c || list_any p xs) ≡ list_any p (cond b (x ∷ filter t xs) (filter t xs))
    go true c is e rest = ap (λ d. d || list_any p xs) (sym e) ∙ ap (λ d. p x || d) rest
    go false true is e rest = absurd (false≢true (sym is ∙ h x e))
    go false false is e rest = rest

-- The rule's reads, of which those at the kernel's nodes make its slots.
kernel_known : (m : Metamodel) (rule : WrittenRule) → Clean m rule → All (IsFewPart rule) (each multi_at rule.items) → All (λ read. is_some (slot_kind m (kernel_of m rule) read.node read.attribute) ≡ true) (kernel_reads (rule_meant m rule))
kernel_known m rule clean few = all_kept (λ (read : SlotRead). is_some (slot_kind m (kernel_of m rule) read.node read.attribute) ≡ true) (λ (read : SlotRead). nat_lt read.node (length (kernel_of m rule))) (all_reads (rule_meant m rule))
    (All-append (IsKnownHere m (kernel_of m rule)) (reads_there m rule home.Kernel)
    (flat_map (λ (multi : Multi). reads_in multi.wheres multi.sets) (map (multi_meant m (rule_contents m rule) (kernel_of m rule)) (each multi_at rule.items)))
    (All-weaker (IsKnown (scope_in m rule home.Kernel [])) (IsKnownHere m (kernel_of m rule)) (λ read known below. known) (reads_there m rule home.Kernel) (reads_known m rule clean home.Kernel [] (kernel_opens m rule clean)))
    (All-flat_map (IsKnownHere m (kernel_of m rule)) (λ (multi : Multi). reads_in multi.wheres multi.sets) (map (multi_meant m (rule_contents m rule) (kernel_of m rule)) (each multi_at rule.items))
    (All-map (λ (multi : Multi). All (IsKnownHere m (kernel_of m rule)) (reads_in multi.wheres multi.sets)) (multi_meant m (rule_contents m rule) (kernel_of m rule)) (each multi_at rule.items)
    (All-from (λ (part : BlockId). All (IsKnownHere m (kernel_of m rule)) (reads_there m rule part)) (each multi_at rule.items) (λ k part at.
    let multi = All-at (λ (h : BlockId). is_multi h ≡ true) (each multi_at rule.items) k part (are_multis rule.items) at in
    let opens = block_opens m rule clean part (multi_block part multi).0 (All-at (IsFewPart rule) (each multi_at rule.items) k part few at) in
    All-weaker (IsKnown (scope_in m rule part (kernel_of m rule))) (IsKnownHere m (kernel_of m rule)) (known_here m (kernel_of m rule) (nodes_in m (declared_nodes rule.items) part))
    (reads_there m rule part) (reads_known m rule clean part (kernel_of m rule) opens))))))

same_reads : (reads : List SlotRead) (high : ℕ) → SameReads reads (filter (λ (read : SlotRead). nat_lt read.node high) reads) 0 (0 + high)
same_reads reads high n a low below = any_kept (λ (read : SlotRead). eqb read.node n && is_kind (Attribute read.attribute) (Attribute a)) (λ (read : SlotRead). nat_lt read.node high) reads (λ read e.
    let here = eqb-true read.node n (and_parts (eqb read.node n) (is_kind (Attribute read.attribute) (Attribute a)) e).0 in
    lt-ltb read.node high (omega arith))

pub kernel_fits : (m : Metamodel) → IsMeta m → (rule : WrittenRule) → Clean m rule → All (IsFewPart rule) (each multi_at rule.items) →
    IsBlock m (rule_meant m rule) (rule_meant m rule).shape.nodes 0 (rule_meant m rule).shape (rule_meant m rule).wheres (rule_meant m rule).sets (kernel_reads (rule_meant m rule))
kernel_fits m is rule clean few =
    let opens = kernel_opens m rule clean in
    let nodes = kernel_of m rule in
    let sets = sets_in m (declared_nodes rule.items) (statements_in m rule) home.Kernel in
    let few_here = few_nodes m (declared_nodes rule.items) (statements rule.items) home.Kernel (is_few m rule clean).kernel in
    let slots = slots_in_form m is [] nodes (all_reads (rule_meant m rule)) sets (omega arith) in
    record {
      form = record {
        nodes_fit = nodes_fit m rule clean home.Kernel;
        edges_fit = edges_fit m rule clean home.Kernel [] opens;
        in_order = slots.0;
        at_own = slots.1;
      };
      wheres_fit = wheres_fit m rule clean home.Kernel [] opens;
      sets_fit = sets_fit m rule clean home.Kernel [] opens;
      sets_once = sets_once m rule clean home.Kernel [] opens;
      slots = are_slots m is (scope_in m rule home.Kernel []) [] nodes (all_reads (rule_meant m rule)) (kernel_reads (rule_meant m rule)) sets (omega arith) (same_reads (all_reads (rule_meant m rule)) (length nodes)) (kernel_known m rule clean few) (sets_fit m rule clean home.Kernel [] opens);
    }
