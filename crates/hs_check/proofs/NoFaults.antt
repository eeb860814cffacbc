-- What is so of a rule in which no fault is found.
use Rattle.std.proofs.Common.{ℕ, zero, suc, ◌≡◌, ◌++◌, List, [], ◌∷◌, Bool, true, false, not, ◌&&◌, is_some, length, nat_le, take, Option, Some, None, Result, Ok, Err, slice_get, refl, ap, sym, ◌∙◌}
use Rattle.std.proofs.lemmas.Bool.{and_parts, not-false}
use Rattle.std.proofs.lemmas.List.{append-nil, append_assoc, append-nil, append_assoc}
use Rattle.std.proofs.lemmas.Option.{none-some, same_Some}
use Rattle.std.specs.List.{flat_map}
use Rattle.hs_expr.specs.declared.Kind.{Kind}
use Rattle.hs_expr.specs.declared.Kind.TheVariants as sort
use Rattle.hs_expr.specs.declared.Expr.{Expr}
use Rattle.hs_expr.specs.declared.Name.{Name}
use Rattle.hs_expr.specs.declared.NameExpr.{NameExpr}
use Rattle.hs_expr.specs.declared.Span.{Span}
use Rattle.hs_expr.specs.Steps.{◌>>=◌, demand, fault_as, needed}
use Rattle.hs_expr.specs.Verdict.{fault_if}
use Rattle.hs_eval.specs.Checking.{Names, check_tree}
use Rattle.hs_eval.specs.Results.{checked_of, ok_map}
use Rattle.hs_eval.specs.declared.checked.Checked.{Checked}
use Rattle.hs_eval.specs.declared.fault.ExprFault.{ExprFault}
use Rattle.hs_text.specs.declared.syntax.Definition.{Definition}
use Rattle.hs_text.specs.declared.syntax.Definition.TheVariants as definition
use Rattle.hs_text.specs.declared.syntax.Mark.{Mark}
use Rattle.hs_text.specs.declared.syntax.Param.{Param}
use Rattle.hs_text.specs.declared.syntax.Rule.{Rule}
use Rattle.hs_expr.specs.NameExprs.{expr_tree}
use Rattle.hs_types.specs.declared.meta.Metamodel.{Metamodel}
use Rattle.hs_faults.specs.declared.data_parameters.DataParam.{DataParam}
use Rattle.hs_faults.specs.declared.fault.RuleFault.{RuleFault}
use Rattle.hs_faults.specs.declared.nodes.DeclaredNode.{DeclaredNode}
use Rattle.hs_faults.specs.declared.nodes.BlockId.{BlockId}
use Rattle.hs_faults.specs.Faults.{rule_faults_after, faults_in_rule, faults_of_rule, faults_of_rules}
use Rattle.hs_faults.specs.Declarations.{class_name_faults, faults_of_nodes, faults_of_params, has_objects, is_again, is_created, param_kind_faults, node_faults, param_faults}
use Rattle.hs_faults.specs.Sizes.{size_faults, keeps_limits}
use Rattle.hs_faults.specs.Names.{class_number}
use Rattle.hs_faults.specs.Nodes.{declared_nodes}
use Rattle.hs_faults.specs.Numbers.{data_params}
use Rattle.hs_faults.specs.ParamNodes.{fit_faults, param_node_faults}
use Rattle.hs_faults.specs.Statements.{Statement, statements}
use Rattle.hs_faults.specs.StatementFaults.{Slot, attribute_of, edge_checked, expr_checked, is_deleted, is_of_class, is_set_before, may_join, rule_fault, rule_scope, visible_node, same_block, same_kind, set_checked, slot_set_by, statement_checked, target_from, statement_faults, first_fault, where_checked}
use Rattle.hs_faults.specs.UnitFaults.{rules_of}
use Rattle.hs_expr.proofs.Clean.{clean_at, empty_parts, no_test, some-not_none}

-- ---- nothing that is reported

pub yes_test : {E : Type 0} (b : Bool) (f : E) → fault_if (not b) f ≡ [] → b ≡ true
yes_test b f e = not-false b (no_test (not b) f e)

-- ---- definitions in steps

pub needed-ok : {X B F : Type 0} (o : Option X) (fault : F) (next : X → Result B F) (r : B) → (needed o fault >>= next) ≡ Ok r → (x : X) × (o ≡ Some x) × (next x ≡ Ok r)
needed-ok None fault next r e = cc
needed-ok (Some x) fault next r e = (x, refl, e)

pub demand-ok : {B F : Type 0} (test : Bool) (fault : F) (next : Unit {0} → Result B F) (r : B) → (demand test fault >>= next) ≡ Ok r → (test ≡ true) × (next tt ≡ Ok r)
demand-ok false fault next r e = cc
demand-ok true fault next r e = (refl, e)

pub steps-ok : {A B F : Type 0} (c : Result A F) (next : A → Result B F) (r : B) → (c >>= next) ≡ Ok r → (x : A) × (c ≡ Ok x) × (next x ≡ Ok r)
steps-ok (Err f) next r e = cc
steps-ok (Ok x) next r e = (x, refl, e)

demanded : {F : Type 0} (test : Bool) (fault : F) → demand test fault ≡ Ok tt → test ≡ true
demanded false fault e = cc
demanded true fault e = refl

none_told : {A F : Type 0} (r : Result A F) → first_fault r ≡ [] → (x : A) × (r ≡ Ok x)
none_told (Ok x) e = (x, refl)
none_told (Err f) e = absurd (some-not_none f [] e)

-- ---- each pass

-- A class has objects, and it can be made of it where one is created.
pub record KnownClass (m : Metamodel) (created : Bool) (class : Name) : Type 0 where
  pub number : ℕ
  pub named : class_number m class.text ≡ Some number
  pub fine : has_objects m created class ≡ true

pub known_class : (m : Metamodel) (created : Bool) (class : Name) → class_name_faults m created class ≡ [] → KnownClass m created class
known_class m created class e =
    let parts = empty_parts (fault_if (not (is_some (class_number m class.text))) _) (fault_if (not (has_objects m created class)) _) e in
    go (class_number m class.text) refl (yes_test (is_some (class_number m class.text)) _ parts.0) (yes_test (has_objects m created class) _ parts.1)
  where
    go : (o : Option ℕ) → class_number m class.text ≡ o → is_some o ≡ true → has_objects m created class ≡ true → KnownClass m created class
    go None is e f = cc
    go (Some c) is e f = record { number = c; named = is; fine = f }

-- What the third pass finds of each statement.
third_at : (m : Metamodel) (params : List DataParam) (nodes : List DeclaredNode) (before : List Slot) (said : List Statement) → statement_faults m params nodes before said ≡ [] →
    (k : ℕ) (s : Statement) → slice_get said k ≡ Some s → statement_checked m params nodes (before ++ flat_map slot_set_by (take k said)) s ≡ Ok tt
third_at m params nodes before [] e k s at = absurd (none-some s at)
third_at m params nodes before (t ∷ said) e zero s at =
    let none = none_told (statement_checked m params nodes before t) (empty_parts (first_fault (statement_checked m params nodes before t)) _ e).0 in
    ap (λ (b : List Slot). statement_checked m params nodes b s) (append-nil before) ∙ ap (statement_checked m params nodes before) (sym (same_Some t s at)) ∙ none.1
third_at m params nodes before (t ∷ said) e (suc k) s at =
    ap (λ (b : List Slot). statement_checked m params nodes b s) (sym (append_assoc before (slot_set_by t) (flat_map slot_set_by (take k said))))
    ∙ third_at m params nodes (before ++ slot_set_by t) said (empty_parts (first_fault (statement_checked m params nodes before t)) (statement_faults m params nodes (before ++ slot_set_by t) said) e).1 k s at

-- All that holds of a rule without faults.
pub record Clean (m : Metamodel) (rule : Rule) : Type 0 where
  pub params_new : (k : ℕ) (p : Param) → slice_get rule.params k ≡ Some p → is_again (λ (other : Param). other.name) (take k rule.params) p.name ≡ false
  pub params_known : (k : ℕ) (p : Param) → slice_get rule.params k ≡ Some p → param_kind_faults m p.kind ≡ []
  pub nodes_new : (k : ℕ) (d : DeclaredNode) → slice_get (declared_nodes rule.items) k ≡ Some d → is_again (λ (other : DeclaredNode). other.name) (take k (declared_nodes rule.items)) d.name ≡ false
  pub nodes_known : (k : ℕ) (d : DeclaredNode) → slice_get (declared_nodes rule.items) k ≡ Some d → KnownClass m (is_created d.mark) d.class
  pub params_fit : (k : ℕ) (p : Param) → slice_get rule.params k ≡ Some p → fit_faults (declared_nodes rule.items) p ≡ []
  pub said : (k : ℕ) (s : Statement) → slice_get (statements rule.items) k ≡ Some s → statement_checked m (data_params rule.params) (declared_nodes rule.items) (flat_map slot_set_by (take k (statements rule.items))) s ≡ Ok tt
  pub limits : keeps_limits m rule ≡ true

clean : (m : Metamodel) (rule : Rule) → faults_in_rule m rule ≡ [] → Clean m rule
clean m rule e =
    let nodes = declared_nodes rule.items in
    let params = rule.params in
    let a = empty_parts (faults_of_params m params) _ e in
    let b = empty_parts (faults_of_nodes m nodes) _ a.1 in
    let c = empty_parts (param_node_faults nodes params) _ b.1 in
    let d = empty_parts (statement_faults m (data_params params) nodes [] (statements rule.items)) (size_faults m rule) c.1 in
    record {
      params_new = λ k p at. no_test _ _ (empty_parts _ (param_kind_faults m p.kind) (clean_at (λ i (q : Param). param_faults m (take i params) q) params a.0 k p at)).0;
      params_known = λ k p at. (empty_parts (fault_if (is_again (λ (other : Param). other.name) (take k params) p.name) _) (param_kind_faults m p.kind) (clean_at (λ i (q : Param). param_faults m (take i params) q) params a.0 k p at)).1;
      nodes_new = λ k n at. no_test _ _ (empty_parts _ (class_name_faults m (is_created n.mark) n.class) (clean_at (λ i (q : DeclaredNode). node_faults m (take i nodes) q) nodes b.0 k n at)).0;
      nodes_known = λ k n at. known_class m (is_created n.mark) n.class (empty_parts (fault_if (is_again (λ (other : DeclaredNode). other.name) (take k nodes) n.name) _) (class_name_faults m (is_created n.mark) n.class) (clean_at (λ i (q : DeclaredNode). node_faults m (take i nodes) q) nodes b.0 k n at)).1;
      params_fit = λ k p at. clean_at (λ i (q : Param). fit_faults nodes q) params c.0 k p at;
      said = λ k s at. third_at m (data_params params) nodes [] (statements rule.items) d.0 k s at;
      limits = yes_test (keeps_limits m rule) _ d.1;
    }

-- What is found of each rule of these, after those before, where nothing is found of all.
rules_at : (m : Metamodel) (before : List Rule) (definitions : List Definition) → rule_faults_after m before definitions ≡ [] → (k : ℕ) (rule : Rule) → slice_get (rules_of definitions) k ≡ Some rule → faults_of_rule m (before ++ take k (rules_of definitions)) rule ≡ []
rules_at m before [] e k rule at = absurd (none-some rule at)
rules_at m before (definition.Rule first ∷ definitions) e zero rule at =
    ap (λ (b : List Rule). faults_of_rule m b rule) (append-nil before)
    ∙ ap (faults_of_rule m before) (sym (same_Some first rule at))
    ∙ (empty_parts (faults_of_rule m before first) (rule_faults_after m (before ++ first ∷ []) definitions) e).0
rules_at m before (definition.Rule first ∷ definitions) e (suc k) rule at =
    ap (λ (b : List Rule). faults_of_rule m b rule) (sym (append_assoc before (first ∷ []) (take k (rules_of definitions))))
    ∙ rules_at m (before ++ first ∷ []) definitions (empty_parts (faults_of_rule m before first) (rule_faults_after m (before ++ first ∷ []) definitions) e).1 k rule at
rules_at m before (definition.Unit unit ∷ definitions) e k rule at =
    ap (λ (b : List Rule). faults_of_rule m (b ++ take k (rules_of definitions)) rule) (sym (append-nil before))
    ∙ rules_at m (before ++ []) definitions e k rule at

-- A rule after those before it, of which nothing is found.
pub record NextRule (m : Metamodel) (before : List Rule) (rule : Rule) : Type 0 where
  pub few : nat_le 64 (length before) ≡ false
  pub new : is_again (λ (other : Rule). other.name) before rule.name ≡ false
  pub clean : Clean m rule

next_rule : (m : Metamodel) (before : List Rule) (rule : Rule) → faults_of_rule m before rule ≡ [] → NextRule m before rule
next_rule m before rule e =
    let a = empty_parts (fault_if (nat_le 64 (length before)) _) (fault_if (is_again (λ (other : Rule). other.name) before rule.name) _ ++ faults_in_rule m rule) e in
    let b = empty_parts (fault_if (is_again (λ (other : Rule). other.name) before rule.name) _) (faults_in_rule m rule) a.1 in
    record { few = no_test _ _ a.0; new = no_test _ _ b.0; clean = clean m rule b.1 }

pub each_rule : (m : Metamodel) (definitions : List Definition) → faults_of_rules m definitions ≡ [] → (k : ℕ) (rule : Rule) → slice_get (rules_of definitions) k ≡ Some rule → NextRule m (take k (rules_of definitions)) rule
each_rule m definitions e k rule at = next_rule m (take k (rules_of definitions)) rule (rules_at m [] definitions e k rule at)

-- ---- each statement

-- The nodes that an edge joins, and the class that its reference leads to.
pub record SoundEdge (m : Metamodel) (nodes : List DeclaredNode) (home : BlockId) (mark : Mark) (source target reference : Name) : Type 0 where
  pub from : DeclaredNode
  pub to : DeclaredNode
  pub class : ℕ
  pub from_open : visible_node nodes home source.text ≡ Some from
  pub to_open : visible_node nodes home target.text ≡ Some to
  pub leads : target_from m from reference.text ≡ Some class
  pub below : is_of_class m class to ≡ true
  pub joins_from : may_join home mark from.mark ≡ true
  pub joins_to : may_join home mark to.mark ≡ true

pub sound_edge : (m : Metamodel) (nodes : List DeclaredNode) (home : BlockId) (mark : Mark) (source target reference : Name) → edge_checked m nodes home mark source target reference ≡ Ok tt → SoundEdge m nodes home mark source target reference
unfolding edge_checked
sound_edge m nodes home mark source target reference e =
    let from = needed-ok (visible_node nodes home source.text) _ _ tt e in
    let to = needed-ok (visible_node nodes home target.text) _ _ tt from.2 in
    let class = needed-ok (target_from m from.0 reference.text) _ _ tt to.2 in
    let right = demanded (is_of_class m class.0 to.0 && may_join home mark from.0.mark && may_join home mark to.0.mark) _ class.2 in
    let both = and_parts (is_of_class m class.0 to.0 && may_join home mark from.0.mark) (may_join home mark to.0.mark) right in
    let first = and_parts (is_of_class m class.0 to.0) (may_join home mark from.0.mark) both.0 in
    record { from = from.0; to = to.0; class = class.0; from_open = from.1; to_open = to.1; leads = class.1; below = first.0; joins_from = first.1; joins_to = both.1 }

pub kinds_same : (a b : Kind) → same_kind a b ≡ true → a ≡ b
kinds_same sort.Int sort.Int e = refl
kinds_same sort.Bool sort.Bool e = refl
kinds_same sort.Text sort.Text e = refl
kinds_same sort.Int sort.Bool e = cc
kinds_same sort.Int sort.Text e = cc
kinds_same sort.Bool sort.Int e = cc
kinds_same sort.Bool sort.Text e = cc
kinds_same sort.Text sort.Int e = cc
kinds_same sort.Text sort.Bool e = cc

-- The expression is checked to be one of this kind.
abbrev pub IsOfKind : Names → NameExpr → Kind → Type 0
IsOfKind names expr k = (e : Expr) × (check_tree names (expr_tree expr) ≡ Ok (e, k))

abbrev kind_or_bool : Result Checked RuleFault → Kind
kind_or_bool (Ok found) = found.kind
kind_or_bool (Err f) = sort.Bool

of_kind : (names : Names) (expr : NameExpr) (k : Kind) (found : Checked) → expr_checked names expr ≡ Ok found → found.kind ≡ k → IsOfKind names expr k
of_kind names expr k found e same = go (check_tree names (expr_tree expr)) refl e
  where
    go : (c : Result (Expr × Kind) ExprFault) → check_tree names (expr_tree expr) ≡ c → fault_as rule_fault (ok_map checked_of c) ≡ Ok found → IsOfKind names expr k
    go (Err f) at e = cc
    go (Ok (a, n)) at e = (a, at ∙ ap (λ (n : Kind). Ok (a, n)) (ap kind_or_bool e ∙ same))

-- The node that a set writes to, and its attribute, whose kind the value has.
pub record SoundSet (m : Metamodel) (params : List DataParam) (nodes : List DeclaredNode) (before : List Slot) (home : BlockId) (node attribute : Name) (value : NameExpr) : Type 0 where
  pub written : DeclaredNode
  pub wanted : ℕ × Kind
  pub written_open : visible_node nodes home node.text ≡ Some written
  pub stays : is_deleted written.mark ≡ false
  pub own : same_block home written.block ≡ true
  pub named : attribute_of m written attribute.text ≡ Some wanted
  pub new : is_set_before before node.text attribute.text ≡ false
  pub of_kind : IsOfKind (rule_scope m params nodes home) value wanted.1

pub sound_set : (m : Metamodel) (params : List DataParam) (nodes : List DeclaredNode) (before : List Slot) (home : BlockId) (node attribute : Name) (value : NameExpr) → set_checked m params nodes before home node attribute value ≡ Ok tt → SoundSet m params nodes before home node attribute value
unfolding set_checked
sound_set m params nodes before home node attribute value e =
    let written = needed-ok (visible_node nodes home node.text) _ _ tt e in
    let stays = demand-ok (not (is_deleted written.0.mark)) _ _ tt written.2 in
    let own = demand-ok (same_block home written.0.block) _ _ tt stays.1 in
    let wanted = needed-ok (attribute_of m written.0 attribute.text) _ _ tt own.1 in
    let new = demand-ok (not (is_set_before before node.text attribute.text)) _ _ tt wanted.2 in
    let found = steps-ok (expr_checked (rule_scope m params nodes home) value) _ tt new.1 in
    let same = kinds_same found.0.kind wanted.0.1 (demanded (same_kind found.0.kind wanted.0.1) _ found.2) in
    record {
      written = written.0;
      wanted = wanted.0;
      written_open = written.1;
      stays = go (is_deleted written.0.mark) stays.0;
      own = own.0;
      named = wanted.1;
      new = go (is_set_before before node.text attribute.text) new.0;
      of_kind = of_kind (rule_scope m params nodes home) value wanted.0.1 found.0 found.1 same;
    }
  where
    go : (b : Bool) → not b ≡ true → b ≡ false
    go true e = cc
    go false e = refl

pub sound_where : (m : Metamodel) (params : List DataParam) (nodes : List DeclaredNode) (home : BlockId) (word : Span) (test : NameExpr) → where_checked m params nodes home word test ≡ Ok tt → IsOfKind (rule_scope m params nodes home) test sort.Bool
unfolding where_checked
sound_where m params nodes home word test e =
    let found = steps-ok (expr_checked (rule_scope m params nodes home) test) _ tt e in
    let same = kinds_same found.0.kind sort.Bool (demanded (same_kind found.0.kind sort.Bool) _ found.2) in
    of_kind (rule_scope m params nodes home) test sort.Bool found.0 found.1 same
