-- What a part of a rule means fits: its nodes, edges, conditions and sets.
use Rattle.std.proofs.Common.{ℕ, ◌≡◌, ◌&&◌, ◌||◌, ◌++◌, List, map, Bool, true, false, not, take, slice_get, Option, Some, Ok, refl, ap, sym, ◌∙◌, subst}
use Rattle.std.proofs.lemmas.Bool.{and_parts, false≢true}
use Rattle.std.specs.List.{All, flat_map}
use Rattle.std.specs.Option.{option_map_or}
use Rattle.hs_eval.specs.Checking.{Names}
use Rattle.hs_expr.specs.declared.Expr.{Expr}
use Rattle.hs_expr.specs.declared.Kind.TheVariants as kind
use Rattle.hs_expr.specs.Evaluation.{Scope, kind_in, reads_of}
use Rattle.hs_text.specs.declared.syntax.Mark.{Mark as WrittenMark}
use Rattle.hs_text.specs.declared.syntax.Mark.TheVariants as written
use Rattle.hs_text.specs.declared.syntax.Rule.{Rule}
use Rattle.hs_types.specs.declared.meta.Metamodel.{Metamodel}
use Rattle.hs_types.specs.declared.rule.PatternEdge.{PatternEdge}
use Rattle.hs_types.specs.declared.rule.PatternNode.{PatternNode}
use Rattle.hs_types.specs.Pattern.{is_make}
use Rattle.hs_types.specs.RuleForm.{EdgeFits, NodeFits}
use Rattle.hs_faults.specs.declared.nodes.DeclaredNode.{DeclaredNode}
use Rattle.hs_faults.specs.declared.nodes.BlockId.{BlockId}
use Rattle.hs_faults.specs.declared.statements.CheckedStatement.{CheckedStatement}
use Rattle.hs_faults.specs.Contents.{checked_statement}
use Rattle.hs_faults.specs.Declarations.{is_created}
use Rattle.hs_faults.specs.Names.{has_concrete, is_concrete}
use Rattle.hs_faults.specs.Nodes.{declared_nodes}
use Rattle.hs_faults.specs.Numbers.{data_params}
use Rattle.hs_faults.specs.Statements.{Statement, statements}
use Rattle.hs_faults.specs.StatementFaults.{rule_scope, slot_set_by, statement_checked}
use Rattle.hs_faults.specs.Marks.{mark_meant}
use Rattle.hs_check.specs.Elements.{edge_in, edges_of_part, node_meant, nodes_in}
use Rattle.hs_check.specs.Expressions.{where_in, wheres_in}
use Rattle.hs_check.specs.Parameters.{class_meant, params_meant}
use Rattle.hs_check.proofs.Classes.{concrete, have_common}
use Rattle.hs_check.proofs.ExprKinds.{IsKnown}
use Rattle.hs_check.proofs.Edges.{edge_fits, end_test}
use Rattle.hs_check.proofs.StatementForms.{edge_made, expr_fits, where_made}
use Rattle.hs_check.proofs.Visibility.{Opens, node_in, node_made, nodes_in-picked}
use Rattle.hs_check.proofs.Filters.{All-filter_map, All-made}
use Rattle.hs_check.proofs.Scopes.{agree, scope_with}
use Rattle.hs_check.proofs.NoFaults.{Clean, sound_where}

-- The nodes that a part of a rule may name, after those before its own.
abbrev pub visible_nodes : Metamodel → Rule → BlockId → List PatternNode → List PatternNode
visible_nodes m rule part before = before ++ nodes_in m (declared_nodes rule.items) part

-- The statements of a rule with their expressions.
abbrev pub checked_in : Metamodel → Rule → Statement → CheckedStatement
checked_in m rule = checked_statement m (data_params rule.params) (declared_nodes rule.items)

abbrev pub statements_in : Metamodel → Rule → List CheckedStatement
statements_in m rule = map (checked_in m rule) (statements rule.items)

-- What the names of its expressions denote, and the kinds of what they read.
abbrev pub names_in : Metamodel → Rule → BlockId → Names
names_in m rule part = rule_scope m (data_params rule.params) (declared_nodes rule.items) part

abbrev pub scope_in : Metamodel → Rule → BlockId → List PatternNode → Scope
scope_in m rule part before = scope_with m (params_meant m rule.params) (visible_nodes m rule part before)

-- What is checked of a statement, after those before it.
abbrev pub IsRight : Metamodel → Rule → ℕ → Statement → Type 0
IsRight m rule k s = statement_checked m (data_params rule.params) (declared_nodes rule.items) (flat_map slot_set_by (take k (statements rule.items))) s ≡ Ok tt

-- ---- nodes

make_is : (mark : WrittenMark) → is_make (mark_meant mark) ≡ is_created mark
make_is written.Preserve = refl
make_is written.Create = refl
make_is written.Delete = refl

either_not : (a b : Bool) → (not a || b) ≡ true → a ≡ true → b ≡ true
either_not true b h e = h
either_not false b h e = absurd (false≢true e)

node_fits : (m : Metamodel) (rule : Rule) → Clean m rule → (k : ℕ) (d : DeclaredNode) → slice_get (declared_nodes rule.items) k ≡ Some d → NodeFits m (node_meant m d)
node_fits m rule clean k d at =
    let known = clean.nodes_known k d at in
    let fine : (has_concrete m known.number && (not (is_created d.mark) || is_concrete m known.number)) ≡ true =
    ap (λ (o : Option ℕ). option_map_or (λ c. has_concrete m c && (not (is_created d.mark) || is_concrete m c)) o true) (sym known.named) ∙ known.fine in
    let parts = and_parts (has_concrete m known.number) (not (is_created d.mark) || is_concrete m known.number) fine in
    let same : known.number ≡ class_meant m d.class.text = sym (ap (λ (o : Option ℕ). option_map_or (λ n. n) o 0) known.named) in
    subst (λ (c : ℕ). NodeFits m (record { name = d.name.text; class = c; mark = mark_meant d.mark })) same
    (have_common m known.number parts.0, λ made. concrete m known.number (either_not (is_created d.mark) (is_concrete m known.number) parts.1 (sym (make_is d.mark) ∙ made)))

pub nodes_fit : (m : Metamodel) (rule : Rule) → Clean m rule → (part : BlockId) → All (NodeFits m) (nodes_in m (declared_nodes rule.items) part)
nodes_fit m rule clean part =
    subst (All (NodeFits m)) (sym (nodes_in-picked m (declared_nodes rule.items) part))
    (All-filter_map (NodeFits m) (node_in m part) (declared_nodes rule.items) (λ k d p at made. subst (NodeFits m) (node_made m part d p made).1 (node_fits m rule clean k d at)))

-- ---- edges

module _ (m : Metamodel) (rule : Rule) (clean : Clean m rule) (part : BlockId) (before : List PatternNode) (opens : Opens m (declared_nodes rule.items) part before) where
  pub edges_fit : All (λ edge. EdgeFits m (end_test part edge.mark) (visible_nodes m rule part before) edge) (edges_of_part m (declared_nodes rule.items) (statements_in m rule) part)
  edges_fit = All-made (λ (edge : PatternEdge). EdgeFits m (end_test part edge.mark) (visible_nodes m rule part before) edge) (edge_in m (declared_nodes rule.items) part) (checked_in m rule) (statements rule.items) (λ k s edge at made.
      let is = edge_made m (declared_nodes rule.items) part s edge made in
      let right = subst (IsRight m rule k) is.is (clean.said k s at) in
      subst (λ (edge : PatternEdge). EdgeFits m (end_test part edge.mark) (visible_nodes m rule part before) edge) is.whole (edge_fits m (declared_nodes rule.items) part before opens is.mark is.source is.target is.reference right))

  -- ---- conditions

  where_fits : (k : ℕ) (s : Statement) (e : Expr) → slice_get (statements rule.items) k ≡ Some s → where_in part (checked_in m rule s) ≡ Some e →
      (kind_in (scope_in m rule part before) e ≡ Some kind.Bool) × All (IsKnown (scope_in m rule part before)) (reads_of e)
  where_fits k s e at made =
      let is = where_made m (data_params rule.params) (declared_nodes rule.items) part s e made in
      let right = subst (IsRight m rule k) is.is (clean.said k s at) in
      expr_fits (names_in m rule part) (scope_in m rule part before) (agree m rule clean part before opens)
      is.test kind.Bool e (sound_where m (data_params rule.params) (declared_nodes rule.items) part is.word is.test right) is.expr

  pub wheres_fit : All (λ e. kind_in (scope_in m rule part before) e ≡ Some kind.Bool) (wheres_in (statements_in m rule) part)
  wheres_fit = All-made (λ (e : Expr). kind_in (scope_in m rule part before) e ≡ Some kind.Bool)
      (where_in part) (checked_in m rule) (statements rule.items) (λ k s e at made. (where_fits k s e at made).0)

  pub wheres_known : All (λ e. All (IsKnown (scope_in m rule part before)) (reads_of e)) (wheres_in (statements_in m rule) part)
  wheres_known = All-made (λ (e : Expr). All (IsKnown (scope_in m rule part before)) (reads_of e))
      (where_in part) (checked_in m rule) (statements rule.items) (λ k s e at made. (where_fits k s e at made).1)
