-- A rule without faults keeps the limits of rules.
use Rattle.std.proofs.Common.{ℕ, ◌≤◌, ◌≡◌, ◌&&◌, List, [], true, eqb, length, slice_get, Some, ap, sym, ◌∙◌, subst, arith}
use Rattle.std.proofs.lemmas.Bool.{and_from, and_parts, eqb-true, leb-true}
use Rattle.std.proofs.lemmas.List.{length-map}
use Rattle.std.proofs.lemmas.List.Elements.{All-map}
use Rattle.std.specs.List.{All, filter, filter_map}
use Rattle.hs_expr.specs.declared.Expr.{Expr}
use Rattle.hs_expr.specs.Evaluation.{nesting}
use Rattle.hs_expr.specs.Verdict.{each}
use Rattle.hs_text.specs.declared.syntax.Rule.{Rule as WrittenRule}
use Rattle.hs_types.specs.declared.meta.Metamodel.{Metamodel}
use Rattle.hs_types.specs.declared.rule.Multi.{Multi}
use Rattle.hs_types.specs.declared.rule.Part.{Part}
use Rattle.hs_types.specs.declared.rule.PatternEdge.{PatternEdge}
use Rattle.hs_types.specs.declared.rule.PatternNode.{PatternNode}
use Rattle.hs_types.specs.declared.rule.SetItem.{SetItem}
use Rattle.hs_types.specs.Limits.{AreFlat, IsSmallRule, IsSmallShape, parallel_to}
use Rattle.hs_expr.specs.Lists.{same_text}
use Rattle.hs_faults.specs.declared.nodes.DeclaredNode.{DeclaredNode}
use Rattle.hs_faults.specs.declared.nodes.BlockId.{BlockId}
use Rattle.hs_faults.specs.declared.nodes.BlockId.TheVariants as home
use Rattle.hs_faults.specs.Sizes.{has_few_alike, is_alike, is_edge_of, is_multi, is_pattern}
use Rattle.hs_faults.specs.Nodes.{declared_nodes}
use Rattle.hs_faults.specs.Numbers.{data_params}
use Rattle.hs_faults.specs.Statements.{Statement, Edge, statements}
use Rattle.hs_faults.specs.StatementFaults.{same_block}
use Rattle.hs_check.specs.Elements.{edge_in, edge_of, edges_of_part, node_number, nodes_in}
use Rattle.hs_check.specs.Expressions.{set_in, sets_in, where_in, wheres_in}
use Rattle.hs_check.specs.Parameters.{class_meant, param_meant}
use Rattle.hs_check.specs.Rules.{forbid_at, multi_at, multi_meant, part_meant, require_at, rule_meant}
use Rattle.hs_faults.specs.Contents.{rule_contents}
use Rattle.hs_check.proofs.Params.{itself}
use Rattle.hs_check.proofs.Bounds.{block_opens, few_in, few_nodes, is_few, kernel_opens}
use Rattle.hs_check.proofs.PartForms.{IsRight, checked_in, names_in, statements_in, visible_nodes}
use Rattle.hs_check.proofs.BlockIds.{are_multis, are_patterns_forbid, are_patterns_require, multis_counted, patterns_counted}
use Rattle.hs_check.proofs.Edges.{ReferenceSpot, reference_spot}
use Rattle.hs_check.proofs.StatementForms.{EdgeMade, edge_made, expr_flat, features_same, nodes_same, set_made, where_made}
use Rattle.hs_check.proofs.Visibility.{Opens, Spot}
use Rattle.hs_check.proofs.Parts.{IsFewPart, kernel_of, multi_block, pattern_block}
use Rattle.hs_check.proofs.Filters.{All-filter_map, All-made, fewer_made, fewer_pass, filter_map-map, list_all-at}
use Rattle.hs_check.proofs.NoFaults.{Clean, sound_edge}
use Rattle.hs_expr.proofs.Items.{All-at, All-from, same_text-from}

-- ---- edges

module _ (m : Metamodel) (rule : WrittenRule) (clean : Clean m rule) (part : BlockId) (before : List PatternNode) (opens : Opens m (declared_nodes rule.items) part before) where
  -- An edge with the nodes and the reference that its names mean.
  record EdgeKnown (s : Statement) (edge : PatternEdge) : Type 0 where
    made : EdgeMade m (declared_nodes rule.items) part s edge
    from : DeclaredNode
    to : DeclaredNode
    source : Spot m (declared_nodes rule.items) (visible_nodes m rule part before) made.source.text from
    target : Spot m (declared_nodes rule.items) (visible_nodes m rule part before) made.target.text to
    class : ℕ
    by : ReferenceSpot m (declared_nodes rule.items) made.source.text made.reference.text from class

  edge_known : (k : ℕ) (s : Statement) (edge : PatternEdge) → slice_get (statements rule.items) k ≡ Some s → edge_of m (declared_nodes rule.items) part s ≡ Some edge → EdgeKnown s edge
  edge_known k s edge at e =
      let ds = declared_nodes rule.items in
      let is = edge_made m ds part s edge e in
      let sound = sound_edge m (declared_nodes rule.items) part is.mark is.source is.target is.reference (subst (IsRight m rule k) is.is (clean.said k s at)) in
      let from = opens.found is.source.text sound.from sound.from_open in
      record {
        made = is;
        from = sound.from;
        to = sound.to;
        source = from;
        target = opens.found is.target.text sound.to sound.to_open;
        class = sound.class;
        by = reference_spot m ds (visible_nodes m rule part before) is.source.text is.reference.text sound.from sound.class from sound.leads;
      }

  -- Edges of the same numbers have the same names.
  edges_alike : (s t : Statement) (a b : PatternEdge) (x : EdgeKnown s a) → EdgeKnown t b → (eqb b.source a.source && eqb b.reference a.reference && eqb b.target a.target) ≡ true → is_alike part x.made.source x.made.target x.made.reference t ≡ true
  edges_alike s t a b x y e =
      let ds = declared_nodes rule.items in
      let nodes = visible_nodes m rule part before in
      let outer = and_parts (eqb b.source a.source && eqb b.reference a.reference) (eqb b.target a.target) e in
      let inner = and_parts (eqb b.source a.source) (eqb b.reference a.reference) outer.0 in
      let source_number : node_number ds x.made.source.text ≡ node_number ds y.made.source.text =
      ap (λ (z : PatternEdge). z.source) x.made.whole ∙ sym (eqb-true b.source a.source inner.0) ∙ sym (ap (λ (z : PatternEdge). z.source) y.made.whole) in
      let target_number : node_number ds x.made.target.text ≡ node_number ds y.made.target.text =
      ap (λ (z : PatternEdge). z.target) x.made.whole ∙ sym (eqb-true b.target a.target outer.1) ∙ sym (ap (λ (z : PatternEdge). z.target) y.made.whole) in
      let number : x.by.number ≡ y.by.number =
      sym x.by.number_is ∙ ap (λ (z : PatternEdge). z.reference) x.made.whole ∙ sym (eqb-true b.reference a.reference inner.1) ∙ sym (ap (λ (z : PatternEdge). z.reference) y.made.whole) ∙ y.by.number_is in
      let sources = nodes_same m ds nodes x.made.source.text y.made.source.text x.from y.from x.source y.source source_number in
      let targets = nodes_same m ds nodes x.made.target.text y.made.target.text x.to y.to x.target y.target target_number in
      let references = features_same m (class_meant m x.from.class.text) (class_meant m y.from.class.text) y.by.number x.made.reference.text y.made.reference.text (x.by.named ∙ ap (λ (n : ℕ). Some n) number) y.by.named in
      ap (is_alike part x.made.source x.made.target x.made.reference) y.made.is
      ∙ and_from (same_block part part && same_text x.made.source.text y.made.source.text && same_text x.made.target.text y.made.target.text) (same_text x.made.reference.text y.made.reference.text)
      (and_from (same_block part part && same_text x.made.source.text y.made.source.text) (same_text x.made.target.text y.made.target.text)
      (and_from (same_block part part) (same_text x.made.source.text y.made.source.text) (itself part) (same_text-from x.made.source.text y.made.source.text sources))
      (same_text-from x.made.target.text y.made.target.text targets))
      (same_text-from x.made.reference.text y.made.reference.text references)

  pub small_shape : IsFewPart rule part → IsSmallShape (nodes_in m (declared_nodes rule.items) part) (edges_of_part m (declared_nodes rule.items) (statements_in m rule) part)
  small_shape few = subst (IsSmallShape (nodes_in m (declared_nodes rule.items) part)) (sym (filter_map-map (edge_in m (declared_nodes rule.items) part) (checked_in m rule) (statements rule.items))) (record {
    few_nodes = few_nodes m (declared_nodes rule.items) (statements rule.items) part few;
    few_edges =
        let made = fewer_made (is_edge_of part) (edge_of m (declared_nodes rule.items) part) (statements rule.items) (λ k s edge at e.
        ap (is_edge_of part) (edge_made m (declared_nodes rule.items) part s edge e).is ∙ itself part) in
        let most = (few_in (declared_nodes rule.items) (statements rule.items) part few).edges in
        omega (arith, made, most);
    few_parallel = All-filter_map (λ (edge : PatternEdge). parallel_to edge (filter_map (edge_of m (declared_nodes rule.items) part) (statements rule.items)) ≤ 3) (edge_of m (declared_nodes rule.items) part) (statements rule.items) (λ k s edge at e.
        let x = edge_known k s edge at e in
        let alike : has_few_alike (statements rule.items) (Edge part x.made.mark x.made.source x.made.target x.made.reference) ≡ true =
        sym (ap (has_few_alike (statements rule.items)) x.made.is) ∙ list_all-at (has_few_alike (statements rule.items)) (statements rule.items) k s (is_few m rule clean).alike at in
        let most = leb-true (length (filter (is_alike part x.made.source x.made.target x.made.reference) (statements rule.items))) 3 alike in
        let no_more = fewer_pass (is_alike part x.made.source x.made.target x.made.reference) (λ (other : PatternEdge). eqb other.source edge.source && eqb other.reference edge.reference && eqb other.target edge.target) (edge_of m (declared_nodes rule.items) part) (statements rule.items)
        (λ l t other at_t made same. edges_alike s t edge other x (edge_known l t other at_t made) same) in
        omega (arith, most, no_more));
  })

-- ---- expressions

flat : (m : Metamodel) (rule : WrittenRule) (part : BlockId) → AreFlat (wheres_in (statements_in m rule) part) (sets_in m (declared_nodes rule.items) (statements_in m rule) part)
flat m rule part = (
  All-made (λ (e : Expr). nesting e ≤ 32) (where_in part) (checked_in m rule) (statements rule.items) (λ k s e at made.
      let is = where_made m (data_params rule.params) (declared_nodes rule.items) part s e made in
      expr_flat (names_in m rule part) is.test e is.expr),
  All-made (λ (item : SetItem). nesting item.value ≤ 32) (set_in m (declared_nodes rule.items) part) (checked_in m rule) (statements rule.items) (λ k s item at made.
      let is = set_made m (data_params rule.params) (declared_nodes rule.items) part s item made in
      subst (λ (item : SetItem). nesting item.value ≤ 32) is.whole (expr_flat (names_in m rule part) is.value is.e is.expr)),
)

-- ---- the rule

pub small : (m : Metamodel) (rule : WrittenRule) → Clean m rule → All (IsFewPart rule) (each forbid_at rule.items) → All (IsFewPart rule) (each require_at rule.items) → All (IsFewPart rule) (each multi_at rule.items) → IsSmallRule (rule_meant m rule)
small m rule clean forbids requires multis =
    let few = is_few m rule clean in
    let kernel = kernel_of m rule in
    let params_made = length-map rule.params (param_meant m) in
    let forbids_made = length-map (each forbid_at rule.items) (part_meant m (rule_contents m rule)) in
    let requires_made = length-map (each require_at rule.items) (part_meant m (rule_contents m rule)) in
    let multis_made = length-map (each multi_at rule.items) (multi_meant m (rule_contents m rule) kernel) in
    let patterns = patterns_counted 0 rule.items in
    let counted = multis_counted 0 rule.items in
    let few_params = few.params in
    let few_patterns = few.patterns in
    let few_multis = few.multis in
    record {
      params = omega (arith, params_made, few_params);
      parts = omega (arith, forbids_made, requires_made, patterns, few_patterns);
      multis = omega (arith, multis_made, counted, few_multis);
      kernel = small_shape m rule clean home.Kernel [] (kernel_opens m rule clean) few.kernel;
      each_forbid = All-map (λ (part : Part). IsSmallShape part.nodes part.edges) (part_meant m (rule_contents m rule)) (each forbid_at rule.items)
          (All-from (λ (h : BlockId). IsSmallShape (nodes_in m (declared_nodes rule.items) h) (edges_of_part m (declared_nodes rule.items) (statements_in m rule) h)) (each forbid_at rule.items) (λ k h at.
          let few_here = All-at (IsFewPart rule) (each forbid_at rule.items) k h forbids at in
          small_shape m rule clean h kernel (block_opens m rule clean h (pattern_block h (All-at (λ (h : BlockId). is_pattern h ≡ true) (each forbid_at rule.items) k h (are_patterns_forbid rule.items) at)) few_here) few_here));
      each_need = All-map (λ (part : Part). IsSmallShape part.nodes part.edges) (part_meant m (rule_contents m rule)) (each require_at rule.items)
          (All-from (λ (h : BlockId). IsSmallShape (nodes_in m (declared_nodes rule.items) h) (edges_of_part m (declared_nodes rule.items) (statements_in m rule) h)) (each require_at rule.items) (λ k h at.
          let few_here = All-at (IsFewPart rule) (each require_at rule.items) k h requires at in
          small_shape m rule clean h kernel (block_opens m rule clean h (pattern_block h (All-at (λ (h : BlockId). is_pattern h ≡ true) (each require_at rule.items) k h (are_patterns_require rule.items) at)) few_here) few_here));
      each_multi = All-map (λ (multi : Multi). IsSmallShape multi.shape.nodes multi.shape.edges × AreFlat multi.wheres multi.sets) (multi_meant m (rule_contents m rule) kernel) (each multi_at rule.items)
          (All-from (λ (h : BlockId). IsSmallShape (nodes_in m (declared_nodes rule.items) h) (edges_of_part m (declared_nodes rule.items) (statements_in m rule) h) × AreFlat (wheres_in (statements_in m rule) h) (sets_in m (declared_nodes rule.items) (statements_in m rule) h)) (each multi_at rule.items) (λ k h at.
          let few_here = All-at (IsFewPart rule) (each multi_at rule.items) k h multis at in
          (small_shape m rule clean h kernel (block_opens m rule clean h (multi_block h (All-at (λ (h : BlockId). is_multi h ≡ true) (each multi_at rule.items) k h (are_multis rule.items) at)).0 few_here) few_here, flat m rule h)));
      flat = flat m rule home.Kernel;
    }
