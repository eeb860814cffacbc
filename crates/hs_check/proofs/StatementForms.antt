-- Statements that mean something in a part of a rule, and what is found through their names.
use Rattle.std.proofs.Common.{refl, is_some, ℕ, ◌≤◌, ◌≡◌, List, true, false, slice_get, Option, Some, None, Ok, Err, nat_le, ap, sym, ◌∙◌, subst}
use Rattle.std.proofs.lemmas.Bool.{leb-true}
use Rattle.std.proofs.lemmas.Option.{none-some, same_Some}
use Rattle.std.specs.List.{All}
use Rattle.std.specs.Option.{option_map, option_map_or}
use Rattle.hs_eval.specs.Checking.{Names, Outcome, check_tree}
use Rattle.hs_eval.specs.Naming.{Agrees}
use Rattle.hs_eval.specs.Results.{checked_of, ok_map}
use Rattle.hs_expr.specs.Steps.{fault_as}
use Rattle.hs_expr.specs.declared.Expr.{Expr}
use Rattle.hs_expr.specs.declared.Kind.{Kind}
use Rattle.hs_expr.specs.declared.Name.{Name}
use Rattle.hs_expr.specs.declared.NameExpr.{NameExpr}
use Rattle.hs_expr.specs.declared.Span.{Span}
use Rattle.hs_expr.specs.Evaluation.{Scope, kind_in, nesting, reads_of}
use Rattle.hs_text.specs.declared.syntax.Mark.{Mark as WrittenMark}
use Rattle.hs_expr.specs.NameExprs.{expr_tree}
use Rattle.hs_types.specs.declared.meta.DataType.{DataType}
use Rattle.hs_types.specs.declared.meta.Feature.{Feature}
use Rattle.hs_types.specs.declared.meta.Metamodel.{Metamodel}
use Rattle.hs_types.specs.declared.rule.PatternEdge.{PatternEdge}
use Rattle.hs_types.specs.declared.rule.PatternNode.{PatternNode}
use Rattle.hs_types.specs.declared.rule.SetItem.{SetItem}
use Rattle.hs_expr.specs.Lists.{has, same_text}
use Rattle.hs_types.specs.Metamodel.{attributes_of, feature_at, features_of, kind_of_type, type_of}
use Rattle.hs_faults.specs.declared.nodes.DeclaredNode.{DeclaredNode}
use Rattle.hs_faults.specs.declared.nodes.BlockId.{BlockId}
use Rattle.hs_faults.specs.Names.{as_attribute, class_attribute, feature_named, is_named}
use Rattle.hs_faults.specs.Statements.{Statement, Edge, Set, Where}
use Rattle.hs_faults.specs.StatementFaults.{attribute_of, expr_checked, rule_fault, rule_scope, same_block}
use Rattle.hs_faults.specs.declared.data_parameters.DataParam.{DataParam}
use Rattle.hs_faults.specs.Marks.{mark_meant}
use Rattle.hs_check.specs.Elements.{edge_meant, edge_of, feature_number, node_meant, node_number}
use Rattle.hs_faults.specs.Contents.{expr_found, statement_expr}
use Rattle.hs_check.specs.Expressions.{set_meant, set_of, where_of}
use Rattle.hs_check.specs.Parameters.{class_meant}
use Rattle.hs_check.proofs.Lookups.{came, tested}
use Rattle.hs_check.proofs.ExprKinds.{IsKnown, fits, inside}
use Rattle.hs_check.proofs.Edges.{by_class, feature_at_spot, number_at_spot}
use Rattle.hs_check.proofs.Visibility.{Spot, homes_same, spot_called}
use Rattle.hs_check.proofs.Filters.{find_here}
use Rattle.hs_check.proofs.NoFaults.{IsOfKind}
use Rattle.hs_expr.proofs.Items.{found-has, has-kept, option_map-some, text_same}

-- ---- expressions

-- What is found is what was checked, and nests few.
record Found (c : Outcome) (e : Expr) : Type 0 where
  kind : Kind
  is : c ≡ Ok (e, kind)
  flat : nesting e ≤ 32

found : (c : Outcome) (e : Expr) → expr_found (fault_as rule_fault (ok_map checked_of c)) ≡ Some e → Found c e
found (Err fault) e is = absurd (none-some e is)
found (Ok x) e is =
    let kept_here = tested (nat_le (nesting x.0) 32) (Some x.0) e is in
    let same = same_Some x.0 e kept_here.1 in
    record { kind = x.1; is = ap (λ (a : Expr). Ok (a, x.1)) same; flat = subst (λ (a : Expr). nesting a ≤ 32) same (leb-true (nesting x.0) 32 kept_here.0) }

pub expr_flat : (names : Names) (value : NameExpr) (e : Expr) → expr_found (expr_checked names value) ≡ Some e → nesting e ≤ 32
expr_flat names value e made = (found (check_tree names (expr_tree value)) e made).flat

-- An expression by numbers has the kind that was checked, and reads what the scope knows.
pub expr_fits : (names : Names) (scope : Scope) → Agrees names scope → (value : NameExpr) (k : Kind) (e : Expr) → IsOfKind names value k → expr_found (expr_checked names value) ≡ Some e → (kind_in scope e ≡ Some k) × All (IsKnown scope) (reads_of e)
expr_fits names scope agrees value k e of_kind made =
    let here = found (check_tree names (expr_tree value)) e made in
    let same = inside (e, here.kind) (of_kind.0, k) (sym here.is ∙ of_kind.1) in
    let fit = fits names scope agrees (expr_tree value) (e, here.kind) here.is in
    (fit.inside ∙ ap (λ (r : Expr × Kind). Some r.1) same, fit.known)

-- ---- statements

pub record EdgeMade (m : Metamodel) (ds : List DeclaredNode) (part : BlockId) (s : Statement) (edge : PatternEdge) : Type 0 where
  pub mark : WrittenMark
  pub source : Name
  pub target : Name
  pub reference : Name
  pub is : s ≡ Edge part mark source target reference
  pub whole : edge_meant m ds (mark_meant mark) source.text target.text reference.text ≡ edge

pub edge_made : (m : Metamodel) (ds : List DeclaredNode) (part : BlockId) (s : Statement) (edge : PatternEdge) → edge_of m ds part s ≡ Some edge → EdgeMade m ds part s edge
edge_made m ds part (Edge home mark source target reference) edge e =
    let here = tested (same_block part home) (Some (edge_meant m ds (mark_meant mark) source.text target.text reference.text)) edge e in
    record { mark = mark; source = source; target = target; reference = reference; is = ap (λ h. Edge h mark source target reference) (sym (homes_same part home here.0)); whole = same_Some _ edge here.1 }
edge_made m ds part (Set home node attribute value) edge e = absurd (none-some edge e)
edge_made m ds part (Where home word test) edge e = absurd (none-some edge e)

pub record WhereMade (names : Names) (part : BlockId) (s : Statement) (e : Expr) : Type 0 where
  pub word : Span
  pub test : NameExpr
  pub is : s ≡ Where part word test
  pub expr : expr_found (expr_checked names test) ≡ Some e

pub where_made : (m : Metamodel) (params : List DataParam) (ds : List DeclaredNode) (part : BlockId) (s : Statement) (e : Expr) → where_of part (statement_expr m params ds s) s ≡ Some e → WhereMade (rule_scope m params ds part) part s e
where_made m params ds part (Edge home mark source target reference) e h = absurd (none-some e h)
where_made m params ds part (Set home node attribute value) e h = absurd (none-some e h)
where_made m params ds part (Where home word test) e h =
    let here = tested (same_block part home) (expr_found (expr_checked (rule_scope m params ds home) test)) e h in
    let same = homes_same part home here.0 in
    record { word = word; test = test; is = ap (λ p. Where p word test) (sym same); expr = ap (λ p. expr_found (expr_checked (rule_scope m params ds p) test)) same ∙ here.1 }

pub record SetMade (m : Metamodel) (names : Names) (ds : List DeclaredNode) (part : BlockId) (s : Statement) (item : SetItem) : Type 0 where
  pub node : Name
  pub attribute : Name
  pub value : NameExpr
  pub e : Expr
  pub is : s ≡ Set part node attribute value
  pub expr : expr_found (expr_checked names value) ≡ Some e
  pub whole : set_meant m ds node.text attribute.text e ≡ item

pub set_made : (m : Metamodel) (params : List DataParam) (ds : List DeclaredNode) (part : BlockId) (s : Statement) (item : SetItem) → set_of m ds part (statement_expr m params ds s) s ≡ Some item → SetMade m (rule_scope m params ds part) ds part s item
set_made m params ds part (Edge home mark source target reference) item h = absurd (none-some item h)
set_made m params ds part (Set home node attribute value) item h =
    let here = tested (same_block part home) (option_map (set_meant m ds node.text attribute.text) (expr_found (expr_checked (rule_scope m params ds home) value))) item h in
    let same = homes_same part home here.0 in
    let e = option_map-some (set_meant m ds node.text attribute.text) (expr_found (expr_checked (rule_scope m params ds home) value)) item here.1 in
    record { node = node; attribute = attribute; value = value; e = e.0; is = ap (λ p. Set p node attribute value) (sym same); expr = ap (λ p. expr_found (expr_checked (rule_scope m params ds p) value)) same ∙ e.1; whole = e.2 }
set_made m params ds part (Where home word test) item h = absurd (none-some item h)

-- ---- names

-- The attribute that a name means at a node.
pub record AttributeSpot (m : Metamodel) (ds : List DeclaredNode) (name attribute : List ℕ) (d : DeclaredNode) (a : ℕ × Kind) : Type 0 where
  pub named : feature_named m (class_meant m d.class.text) attribute ≡ Some a.0
  pub kind_is : option_map kind_of_type (type_of m a.0) ≡ Some a.1
  pub number_is : feature_number m ds name attribute ≡ a.0

-- A feature that is an attribute, by its number and its kind.
pub attribute_is : (m : Metamodel) (f : ℕ) (a : ℕ × Kind) → as_attribute m f ≡ Some a → (f ≡ a.0) × (option_map kind_of_type (type_of m a.0) ≡ Some a.1)
attribute_is m f a e = go (type_of m f) refl e
  where
    go : (o : Option DataType) → type_of m f ≡ o → option_map (λ type. (f, kind_of_type type)) o ≡ Some a → (f ≡ a.0) × (option_map kind_of_type (type_of m a.0) ≡ Some a.1)
    go None at e = absurd (none-some a e)
    go (Some type) at e =
        let same = same_Some (f, kind_of_type type) a e in
        let number : f ≡ a.0 = ap (λ (r : ℕ × Kind). r.0) same in
        (number, ap (λ n. option_map kind_of_type (type_of m n)) (sym number) ∙ ap (option_map kind_of_type) at ∙ ap (λ (r : ℕ × Kind). Some r.1) same)

-- A class has an attribute that a name finds there.
pub has_attribute : (m : Metamodel) (class : ℕ) (name : List ℕ) (a : ℕ × Kind) → feature_named m class name ≡ Some a.0 → option_map kind_of_type (type_of m a.0) ≡ Some a.1 → has (attributes_of m class) a.0 ≡ true
has_attribute m class name a named kind = has-kept (λ f. is_some (type_of m f)) (features_of m class) a.0 (found-has (is_named m name) (features_of m class) a.0 named) (go (type_of m a.0) kind)
  where
    go : (o : Option DataType) → option_map kind_of_type o ≡ Some a.1 → is_some o ≡ true
    go None e = absurd (none-some a.1 e)
    go (Some type) e = refl

pub attribute_spot : (m : Metamodel) (ds : List DeclaredNode) (nodes : List PatternNode) (name attribute : List ℕ) (d : DeclaredNode) (a : ℕ × Kind) → Spot m ds nodes name d → attribute_of m d attribute ≡ Some a → AttributeSpot m ds name attribute d a
attribute_spot m ds nodes name attribute d a s e =
    let class : ℕ = class_meant m d.class.text in
    let f = came (feature_named m class attribute) (as_attribute m) a (by_class m d (λ c. class_attribute m c attribute) class a s.class e) in
    let is = attribute_is m f.0 a f.2 in
    record { named = f.1 ∙ ap (λ (n : ℕ). Some n) is.0; kind_is = is.1; number_is = feature_at_spot m ds nodes name attribute d f.0 s f.1 ∙ is.0 }

-- Names of one number are the same.
pub nodes_same : (m : Metamodel) (ds : List DeclaredNode) (nodes : List PatternNode) (a b : List ℕ) (d e : DeclaredNode) → Spot m ds nodes a d → Spot m ds nodes b e → node_number ds a ≡ node_number ds b → a ≡ b
nodes_same m ds nodes a b d e s t same =
    let number : d.number ≡ e.number = sym (number_at_spot m ds nodes a d s) ∙ same ∙ number_at_spot m ds nodes b e t in
    let meant : node_meant m d ≡ node_meant m e = same_Some (node_meant m d) (node_meant m e) (sym s.at ∙ ap (slice_get nodes) number ∙ t.at) in
    text_same a d.name.text (spot_called m ds nodes a d s) ∙ ap (λ (node : PatternNode). node.name) meant ∙ sym (text_same b e.name.text (spot_called m ds nodes b e t))

pub features_same : (m : Metamodel) (c c' f : ℕ) (a b : List ℕ) → feature_named m c a ≡ Some f → feature_named m c' b ≡ Some f → a ≡ b
features_same m c c' f a b e h = go (feature_at m f) (find_here (is_named m a) (features_of m c) f e).2 (find_here (is_named m b) (features_of m c') f h).2
  where
    go : (o : Option Feature) → option_map_or (λ feature. same_text feature.name a) o false ≡ true → option_map_or (λ feature. same_text feature.name b) o false ≡ true → a ≡ b
    go None e h = cc
    go (Some feature) e h = sym (text_same feature.name a e) ∙ text_same feature.name b h
