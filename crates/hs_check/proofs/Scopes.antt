-- What names denote in the expressions of a part of a rule has there the kind that it is said to have.
use Rattle.std.proofs.Common.{ℕ, ◌+◌, ◌≡◌, ◌&&◌, ◌++◌, List, [], ◌∷◌, Bool, true, false, slice_get, is_some, Option, Some, None, if◌then◌else◌, refl, ap, ap₂, sym, ◌∙◌, subst, arith}
use Rattle.std.proofs.lemmas.Bool.{and_from, false≢true}
use Rattle.std.proofs.lemmas.List.Elements.{All-cons, All-nil}
use Rattle.std.proofs.lemmas.Option.{same_Some, slice_get-map, slice_get_within}
use Rattle.std.specs.List.{All}
use Rattle.std.specs.Option.{option_and_then, option_map, option_map_or}
use Rattle.hs_eval.specs.Naming.{Agrees}
use Rattle.hs_expr.specs.declared.Kind.{Kind}
use Rattle.hs_expr.specs.Evaluation.{Scope}
use Rattle.hs_expr.specs.Lists.{has, same_text}
use Rattle.hs_text.specs.declared.syntax.Direction.{Direction as WrittenDirection}
use Rattle.hs_text.specs.declared.syntax.Direction.TheVariants as direction
use Rattle.hs_text.specs.declared.syntax.Param.{Param as WrittenParam}
use Rattle.hs_text.specs.declared.syntax.Rule.{Rule}
use Rattle.hs_types.specs.declared.meta.Metamodel.{Metamodel}
use Rattle.hs_types.specs.declared.rule.Direction.TheVariants.{In}
use Rattle.hs_types.specs.declared.rule.Param.{Param}
use Rattle.hs_types.specs.declared.rule.ParamKind.TheVariants.{Data, Object}
use Rattle.hs_types.specs.declared.rule.PatternNode.{PatternNode}
use Rattle.hs_types.specs.Metamodel.{attributes_of, kind_of_type, type_of}
use Rattle.hs_types.specs.Pattern.{is_left}
use Rattle.hs_types.specs.RuleForm.{data_kind, slot_kind}
use Rattle.hs_faults.specs.declared.data_parameters.DataParam.{DataParam}
use Rattle.hs_faults.specs.declared.nodes.BlockId.{BlockId}
use Rattle.hs_faults.specs.declared.nodes.BlockId.TheVariants as home
use Rattle.hs_faults.specs.declared.nodes.DeclaredNode.{DeclaredNode}
use Rattle.hs_faults.specs.Marks.{mark_meant}
use Rattle.hs_faults.specs.Named.{first_named}
use Rattle.hs_faults.specs.Names.{as_attribute, class_attribute, data_named, feature_named, node_named}
use Rattle.hs_faults.specs.Nodes.{declared_nodes}
use Rattle.hs_faults.specs.Numbers.{data_param, data_params, number_at}
use Rattle.hs_faults.specs.ParamNodes.{data_faults, is_out, object_faults}
use Rattle.hs_faults.specs.StatementFaults.{attribute_of, can_read, hidden_read, is_visible, node_read, rule_scope, visible_node}
use Rattle.hs_check.specs.Elements.{nodes_in}
use Rattle.hs_check.specs.Parameters.{class_meant, direction_meant, param_meant, params_meant}
use Rattle.hs_check.proofs.Bounds.{is_few}
use Rattle.hs_check.proofs.Edges.{by_class}
use Rattle.hs_check.proofs.Filters.{find_here}
use Rattle.hs_check.proofs.Lookups.{came}
use Rattle.hs_check.proofs.NoFaults.{Clean}
use Rattle.hs_check.proofs.StatementForms.{attribute_is, has_attribute}
use Rattle.hs_check.proofs.Visibility.{Opens}
use Rattle.hs_expr.proofs.Clean.{no_test}
use Rattle.hs_expr.proofs.Items.{All-at, All-each_from, option_map-some}

-- The kinds of what may be read, where these are the nodes and the parameters.
abbrev pub scope_with : Metamodel → List Param → List PatternNode → Scope
scope_with m params nodes = record { slot = slot_kind m nodes; param = λ n. option_and_then (λ param. data_kind param.direction param.kind) (slice_get params n) }

-- ---- parameters

-- The parameter that one for data is.
record IsGiven (params : List WrittenParam) (d : DataParam) : Type 0 where
  place : ℕ
  param : WrittenParam
  at : slice_get params place ≡ Some param
  number : d.number ≡ number_at place
  kind : data_named param.kind.text ≡ Some d.kind

all_given : (params : List WrittenParam) → All (IsGiven params) (data_params params)
all_given params = All-each_from (IsGiven params) data_param 0 params (λ i param at. go i param at (data_named param.kind.text) refl)
  where
    go : (i : ℕ) (param : WrittenParam) → slice_get params i ≡ Some param → (o : Option Kind) → data_named param.kind.text ≡ o →
        All (IsGiven params) (option_map_or (λ k. record { name = param.name; number = number_at (0 + i); kind = k } ∷ []) o [])
    go i param at None is = All-nil (IsGiven params)
    go i param at (Some k) is = All-cons (IsGiven params) (record { name = param.name; number = number_at (0 + i); kind = k }) []
        (record { place = i; param = param; at = at; number = ap number_at (let e : 0 + i ≡ i = omega arith in e); kind = is }) (All-nil (IsGiven params))

pub in_is : (d : WrittenDirection) → is_out d ≡ false → direction_meant d ≡ In
in_is direction.In e = refl
in_is direction.Out e = absurd (false≢true (sym e))

-- Data is given.
data_in : (m : Metamodel) (rule : Rule) → Clean m rule → (i : ℕ) (p : WrittenParam) (k : Kind) → slice_get rule.params i ≡ Some p → data_named p.kind.text ≡ Some k → direction_meant p.direction ≡ In
data_in m rule clean i p k at is_data = in_is p.direction (no_test (is_out p.direction) _ (sym (ap (λ (o : Option Kind). if is_some o then data_faults p else object_faults (declared_nodes rule.items) p) is_data) ∙ clean.params_fit i p at))

meant_at : (m : Metamodel) (params : List WrittenParam) (i : ℕ) (p : WrittenParam) → slice_get params i ≡ Some p → slice_get (params_meant m params) i ≡ Some (param_meant m p)
meant_at m params i p at = slice_get-map (param_meant m) params i ∙ ap (option_map (param_meant m)) at

params_agree : (m : Metamodel) (rule : Rule) → Clean m rule → (nodes : List PatternNode) (name : List ℕ) (d : DataParam) → first_named (λ (param : DataParam). param.name) (data_params rule.params) name ≡ Some d →
    (scope_with m (params_meant m rule.params) nodes).param d.number ≡ Some d.kind
params_agree m rule clean nodes name d found =
    let here = find_here (λ (param : DataParam). same_text name param.name.text) (data_params rule.params) d found in
    let is = All-at (IsGiven rule.params) (data_params rule.params) here.0 d (all_given rule.params) here.1 in
    let small = (is_few m rule clean).params in
    let low = slice_get_within rule.params is.place is.param is.at in
    let number = is.number in
    let same : d.number ≡ is.place = omega arith in
    ap (option_and_then (λ (param : Param). data_kind param.direction param.kind)) (ap (slice_get (params_meant m rule.params)) same ∙ meant_at m rule.params is.place is.param is.at)
    ∙ ap₂ data_kind (data_in m rule clean is.place is.param d.kind is.at is.kind) (ap (λ (o : Option Kind). option_map_or Data o (Object (class_meant m is.param.kind.text))) is.kind)

-- ---- slots

-- The node that is read is open, and on the left side.
record IsRead (part : BlockId) (d : DeclaredNode) (n : ℕ) : Type 0 where
  number : d.number ≡ n
  visible : is_visible part d ≡ true
  left : is_left (mark_meant d.mark) ≡ true

is_read : (part : BlockId) (d : DeclaredNode) (n : ℕ) → node_read part d ≡ Some (n, true) → IsRead part d n
is_read part d n e =
    let l = option_map-some (λ (l : Bool). (d.number, l)) (can_read part d) (n, true) e in
    let may = go (is_visible part d) (l.1 ∙ ap (λ (r : ℕ × Bool). Some r.1) l.2) in
    record { number = ap (λ (r : ℕ × Bool). r.0) l.2; visible = may.0; left = may.1 }
  where
    shut : (h : BlockId) → hidden_read h ≡ Some true → ⊥
    shut home.Kernel e = cc
    shut (home.Pattern i) e = cc
    shut (home.Multi i) e = cc

    go : (b : Bool) → (if b then Some (is_left (mark_meant d.mark)) else hidden_read d.block) ≡ Some true → (b ≡ true) × (is_left (mark_meant d.mark) ≡ true)
    go true e = (refl, same_Some (is_left (mark_meant d.mark)) true e)
    go false e = absurd (shut d.block e)

slots_agree : (m : Metamodel) (ds : List DeclaredNode) (part : BlockId) (before : List PatternNode) → Opens m ds part before → (owner name : List ℕ) (d : DeclaredNode) (n : ℕ) (a : ℕ × Kind) →
    node_named ds owner ≡ Some d → IsRead part d n → attribute_of m d name ≡ Some a → slot_kind m (before ++ nodes_in m ds part) n a.0 ≡ Some a.1
slots_agree m ds part before opens owner name d n a named is of_node =
    let seen : visible_node ds part owner ≡ Some d = ap (option_and_then (λ (node : DeclaredNode). if is_visible part node then Some node else None)) named ∙ ap (λ (b : Bool). if b then Some d else None) is.visible in
    let class : ℕ = class_meant m d.class.text in
    let spot = opens.found owner d seen in
    let f = came (feature_named m class name) (as_attribute m) a (by_class m d (λ c. class_attribute m c name) class a spot.class of_node) in
    let type = attribute_is m f.0 a f.2 in
    let there : has (attributes_of m class) a.0 ≡ true = has_attribute m class name a (f.1 ∙ ap (λ (i : ℕ). Some i) type.0) type.1 in
    ap (option_and_then (λ (node : PatternNode). if is_left node.mark && has (attributes_of m node.class) a.0 then option_map kind_of_type (type_of m a.0) else None)) (ap (slice_get (before ++ nodes_in m ds part)) (sym is.number) ∙ spot.at)
    ∙ ap (λ (b : Bool). if b then option_map kind_of_type (type_of m a.0) else None) (and_from (is_left (mark_meant d.mark)) (has (attributes_of m class) a.0) is.left there) ∙ type.1

-- What the names of a part denote has its kind among the nodes that the part may name.
pub agree : (m : Metamodel) (rule : Rule) → Clean m rule → (part : BlockId) (before : List PatternNode) → Opens m (declared_nodes rule.items) part before →
    Agrees (rule_scope m (data_params rule.params) (declared_nodes rule.items) part) (scope_with m (params_meant m rule.params) (before ++ nodes_in m (declared_nodes rule.items) part))
agree m rule clean part before opens = record {
  params = λ name n k found.
      let d = option_map-some (λ (param : DataParam). (param.number, param.kind)) (first_named (λ (param : DataParam). param.name) (data_params rule.params) name) (n, k) found in
      let kind = params_agree m rule clean (before ++ nodes_in m (declared_nodes rule.items) part) name d.0 d.1 in
      subst (λ (r : ℕ × Kind). (scope_with m (params_meant m rule.params) (before ++ nodes_in m (declared_nodes rule.items) part)).param r.0 ≡ Some r.1) d.2 kind;
  slots = λ owner name n a k node attribute.
      let d = came (node_named (declared_nodes rule.items) owner) (node_read part) (n, true) node in
      let of_node : attribute_of m d.0 name ≡ Some (a, k) = sym (ap (option_and_then (λ (x : DeclaredNode). attribute_of m x name)) d.1) ∙ attribute in
      slots_agree m (declared_nodes rule.items) part before opens owner name d.0 n (a, k) d.1 (is_read part d.0 n d.2) of_node;
}
