-- What statements, declarations and calls of a text without faults name is found.
use Rattle.std.proofs.Common.{ℕ, ◌≡◌, ◌&&◌, ◌||◌, suc, List, [], ◌∷◌, Bool, true, false, take, slice_get, is_some, Option, Some, None, Ok, if◌then◌else◌, refl, ap, ◌∙◌, ◌+◌, sym}
use Rattle.std.proofs.lemmas.Bool.{and_from, false≢true, or_left, or_right, and_parts}
use Rattle.std.specs.List.{flat_map, list_all, All}
use Rattle.std.specs.Option.{option_and_then, option_map, option_or, option_map_or}
use Rattle.hs_expr.specs.declared.Kind.{Kind}
use Rattle.hs_expr.specs.declared.Name.{Name}
use Rattle.hs_expr.specs.Verdict.{verdict, each_from}
use Rattle.hs_text.specs.declared.syntax.Call.{Call}
use Rattle.hs_text.specs.declared.syntax.Definition.{Definition}
use Rattle.hs_text.specs.declared.syntax.Param.{Param}
use Rattle.hs_text.specs.declared.syntax.Rule.{Rule}
use Rattle.hs_text.specs.declared.syntax.Unit.{Unit as WrittenUnit}
use Rattle.hs_types.specs.declared.meta.Metamodel.{Metamodel}
use Rattle.hs_faults.specs.declared.nodes.BlockId.{BlockId}
use Rattle.hs_faults.specs.declared.nodes.DeclaredNode.{DeclaredNode}
use Rattle.hs_faults.specs.Declarations.{class_name_faults, param_kind_faults}
use Rattle.hs_faults.specs.Names.{as_attribute, class_number, data_named, feature_named}
use Rattle.hs_faults.specs.Nodes.{declared_nodes}
use Rattle.hs_faults.specs.Numbers.{data_params}
use Rattle.hs_faults.specs.StatementFaults.{node_class, slot_set_by, visible_node}
use Rattle.hs_types.specs.Metamodel.{target_of}
use Rattle.hs_faults.specs.Statements.{Statement, Edge, Set, Where, statements, statement_of_element, statement_of_simple, statements_of_item}
use Rattle.hs_faults.specs.UnitFaults.{argument_faults, call_faults, callee_params, faults_of, first_rule, first_unit, is_known_kind, rules_of, units_of, written_calls}
use Rattle.hs_check.specs.Elements.{node_feature}
use Rattle.hs_check.proofs.Lookups.{came}
use Rattle.hs_check.specs.Resolution.{Resolve, call_resolves, finds_feature, is_placed, node_resolves, nodes_before, nodes_seen, param_resolves, rule_resolves, statement_resolves, unit_resolves}
use Rattle.hs_check.specs.Units.{callees, place_among}
use Rattle.hs_check.proofs.Callees.{at_number}
use Rattle.hs_check.proofs.NoFaults.{Clean, known_class, sound_edge, sound_set}
use Rattle.hs_check.proofs.NoUnitFaults.{CleanText, CleanUnit, clean_text}
use Rattle.hs_expr.proofs.Faults.{none-from_verdict}
use Rattle.hs_check.proofs.UnitForms.{some_callee}
use Rattle.hs_expr.proofs.Items.{All-at}
use Rattle.std.proofs.lemmas.List.Elements.{All-append, All-cons, All-nil}
use Rattle.hs_text.specs.declared.syntax.Element.{Element}
use Rattle.hs_text.specs.declared.syntax.Element.TheVariants as element
use Rattle.hs_text.specs.declared.syntax.Item.{Item}
use Rattle.hs_text.specs.declared.syntax.Item.TheVariants as item
use Rattle.hs_text.specs.declared.syntax.Mark.{Mark}
use Rattle.hs_text.specs.declared.syntax.Mark.TheVariants.{Preserve}
use Rattle.hs_text.specs.declared.syntax.Simple.{Simple}
use Rattle.hs_text.specs.declared.syntax.Simple.TheVariants as simple
use Rattle.hs_types.specs.declared.rule.PatternNode.{PatternNode}
use Rattle.hs_faults.specs.declared.nodes.BlockId.TheVariants.{Kernel, Pattern, Multi}
use Rattle.hs_faults.specs.Sizes.{block_of, has_few}
use Rattle.hs_check.proofs.BlockIds.{list_all-both}
use Rattle.hs_check.proofs.Bounds.{block_opens, is_few, kernel_opens}
use Rattle.hs_check.proofs.Edges.{node_at_spot}
use Rattle.hs_check.proofs.Filters.{All-flat_map}
use Rattle.hs_check.proofs.Visibility.{Opens, spot_called}
use Rattle.hs_expr.specs.Lists.{same_text}

list_all-from : {A : Type 0} (p : A → Bool) (xs : List A) → ((k : ℕ) (x : A) → slice_get xs k ≡ Some x → p x ≡ true) → list_all p xs ≡ true
list_all-from p [] h = refl
list_all-from p (x ∷ xs) h = and_from (p x) (list_all p xs) (h 0 x refl) (list_all-from p xs (λ k y at. h (suc k) y at))

-- ---- the blocks of statements

abbrev block_at : Statement → BlockId
block_at (Edge block mark source target reference) = block
block_at (Set block node attribute value) = block
block_at (Where block word test) = block

abbrev PassesIn : (BlockId → Bool) → Statement → Type 0
PassesIn q s = q (block_at s) ≡ true

of_element : (q : BlockId → Bool) (b : BlockId) → q b ≡ true → (mark : Mark) (e : Element) → All (PassesIn q) (statement_of_element b mark e)
of_element q b h mark (element.Node name class) = All-nil (PassesIn q)
of_element q b h mark (element.Edge source target reference) = All-cons (PassesIn q) (Edge b mark source target reference) [] h (All-nil (PassesIn q))

of_simple : (q : BlockId → Bool) (b : BlockId) → q b ≡ true → (s : Simple) → All (PassesIn q) (statement_of_simple b s)
of_simple q b h (simple.Marked mark element) = of_element q b h mark element
of_simple q b h (simple.Set node attribute value) = All-cons (PassesIn q) (Set b node attribute value) [] h (All-nil (PassesIn q))
of_simple q b h (simple.Where word test) = All-cons (PassesIn q) (Where b word test) [] h (All-nil (PassesIn q))

of_item : (q : BlockId → Bool) → q Kernel ≡ true → (i : ℕ) (x : Item) → list_all q (block_of i x) ≡ true → All (PassesIn q) (statements_of_item i x)
of_item q kernel i (item.Simple s) e = of_simple q Kernel kernel s
of_item q kernel i (item.Forbid es) e = All-flat_map (PassesIn q) (statement_of_element (Pattern i) Preserve) es (of_element q (Pattern i) (and_parts (q (Pattern i)) true e).0 Preserve)
of_item q kernel i (item.Require es) e = All-flat_map (PassesIn q) (statement_of_element (Pattern i) Preserve) es (of_element q (Pattern i) (and_parts (q (Pattern i)) true e).0 Preserve)
of_item q kernel i (item.Multi ss) e = All-flat_map (PassesIn q) (statement_of_simple (Multi i)) ss (of_simple q (Multi i) (and_parts (q (Multi i)) true e).0)

-- What holds of the kernel and of all blocks holds of each statement's.
of_items : (q : BlockId → Bool) → q Kernel ≡ true → (n : ℕ) (items : List Item) → list_all q (each_from block_of n items) ≡ true → All (PassesIn q) (each_from statements_of_item n items)
of_items q kernel n [] e = All-nil (PassesIn q)
of_items q kernel n (x ∷ items) e =
    let parts = and_parts (list_all q (block_of n x)) (list_all q (each_from block_of (n + 1) items)) (sym (list_all-both q (block_of n x) (each_from block_of (n + 1) items)) ∙ e) in
    All-append (PassesIn q) (statements_of_item n x) (each_from statements_of_item (n + 1) items) (of_item q kernel n x parts.0) (of_items q kernel (n + 1) items parts.1)

-- ---- rules

abbrev few_at : Rule → BlockId → Bool
few_at rule = has_few (declared_nodes rule.items) (statements rule.items)

opens_at : (m : Metamodel) (rule : Rule) → Clean m rule → (b : BlockId) → few_at rule b ≡ true → Opens m (declared_nodes rule.items) b (nodes_before m (declared_nodes rule.items) b)
opens_at m rule clean Kernel few = kernel_opens m rule clean
opens_at m rule clean (Pattern i) few = block_opens m rule clean (Pattern i) refl few
opens_at m rule clean (Multi i) few = block_opens m rule clean (Multi i) refl few

feature_there : (m : Metamodel) (ds : List DeclaredNode) (block : BlockId) (name feature : List ℕ) (d : DeclaredNode) (f : ℕ) → visible_node ds block name ≡ Some d → node_feature m feature d ≡ Some f → finds_feature m ds block name feature ≡ true
feature_there m ds block name feature d f found named = ap is_some (ap (option_and_then (node_feature m feature)) found ∙ named)

-- Where a step by way of the feature of a node finds something, the feature is there.
by_feature : {A : Type 0} (m : Metamodel) (feature : List ℕ) (next : ℕ → Option A) (d : DeclaredNode) (x : A) → option_and_then (λ c. option_and_then next (feature_named m c feature)) (node_class m d) ≡ Some x → (f : ℕ) × (node_feature m feature d ≡ Some f)
by_feature m feature next d x e =
    let class = came (node_class m d) (λ c. option_and_then next (feature_named m c feature)) x e in
    let f = came (feature_named m class.0 feature) next x class.2 in
    (f.0, ap (option_and_then (λ c. feature_named m c feature)) class.1 ∙ f.1)

-- A node that may be named is at its number.
placed_there : (m : Metamodel) (ds : List DeclaredNode) (block : BlockId) → Opens m ds block (nodes_before m ds block) → (name : List ℕ) (d : DeclaredNode) → visible_node ds block name ≡ Some d → is_placed m ds block name ≡ true
placed_there m ds block opens name d open_is =
    let spot = opens.found name d open_is in
    ap (λ (o : Option PatternNode). option_map_or (λ node. same_text name node.name) o false) (node_at_spot m ds (nodes_seen m ds block) name d spot)
    ∙ spot_called m ds (nodes_seen m ds block) name d spot

statement_there : (m : Metamodel) (rule : Rule) → Clean m rule → (k : ℕ) (s : Statement) → slice_get (statements rule.items) k ≡ Some s → few_at rule (block_at s) ≡ true → statement_resolves m (declared_nodes rule.items) s ≡ true
statement_there m rule clean k (Where block word test) at few = refl
statement_there m rule clean k (Edge block mark source target reference) at few =
    let ds = declared_nodes rule.items in
    let opens = opens_at m rule clean block few in
    let sound = sound_edge m ds block mark source target reference (clean.said k (Edge block mark source target reference) at) in
    let by = by_feature m reference.text (target_of m) sound.from sound.class sound.leads in
    and_from (finds_feature m ds block source.text reference.text) (is_placed m ds block source.text && is_placed m ds block target.text)
    (feature_there m ds block source.text reference.text sound.from by.0 sound.from_open by.1)
    (and_from (is_placed m ds block source.text) (is_placed m ds block target.text)
    (placed_there m ds block opens source.text sound.from sound.from_open) (placed_there m ds block opens target.text sound.to sound.to_open))
statement_there m rule clean k (Set block node attribute value) at few =
    let ds = declared_nodes rule.items in
    let sound = sound_set m (data_params rule.params) ds (flat_map slot_set_by (take k (statements rule.items))) block node attribute value (clean.said k (Set block node attribute value) at) in
    let by = by_feature m attribute.text (as_attribute m) sound.written sound.wanted sound.named in
    and_from (finds_feature m ds block node.text attribute.text) (is_placed m ds block node.text)
    (feature_there m ds block node.text attribute.text sound.written by.0 sound.written_open by.1)
    (placed_there m ds block (opens_at m rule clean block few) node.text sound.written sound.written_open)

kind_there : (m : Metamodel) (word : Name) → param_kind_faults m word ≡ [] → is_known_kind m word.text ≡ true
kind_there m word e = go (data_named word.text) e
  where
    go : (o : Option Kind) → (if is_some o then [] else class_name_faults m false word) ≡ [] → (is_some o || is_some (class_number m word.text)) ≡ true
    go (Some k) e = refl
    go None e = ap is_some (known_class m false word e).named

rule_there : (m : Metamodel) (rule : Rule) → Clean m rule → rule_resolves m rule ≡ true
rule_there m rule clean =
    let ds = declared_nodes rule.items in
    let few = is_few m rule clean in
    let passes = of_items (few_at rule) few.kernel 0 rule.items few.each_block in
    and_from (list_all (param_resolves m) rule.params) (list_all (node_resolves m) ds && list_all (statement_resolves m ds) (statements rule.items))
    (list_all-from (param_resolves m) rule.params (λ k p at. kind_there m p.kind (clean.params_known k p at)))
    (and_from (list_all (node_resolves m) ds) (list_all (statement_resolves m ds) (statements rule.items))
    (list_all-from (node_resolves m) ds (λ k d at. ap is_some (clean.nodes_known k d at).named))
    (list_all-from (statement_resolves m ds) (statements rule.items) (λ k s at. statement_there m rule clean k s at (All-at (PassesIn (few_at rule)) (statements rule.items) k s passes at))))

-- ---- units

callee_there : (m : Metamodel) (definitions : List Definition) → CleanText m definitions → (call : Call) → is_some (callee_params (rules_of definitions) (units_of definitions) call.callee.text) ≡ true → call_resolves (callees definitions) call ≡ true
callee_there m definitions clean call e = go (first_rule (rules_of definitions) call.callee.text) (first_unit (units_of definitions) call.callee.text) refl refl e
  where
    go : (rule : Option Rule) (unit : Option WrittenUnit) → first_rule (rules_of definitions) call.callee.text ≡ rule → first_unit (units_of definitions) call.callee.text ≡ unit →
        is_some (option_or (option_map (λ (r : Rule). r.params) rule) (option_map (λ (u : WrittenUnit). u.params) unit)) ≡ true → call_resolves (callees definitions) call ≡ true
    go (Some rule) unit is_rule is_unit e =
        or_left (is_some (place_among (callees definitions).rules call.callee.text)) (is_some (place_among (callees definitions).units call.callee.text))
        (ap is_some (at_number (λ (r : Rule). r.name) (rules_of definitions) call.callee.text rule clean.few_rules is_rule).numbered)
    go None (Some unit) no_rule is_unit e =
        or_right (is_some (place_among (callees definitions).rules call.callee.text)) (is_some (place_among (callees definitions).units call.callee.text))
        (ap is_some (at_number (λ (u : WrittenUnit). u.name) (units_of definitions) call.callee.text unit clean.few_units is_unit).numbered)
    go None None no_rule no_unit e = absurd (false≢true e)

call_there : (m : Metamodel) (definitions : List Definition) → CleanText m definitions → (own : List Param) (call : Call) → call_faults m (rules_of definitions) (units_of definitions) own call ≡ [] → call_resolves (callees definitions) call ≡ true
call_there m definitions clean own call e =
    callee_there m definitions clean call (some_callee _ (λ params. argument_faults m own params call) (callee_params (rules_of definitions) (units_of definitions) call.callee.text) e)

unit_there : (m : Metamodel) (definitions : List Definition) → CleanText m definitions → (unit : WrittenUnit) → CleanUnit m (rules_of definitions) (units_of definitions) unit → unit_resolves m (callees definitions) unit ≡ true
unit_there m definitions clean unit own =
    and_from (list_all (param_resolves m) unit.params) (list_all (call_resolves (callees definitions)) (written_calls unit.body))
    (list_all-from (param_resolves m) unit.params (λ k p at. own.params_known k p at))
    (list_all-from (call_resolves (callees definitions)) (written_calls unit.body) (λ k call at.
    call_there m definitions clean unit.params call (All-at (λ (c : Call). call_faults m (rules_of definitions) (units_of definitions) unit.params c ≡ []) (written_calls unit.body) k call own.calls_right at)))

pub resolve : (m : Metamodel) (definitions : List Definition) → faults_of m definitions ≡ [] → Resolve m definitions
resolve m definitions none =
    let clean = clean_text m definitions none in (
      list_all-from (rule_resolves m) (rules_of definitions) (λ k rule at. rule_there m rule (All-at (Clean m) (rules_of definitions) k rule clean.rules_clean at)),
      list_all-from (unit_resolves m (callees definitions)) (units_of definitions) (λ k unit at.
          unit_there m definitions clean unit (All-at (CleanUnit m (rules_of definitions) (units_of definitions)) (units_of definitions) k unit clean.units_clean at)),
    )

-- The same, where the check reports no fault.
pub checked_resolve : (m : Metamodel) (definitions : List Definition) → verdict (faults_of m definitions) ≡ Ok tt → Resolve m definitions
checked_resolve m definitions none = resolve m definitions (none-from_verdict (faults_of m definitions) none)
