-- The sets of a part of a rule: each fits, and no slot is set twice.
use Rattle.std.proofs.Common.{ℕ, zero, suc, ◌<◌, ◌≤◌, ◌≡◌, ◌&&◌, ◌||◌, List, [], ◌∷◌, Bool, true, false, not, length, take, slice_get, Some, refl, ap, sym, ◌∙◌, subst}
use Rattle.std.proofs.lemmas.Bool.{and_from, false≢true, or_left, or_right}
use Rattle.std.proofs.lemmas.List.Folds.{list_any-append}
use Rattle.std.proofs.lemmas.Option.{none-some, same_Some}
use Rattle.std.specs.List.{All, flat_map, list_any}
use Rattle.std.specs.Option.{option_map}
use Rattle.hs_expr.specs.Evaluation.{Scope, kind_in, reads_of}
use Rattle.hs_text.specs.declared.syntax.Mark.{Mark as WrittenMark}
use Rattle.hs_text.specs.declared.syntax.Mark.TheVariants as written
use Rattle.hs_text.specs.declared.syntax.Rule.{Rule}
use Rattle.hs_types.specs.declared.meta.Metamodel.{Metamodel}
use Rattle.hs_types.specs.declared.rule.PatternNode.{PatternNode}
use Rattle.hs_types.specs.declared.rule.SetItem.{SetItem}
use Rattle.hs_expr.specs.Lists.{has, same_text}
use Rattle.hs_types.specs.Metamodel.{attributes_of, kind_of_type, type_of}
use Rattle.hs_types.specs.Pattern.{is_drop}
use Rattle.hs_types.specs.RuleForm.{SetFits, SetOnce}
use Rattle.hs_faults.specs.declared.nodes.BlockId.{BlockId}
use Rattle.hs_faults.specs.Nodes.{declared_nodes}
use Rattle.hs_faults.specs.Numbers.{data_params}
use Rattle.hs_faults.specs.Statements.{Statement, statements}
use Rattle.hs_faults.specs.StatementFaults.{Slot, is_deleted, is_set_before, slot_set_by}
use Rattle.hs_faults.specs.Marks.{mark_meant}
use Rattle.hs_check.specs.Elements.{node_meant, node_number}
use Rattle.hs_check.specs.Expressions.{set_in, set_meant, sets_in}
use Rattle.hs_check.specs.Parameters.{class_meant}
use Rattle.hs_check.proofs.PartForms.{IsRight, checked_in, names_in, statements_in, visible_nodes, scope_in}
use Rattle.hs_check.proofs.ExprKinds.{IsKnown}
use Rattle.hs_check.proofs.Edges.{node_at_spot, number_at_spot}
use Rattle.hs_check.proofs.StatementForms.{AttributeSpot, SetMade, attribute_spot, expr_fits, has_attribute, features_same, nodes_same, set_made}
use Rattle.hs_check.proofs.Visibility.{Opens, Spot}
use Rattle.hs_check.proofs.Filters.{All-made, EachPair-filter_map, filter_map-map}
use Rattle.hs_check.proofs.Scopes.{agree}
use Rattle.hs_check.proofs.NoFaults.{Clean, SoundSet, sound_set}
use Rattle.hs_expr.proofs.Items.{slice_get-take, same_text-from}

stays_is : (mark : WrittenMark) → is_deleted mark ≡ false → not (is_drop (mark_meant mark)) ≡ true
stays_is written.Preserve e = refl
stays_is written.Create e = refl
stays_is written.Delete e = absurd (false≢true (sym e))

-- A set fits by what is at its numbers.
set_at : (m : Metamodel) (scope : Scope) (nodes : List PatternNode) (item : SetItem) (node : PatternNode) → slice_get nodes item.node ≡ Some node → not (is_drop node.mark) ≡ true → has (attributes_of m node.class) item.attribute ≡ true →
    kind_in scope item.value ≡ option_map kind_of_type (type_of m item.attribute) → SetFits m scope nodes item
set_at m scope nodes item node at stays there of_kind = (rw at (stays, there), of_kind)

any_flat : {A B : Type 0} (p : B → Bool) (f : A → List B) (xs : List A) (i : ℕ) (x : A) → slice_get xs i ≡ Some x → list_any p (f x) ≡ true → list_any p (flat_map f xs) ≡ true
any_flat p f [] i x at e = absurd (none-some x at)
any_flat p f (y ∷ xs) zero x at e = list_any-append p (f y) (flat_map f xs) ∙ or_left (list_any p (f y)) (list_any p (flat_map f xs)) (ap (λ z. list_any p (f z)) (same_Some y x at) ∙ e)
any_flat p f (y ∷ xs) (suc i) x at e = list_any-append p (f y) (flat_map f xs) ∙ or_right (list_any p (f y)) (list_any p (flat_map f xs)) (any_flat p f xs i x at e)

or_false : (a b : Bool) → a ≡ true → (a || b) ≡ true
or_false true b e = refl
or_false false b e = absurd (false≢true e)

-- A slot that a statement before set is set.
set_before : (said : List Statement) (i j : ℕ) (part : BlockId) (s : Statement) (node attribute : List ℕ) → i < j → slice_get said i ≡ Some s → list_any (λ (slot : Slot). same_text node slot.node && same_text attribute slot.attribute) (slot_set_by s) ≡ true → is_set_before (flat_map slot_set_by (take j said)) node attribute ≡ true
set_before said i j part s node attribute low at e = any_flat (λ (slot : Slot). same_text node slot.node && same_text attribute slot.attribute) slot_set_by (take j said) i s (slice_get-take said j i low ∙ at) e

module _ (m : Metamodel) (rule : Rule) (clean : Clean m rule) (part : BlockId) (before : List PatternNode) (opens : Opens m (declared_nodes rule.items) part before) where
  -- All that is known of a set.
  record SetKnown (k : ℕ) (s : Statement) (item : SetItem) : Type 0 where
    made : SetMade m (names_in m rule part) (declared_nodes rule.items) part s item
    sound : SoundSet m (data_params rule.params) (declared_nodes rule.items) (flat_map slot_set_by (take k (statements rule.items))) part made.node made.attribute made.value
    spot : Spot m (declared_nodes rule.items) (visible_nodes m rule part before) made.node.text sound.written
    at : AttributeSpot m (declared_nodes rule.items) made.node.text made.attribute.text sound.written sound.wanted

  set_known : (k : ℕ) (s : Statement) (item : SetItem) → slice_get (statements rule.items) k ≡ Some s → set_in m (declared_nodes rule.items) part (checked_in m rule s) ≡ Some item → SetKnown k s item
  set_known k s item here e =
      let is = set_made m (data_params rule.params) (declared_nodes rule.items) part s item e in
      let right = subst (IsRight m rule k) is.is (clean.said k s here) in
      let right_set = sound_set m (data_params rule.params) (declared_nodes rule.items) (flat_map slot_set_by (take k (statements rule.items))) part is.node is.attribute is.value right in
      let found = opens.found is.node.text right_set.written right_set.written_open in
      record { made = is; sound = right_set; spot = found; at = attribute_spot m (declared_nodes rule.items) (visible_nodes m rule part before) is.node.text is.attribute.text right_set.written right_set.wanted found right_set.named }

  set_fits : (k : ℕ) (s : Statement) (item : SetItem) → slice_get (statements rule.items) k ≡ Some s → set_in m (declared_nodes rule.items) part (checked_in m rule s) ≡ Some item →
      ((length before ≤ item.node) × SetFits m (scope_in m rule part before) (visible_nodes m rule part before) item) × All (IsKnown (scope_in m rule part before)) (reads_of item.value)
  set_fits k s item here e =
      let is = set_known k s item here e in
      let ds = declared_nodes rule.items in
      let nodes = visible_nodes m rule part before in
      let d = is.sound.written in
      let value = expr_fits (names_in m rule part) (scope_in m rule part before) (agree m rule clean part before opens) is.made.value is.sound.wanted.1 is.made.e is.sound.of_kind is.made.expr in
      let number = is.at.number_is in
      let low : length before ≤ node_number ds is.made.node.text = subst (λ n. length before ≤ n) (sym (number_at_spot m ds nodes is.made.node.text d is.spot)) (opens.own is.made.node.text d is.sound.written_open is.sound.own) in
      let a : ℕ = is.sound.wanted.0 in
      let there : has (attributes_of m (class_meant m d.class.text)) a ≡ true = has_attribute m (class_meant m d.class.text) is.made.attribute.text is.sound.wanted is.at.named is.at.kind_is in
      let of_kind : kind_in (scope_in m rule part before) is.made.e ≡ option_map kind_of_type (type_of m a) = value.0 ∙ sym is.at.kind_is in
      subst (λ (item : SetItem). ((length before ≤ item.node) × SetFits m (scope_in m rule part before) nodes item) × All (IsKnown (scope_in m rule part before)) (reads_of item.value)) is.made.whole (
        (
          low,
          set_at m (scope_in m rule part before) nodes (set_meant m ds is.made.node.text is.made.attribute.text is.made.e) (node_meant m d)
              (node_at_spot m ds nodes is.made.node.text d is.spot)
              (stays_is d.mark is.sound.stays)
              (ap (has (attributes_of m (class_meant m d.class.text))) number ∙ there)
              (of_kind ∙ ap (λ f. option_map kind_of_type (type_of m f)) (sym number)),
        ),
        value.1,
      )

  pub sets_fit : All (λ item. (length before ≤ item.node) × SetFits m (scope_in m rule part before) (visible_nodes m rule part before) item) (sets_in m (declared_nodes rule.items) (statements_in m rule) part)
  sets_fit = All-made (λ (item : SetItem). (length before ≤ item.node) × SetFits m (scope_in m rule part before) (visible_nodes m rule part before) item)
      (set_in m (declared_nodes rule.items) part) (checked_in m rule) (statements rule.items) (λ k s item at made. (set_fits k s item at made).0)

  pub sets_known : All (λ item. All (IsKnown (scope_in m rule part before)) (reads_of item.value)) (sets_in m (declared_nodes rule.items) (statements_in m rule) part)
  sets_known = All-made (λ (item : SetItem). All (IsKnown (scope_in m rule part before)) (reads_of item.value))
      (set_in m (declared_nodes rule.items) part) (checked_in m rule) (statements rule.items) (λ k s item at made. (set_fits k s item at made).1)

  pub sets_once : SetOnce (sets_in m (declared_nodes rule.items) (statements_in m rule) part)
  sets_once = subst SetOnce (sym (filter_map-map (set_in m (declared_nodes rule.items) part) (checked_in m rule) (statements rule.items)))
      (EachPair-filter_map (λ (a b : SetItem). (a.node ≡ b.node) × (a.attribute ≡ b.attribute) → ⊥) (λ s. set_in m (declared_nodes rule.items) part (checked_in m rule s)) (statements rule.items)
      (λ i j s t a b low at_i at_j made_a made_b same.
      let first = set_known i s a at_i made_a in
      let second = set_known j t b at_j made_b in
      let ds = declared_nodes rule.items in
      let nodes = visible_nodes m rule part before in
      let number_same : node_number ds first.made.node.text ≡ node_number ds second.made.node.text = ap (λ (x : SetItem). x.node) first.made.whole ∙ same.0 ∙ sym (ap (λ (x : SetItem). x.node) second.made.whole) in
      let node_same = nodes_same m ds nodes first.made.node.text second.made.node.text first.sound.written second.sound.written first.spot second.spot number_same in
      let feature_same : first.sound.wanted.0 ≡ second.sound.wanted.0 = sym first.at.number_is ∙ ap (λ (x : SetItem). x.attribute) first.made.whole ∙ same.1 ∙ sym (ap (λ (x : SetItem). x.attribute) second.made.whole) ∙ second.at.number_is in
      let attribute_same = features_same m (class_meant m first.sound.written.class.text) (class_meant m second.sound.written.class.text) second.sound.wanted.0 first.made.attribute.text second.made.attribute.text (first.at.named ∙ ap Some feature_same) second.at.named in
      let here : list_any (λ (slot : Slot). same_text second.made.node.text slot.node && same_text second.made.attribute.text slot.attribute) (slot_set_by s) ≡ true =
      ap (λ (u : Statement). list_any (λ (slot : Slot). same_text second.made.node.text slot.node && same_text second.made.attribute.text slot.attribute) (slot_set_by u)) first.made.is
      ∙ or_false (same_text second.made.node.text first.made.node.text && same_text second.made.attribute.text first.made.attribute.text) false
      (and_from (same_text second.made.node.text first.made.node.text) (same_text second.made.attribute.text first.made.attribute.text) (same_text-from second.made.node.text first.made.node.text (sym node_same)) (same_text-from second.made.attribute.text first.made.attribute.text (sym attribute_same))) in
      false≢true (sym second.sound.new ∙ set_before (statements rule.items) i j part s second.made.node.text second.made.attribute.text low at_i here)))
