-- What calls name is found by its number, and what a unit's body calls stays in order.
use Rattle.std.proofs.Common.{ℕ, ◌≤◌, ◌≡◌, List, ◌∷◌, Bool, true, is_some, length, map, Option, Some, None, if◌then◌else◌, slice_get, refl, ap, sym, ◌∙◌, arith}
use Rattle.std.proofs.lemmas.Bool.{false≢true}
use Rattle.std.proofs.lemmas.Option.{slice_get-map, slice_get_within}
use Rattle.std.specs.List.{find, position, position_or_len}
use Rattle.std.specs.Option.{option_and_then, option_map, option_map_or, option_or, unwrap_or}
use Rattle.hs_expr.specs.declared.Name.{Name}
use Rattle.hs_text.specs.declared.syntax.Body.{Body as WrittenBody}
use Rattle.hs_text.specs.declared.syntax.Body.TheVariants as written_body
use Rattle.hs_text.specs.declared.syntax.Call.{Call as WrittenCall}
use Rattle.hs_text.specs.declared.syntax.Definition.{Definition}
use Rattle.hs_text.specs.declared.syntax.Param.{Param as WrittenParam}
use Rattle.hs_text.specs.declared.syntax.Rule.{Rule as WrittenRule}
use Rattle.hs_text.specs.declared.syntax.Unit.{Unit as WrittenUnit}
use Rattle.hs_types.specs.declared.meta.Metamodel.{Metamodel}
use Rattle.hs_types.specs.declared.rule.Rule.{Rule}
use Rattle.hs_types.specs.declared.unit.Callee.{Callee}
use Rattle.hs_types.specs.declared.unit.Callee.TheVariants as callee
use Rattle.hs_types.specs.declared.unit.Unit.{Unit as RuleUnit}
use Rattle.hs_expr.specs.Lists.{same_text}
use Rattle.hs_types.specs.UnitForm as form
use Rattle.hs_types.specs.Units as calling
use Rattle.hs_faults.specs.Names.{as_number}
use Rattle.hs_faults.specs.UnitFaults.{callee_params, written_calls, else_calls, first_rule, rules_of, unit_called, first_unit, units_of}
use Rattle.hs_check.specs.declared.units.Callees.{Callees}
use Rattle.hs_check.specs.Parameters.{params_meant}
use Rattle.hs_check.specs.Rules.{rule_meant, rules_meant}
use Rattle.hs_check.specs.Units.{body_meant, call_meant, callee_meant, callees, place_among, unit_meant, units_meant}
use Rattle.hs_check.proofs.Uniqueness.{HaveOwn}
use Rattle.hs_check.proofs.Visibility.{place_there, position_there}
use Rattle.hs_check.proofs.Filters.{position_absent, position_mapped}
use Rattle.hs_check.proofs.NoFaults.{Clean}
use Rattle.hs_check.proofs.NoUnitFaults.{CleanText, CleanUnit}
use Rattle.hs_expr.proofs.Items.{All-at}

-- ---- by number

-- An item that a name finds is at the number of the name.
pub record AtNumber {A : Type 0} (name_of : A → Name) (xs : List A) (name : List ℕ) (x : A) : Type 0 where
  pub place : ℕ
  pub numbered : place_among (map (λ (item : A). (name_of item).text) xs) name ≡ Some place
  pub first : position (λ (item : A). same_text name (name_of item).text) xs ≡ Some place
  pub at : slice_get xs place ≡ Some x

pub at_number : {A : Type 0} (name_of : A → Name) (xs : List A) (name : List ℕ) (x : A) → length xs ≤ 64 → find (λ (item : A). same_text name (name_of item).text) xs ≡ Some x → AtNumber name_of xs name x
at_number {A} name_of xs name x few found =
    let test : A → Bool = λ (item : A). same_text name (name_of item).text in
    let there = place_there test xs x (omega arith) found in
    record {
      place = position_or_len test xs;
      numbered = ap (option_and_then as_number) (position_mapped (same_text name) (λ (item : A). (name_of item).text) xs) ∙ there.0;
      first = position_there test xs (slice_get_within xs (position_or_len test xs) x there.1);
      at = there.1;
    }

-- A name that finds no item has no number.
no_number : {A : Type 0} (name_of : A → Name) (xs : List A) (name : List ℕ) → find (λ (item : A). same_text name (name_of item).text) xs ≡ None → place_among (map (λ (item : A). (name_of item).text) xs) name ≡ None
no_number {A} name_of xs name none =
    ap (option_and_then as_number) (position_mapped (same_text name) (λ (item : A). (name_of item).text) xs ∙ position_absent (λ (item : A). same_text name (name_of item).text) xs none)

-- What a call names is there: it has these parameters, by name and by number, and their names differ; and where it is a unit it has one place.
pub record Found (m : Metamodel) (definitions : List Definition) (call : WrittenCall) : Type 0 where
  pub params : List WrittenParam
  pub named : callee_params (rules_of definitions) (units_of definitions) call.callee.text ≡ Some params
  pub numbered : form.params_of (rules_meant m definitions) (units_meant m definitions) (callee_meant (callees definitions) call.callee.text) ≡ Some (params_meant m params)
  pub placed : form.unit_in (callee_meant (callees definitions) call.callee.text) ≡ unit_called (rules_of definitions) (units_of definitions) call
  pub params_new : HaveOwn (λ (p : WrittenParam). p.name) params

-- The parameters of a rule, or else of a unit.
abbrev params_found : Option WrittenRule → Option WrittenUnit → Option (List WrittenParam)
params_found rule unit = option_or (option_map (λ r. r.params) rule) (option_map (λ u. u.params) unit)

-- A rule by its number, or else a unit.
abbrev callee_found : Option ℕ → Option ℕ → Callee
callee_found rule unit = option_map_or callee.Rule rule (callee.Unit (unwrap_or unit 0))

-- The place of a unit, where there is no rule.
abbrev place_found : Option WrittenRule → Option ℕ → Option ℕ
place_found rule place = if is_some rule then None else place

found_rule : (m : Metamodel) (definitions : List Definition) → CleanText m definitions → (call : WrittenCall) (rule : WrittenRule) → first_rule (rules_of definitions) call.callee.text ≡ Some rule → Found m definitions call
found_rule m definitions clean call rule is_rule =
    let name = call.callee.text in
    let here = at_number (λ (rule : WrittenRule). rule.name) (rules_of definitions) name rule clean.few_rules is_rule in
    let meant : callee_meant (callees definitions) name ≡ callee.Rule here.place = ap (λ (n : Option ℕ). callee_found n (place_among (callees definitions).units name)) here.numbered in
    record {
      params = rule.params;
      named = ap (λ (o : Option WrittenRule). params_found o (first_unit (units_of definitions) name)) is_rule;
      numbered = ap (form.params_of (rules_meant m definitions) (units_meant m definitions)) meant
          ∙ ap (option_map (λ (rule : Rule). rule.params)) (slice_get-map (rule_meant m) (rules_of definitions) here.place ∙ ap (option_map (rule_meant m)) here.at);
      placed = ap form.unit_in meant ∙ sym (ap (λ (o : Option WrittenRule). place_found o (position (λ (unit : WrittenUnit). same_text name unit.name.text) (units_of definitions))) is_rule);
      params_new = (All-at (Clean m) (rules_of definitions) here.place rule clean.rules_clean here.at).params_new;
    }

found_unit : (m : Metamodel) (definitions : List Definition) → CleanText m definitions → (call : WrittenCall) (unit : WrittenUnit) → first_rule (rules_of definitions) call.callee.text ≡ None → first_unit (units_of definitions) call.callee.text ≡ Some unit → Found m definitions call
found_unit m definitions clean call unit no_rule is_unit =
    let name = call.callee.text in
    let here = at_number (λ (unit : WrittenUnit). unit.name) (units_of definitions) name unit clean.few_units is_unit in
    let meant : callee_meant (callees definitions) name ≡ callee.Unit here.place =
    ap (λ (n : Option ℕ). callee_found n (place_among (callees definitions).units name)) (no_number (λ (rule : WrittenRule). rule.name) (rules_of definitions) name no_rule)
    ∙ ap (callee_found None) here.numbered in
    record {
      params = unit.params;
      named = ap (λ (o : Option WrittenRule). params_found o (first_unit (units_of definitions) name)) no_rule ∙ ap (params_found None) is_unit;
      numbered = ap (form.params_of (rules_meant m definitions) (units_meant m definitions)) meant
          ∙ ap (option_map (λ (unit : RuleUnit). unit.params)) (slice_get-map (unit_meant m (callees definitions)) (units_of definitions) here.place ∙ ap (option_map (unit_meant m (callees definitions))) here.at);
      placed = ap form.unit_in meant ∙ sym here.first
          ∙ sym (ap (λ (o : Option WrittenRule). place_found o (position (λ (unit : WrittenUnit). same_text name unit.name.text) (units_of definitions))) no_rule);
      params_new = (All-at (CleanUnit m (rules_of definitions) (units_of definitions)) (units_of definitions) here.place unit clean.units_clean here.at).params_new;
    }

pub found : (m : Metamodel) (definitions : List Definition) → CleanText m definitions → (call : WrittenCall) → is_some (callee_params (rules_of definitions) (units_of definitions) call.callee.text) ≡ true → Found m definitions call
found m definitions clean call e = go (first_rule (rules_of definitions) call.callee.text) (first_unit (units_of definitions) call.callee.text) refl refl e
  where
    go : (rule : Option WrittenRule) (unit : Option WrittenUnit) → first_rule (rules_of definitions) call.callee.text ≡ rule → first_unit (units_of definitions) call.callee.text ≡ unit → is_some (params_found rule unit) ≡ true → Found m definitions call
    go None None no_rule no_unit e = absurd (false≢true e)
    go (Some rule) unit is_rule is_unit e = found_rule m definitions clean call rule is_rule
    go None (Some unit) no_rule is_unit e = found_unit m definitions clean call unit no_rule is_unit

-- ---- in order

-- The calls of what a body means are what its calls mean.
pub calls_same : (known : Callees) (b : WrittenBody) → calling.calls_of (body_meant known b) ≡ map (call_meant known) (written_calls b)
calls_same known (written_body.Sequential calls) = refl
calls_same known (written_body.Independent calls) = refl
calls_same known (written_body.Priority calls) = refl
calls_same known (written_body.Conditional test next otherwise) = ap (λ calls. call_meant known test ∷ call_meant known next ∷ calls) (else_same otherwise)
  where
    else_same : (o : Option WrittenCall) → calling.otherwise_calls (option_map (call_meant known) o) ≡ map (call_meant known) (else_calls o)
    else_same None = refl
    else_same (Some call) = refl
calls_same known (written_body.Loop call) = refl
calls_same known (written_body.Iterated count call) = refl
