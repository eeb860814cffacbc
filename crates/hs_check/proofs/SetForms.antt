-- A text without faults means a rule set over the metamodel.
use Rattle.std.proofs.Common.{ℕ, suc, ◌≤◌, ◌≡◌, ◌++◌, List, [], ◌∷◌, true, map, Option, Some, None, Ok, IsSomeAnd, slice_get, inl, inr, refl, ap, sym, ◌∙◌, subst}
use Rattle.std.proofs.lemmas.Bool.{false≢true}
use Rattle.std.proofs.lemmas.List.{length-map}
use Rattle.std.proofs.lemmas.List.Elements.{All-map, All-weaker}
use Rattle.std.proofs.lemmas.Simd.{map-map}
use Rattle.std.proofs.lemmas.Option.{slice_get-map, slice_get_cases}
use Rattle.std.specs.List.{All, cons_option, filter_map}
use Rattle.std.specs.Option.{option_map}
use Rattle.hs_expr.specs.Verdict.{verdict}
use Rattle.hs_text.specs.declared.syntax.Definition.{Definition}
use Rattle.hs_text.specs.declared.syntax.Rule.{Rule as WrittenRule}
use Rattle.hs_text.specs.declared.syntax.Unit.{Unit as WrittenUnit}
use Rattle.hs_types.specs.declared.meta.Metamodel.{Metamodel}
use Rattle.hs_types.specs.declared.rule.Rule.{Rule}
use Rattle.hs_types.specs.declared.unit.Call.{Call}
use Rattle.hs_types.specs.declared.unit.Unit.{Unit as RuleUnit}
use Rattle.hs_types.specs.Limits.{IsSmallUnit}
use Rattle.hs_expr.specs.Lists.{Differ, has, same_text}
use Rattle.hs_types.specs.Metamodel.{IsMeta}
use Rattle.hs_types.specs.Reachability.{Reaches, by_way_of, direct}
use Rattle.hs_types.specs.UnitForm as form
use Rattle.hs_types.proofs.Paths.{says_reaches}
use Rattle.hs_faults.specs.UnitFaults.{written_calls, faults_of, rules_of, unit_called, called_units, units_of}
use Rattle.hs_check.specs.Rules.{rule_meant, rules_meant}
use Rattle.hs_check.specs.Units.{call_meant, callees, unit_meant, units_meant}
use Rattle.hs_check.proofs.Uniqueness.{names_apart}
use Rattle.hs_check.proofs.Callees.{calls_same}
use Rattle.hs_check.proofs.RuleForms.{all_formed}
use Rattle.hs_check.proofs.UnitForms.{RightCall, right_calls, small_unit, unit_formed}
use Rattle.hs_check.proofs.Filters.{EachPair-from, EachPair-map, find_some}
use Rattle.hs_check.proofs.NoUnitFaults.{CleanText, CleanUnit, clean_text}
use Rattle.hs_expr.proofs.Items.{All-at, All-from, same_text-from}
use Rattle.hs_expr.proofs.Lists.{EachPair-append}
use Rattle.hs_expr.proofs.Faults.{none-from_verdict}

-- ---- names

names_differ : (m : Metamodel) (definitions : List Definition) → CleanText m definitions → Differ (map (λ rule. rule.name) (rules_meant m definitions) ++ map (λ unit. unit.name) (units_meant m definitions))
names_differ m definitions clean =
    EachPair-append (λ a b. a ≡ b → ⊥) (map (λ (rule : Rule). rule.name) (rules_meant m definitions)) (map (λ (unit : RuleUnit). unit.name) (units_meant m definitions))
    (EachPair-map (λ a b. a ≡ b → ⊥) (λ (rule : Rule). rule.name) (rules_meant m definitions)
    (EachPair-map (λ (a b : Rule). a.name ≡ b.name → ⊥) (rule_meant m) (rules_of definitions)
    (EachPair-from (λ (a b : WrittenRule). a.name.text ≡ b.name.text → ⊥) (rules_of definitions) (names_apart (λ (rule : WrittenRule). rule.name) (rules_of definitions) clean.rules_new))))
    (EachPair-map (λ a b. a ≡ b → ⊥) (λ (unit : RuleUnit). unit.name) (units_meant m definitions)
    (EachPair-map (λ (a b : RuleUnit). a.name ≡ b.name → ⊥) (unit_meant m (callees definitions)) (units_of definitions)
    (EachPair-from (λ (a b : WrittenUnit). a.name.text ≡ b.name.text → ⊥) (units_of definitions) (names_apart (λ (unit : WrittenUnit). unit.name) (units_of definitions) clean.units_new))))
    (all_mapped (λ (name : List ℕ). All (λ (other : List ℕ). name ≡ other → ⊥) (map (λ (unit : RuleUnit). unit.name) (units_meant m definitions))) (λ (rule : Rule). rule.name) (rule_meant m) (rules_of definitions) (λ i rule at_rule.
    all_mapped (λ (other : List ℕ). rule.name.text ≡ other → ⊥) (λ (unit : RuleUnit). unit.name) (unit_meant m (callees definitions)) (units_of definitions) (λ j unit at_unit same.
    false≢true (sym (clean.no_rules j unit at_unit) ∙ find_some (λ (other : WrittenRule). same_text unit.name.text other.name.text) (rules_of definitions) i rule at_rule (same_text-from unit.name.text rule.name.text (sym same))))))
  where
    all_mapped : {A B C : Type 0} (P : C → Type 0) (g : B → C) (f : A → B) (xs : List A) → ((k : ℕ) (x : A) → slice_get xs k ≡ Some x → P (g (f x))) → All P (map g (map f xs))
    all_mapped {A} {B} P g f xs h = All-map P g (map f xs) (All-map (λ (y : B). P (g y)) f xs (All-from (λ (x : A). P (g (f x))) xs h))

-- ---- cycles

-- Two functions that agree on each item give the same.
map_alike : {A B : Type 0} (f g : A → B) (xs : List A) → ((k : ℕ) (x : A) → slice_get xs k ≡ Some x → f x ≡ g x) → map f xs ≡ map g xs
map_alike f g [] h = refl
map_alike {A} {B} f g (x ∷ xs) h = ap (λ (y : B). y ∷ map f xs) (h 0 x refl) ∙ ap (λ (ys : List B). g x ∷ ys) (map_alike f g xs (λ k y at. h (suc k) y at))

picked_alike : {A B C : Type 0} (p : B → Option C) (f : A → B) (q : A → Option C) (xs : List A) → ((k : ℕ) (x : A) → slice_get xs k ≡ Some x → p (f x) ≡ q x) → filter_map p (map f xs) ≡ filter_map q xs
picked_alike p f q [] h = refl
picked_alike {A} {B} {C} p f q (x ∷ xs) h =
    ap (λ (o : Option C). cons_option o (filter_map p (map f xs))) (h 0 x refl)
    ∙ ap (λ (ys : List C). cons_option (q x) ys) (picked_alike p f q xs (λ k y at. h (suc k) y at))

-- What a unit calls is the same by name and by number.
called_same : (m : Metamodel) (definitions : List Definition) → CleanText m definitions → (unit : WrittenUnit) → CleanUnit m (rules_of definitions) (units_of definitions) unit → form.units_called (unit_meant m (callees definitions) unit) ≡ called_units (rules_of definitions) (units_of definitions) unit
called_same m definitions clean unit own =
    ap (filter_map (λ (call : Call). form.unit_in call.callee)) (calls_same (callees definitions) unit.body)
    ∙ picked_alike (λ (call : Call). form.unit_in call.callee) (call_meant (callees definitions)) (unit_called (rules_of definitions) (units_of definitions)) (written_calls unit.body)
    (λ k call at. (All-at (RightCall m definitions unit.params) (written_calls unit.body) k call (right_calls m definitions clean unit own) at).callee.placed)

each_called : (m : Metamodel) (definitions : List Definition) → CleanText m definitions → map form.units_called (units_meant m definitions) ≡ map (called_units (rules_of definitions) (units_of definitions)) (units_of definitions)
each_called m definitions clean =
    map-map form.units_called (unit_meant m (callees definitions)) (units_of definitions)
    ∙ map_alike (λ (unit : WrittenUnit). form.units_called (unit_meant m (callees definitions) unit)) (called_units (rules_of definitions) (units_of definitions)) (units_of definitions)
    (λ k unit at. called_same m definitions clean unit (All-at (CleanUnit m (rules_of definitions) (units_of definitions)) (units_of definitions) k unit clean.units_clean at))

not_there : (o : Option (List ℕ)) (d : ℕ) → o ≡ None → IsSomeAnd o (λ numbers. has numbers d ≡ true) → ⊥
not_there None d e is = is
not_there (Some numbers) d e is = cc

-- Nothing is below what isn't there.
pub none_below : (supers : List (List ℕ)) (c d : ℕ) → slice_get supers c ≡ None → Reaches supers c d → ⊥
none_below supers c d none (direct _ _ step) = not_there (slice_get supers c) d none step
none_below supers c e none (by_way_of _ d _ step rest) = not_there (slice_get supers c) d none step

acyclic : (m : Metamodel) (definitions : List Definition) → CleanText m definitions → form.AreAcyclic (units_meant m definitions)
acyclic m definitions clean = λ place below.
    let called = map (called_units (rules_of definitions) (units_of definitions)) (units_of definitions) in
    let circles : Reaches called place place = subst (λ (c : List (List ℕ)). Reaches c place place) (each_called m definitions clean) below in
    elim (slice_get_cases (units_of definitions) place).1 [
      | inl there ↦ false≢true (sym (clean.no_cycles place there.0 there.2) ∙ (says_reaches called place place).1 circles)
      | inr past ↦ none_below called place place (slice_get-map (called_units (rules_of definitions) (units_of definitions)) (units_of definitions) place ∙ ap (option_map (called_units (rules_of definitions) (units_of definitions))) past.1) circles
    ]

-- ---- the whole set

set_formed : (m : Metamodel) (definitions : List Definition) → IsMeta m → CleanText m definitions → form.IsRuleSet m (rules_meant m definitions) (units_meant m definitions)
set_formed m definitions is clean = record {
  are_rules = all_formed m definitions is clean.rules_clean;
  are_units = All-map (λ (unit : RuleUnit). form.IsUnit m (rules_meant m definitions) (units_meant m definitions) unit × IsSmallUnit unit) (unit_meant m (callees definitions)) (units_of definitions)
      (All-weaker (CleanUnit m (rules_of definitions) (units_of definitions)) (λ (unit : WrittenUnit). form.IsUnit m (rules_meant m definitions) (units_meant m definitions) (unit_meant m (callees definitions) unit) × IsSmallUnit (unit_meant m (callees definitions) unit))
      (λ unit own. (unit_formed m definitions clean unit own, small_unit m definitions unit own)) (units_of definitions) clean.units_clean);
  names_differ = names_differ m definitions clean;
  acyclic = acyclic m definitions clean;
  few_rules = subst (λ n. n ≤ 64) (sym (length-map (rules_of definitions) (rule_meant m))) clean.few_rules;
  few_units = subst (λ n. n ≤ 64) (sym (length-map (units_of definitions) (unit_meant m (callees definitions)))) clean.few_units;
}

pub sets_formed : (m : Metamodel) (definitions : List Definition) → IsMeta m → faults_of m definitions ≡ [] → form.IsRuleSet m (rules_meant m definitions) (units_meant m definitions)
sets_formed m definitions is none = set_formed m definitions is (clean_text m definitions none)

-- The rules and the units that a text means are a set, where the check reports no fault.
pub checked_formed : (m : Metamodel) (definitions : List Definition) (rules : List Rule) (units : List RuleUnit) → verdict (faults_of m definitions) ≡ Ok tt → rules ≡ rules_meant m definitions → units ≡ units_meant m definitions → IsMeta m → form.IsRuleSet m rules units
checked_formed m definitions rules units none rules_are units_are is =
    rw (rules_are, units_are) (sets_formed m definitions is (none-from_verdict (faults_of m definitions) none))
