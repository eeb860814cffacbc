-- What is so of a unit in which no fault is found, and of a text without faults.
use Rattle.std.proofs.Common.{ℕ, zero, suc, ◌≤◌, ◌≡◌, ◌++◌, List, [], ◌∷◌, true, false, not, is_some, length, map, nat_le, take, Option, Some, None, slice_get, refl, ap, sym, ◌∙◌}
use Rattle.std.proofs.lemmas.Bool.{and_parts, leb-true}
use Rattle.std.proofs.lemmas.List.{append-nil, append_assoc}
use Rattle.std.proofs.lemmas.List.Elements.{All-cons, All-nil}
use Rattle.std.proofs.lemmas.Option.{none-some, same_Some}
use Rattle.std.specs.List.{All}
use Rattle.std.specs.Option.{option_map_or}
use Rattle.hs_expr.specs.Verdict.{fault_if}
use Rattle.hs_text.specs.declared.syntax.Body.{Body}
use Rattle.hs_text.specs.declared.syntax.Body.TheVariants as body
use Rattle.hs_text.specs.declared.syntax.Call.{Call}
use Rattle.hs_text.specs.declared.syntax.Definition.{Definition}
use Rattle.hs_text.specs.declared.syntax.Definition.TheVariants as definition
use Rattle.hs_text.specs.declared.syntax.Param.{Param}
use Rattle.hs_text.specs.declared.syntax.Rule.{Rule}
use Rattle.hs_text.specs.declared.syntax.Unit.{Unit as WrittenUnit}
use Rattle.hs_types.specs.declared.meta.Metamodel.{Metamodel}
use Rattle.hs_types.specs.Reachability.{reaches}
use Rattle.hs_faults.specs.declared.fault.RuleFault.{RuleFault}
use Rattle.hs_faults.specs.Faults.{faults_of_rules}
use Rattle.hs_faults.specs.Declarations.{is_again}
use Rattle.hs_faults.specs.UnitFaults.{body_faults, call_faults, written_calls, count_faults, cycle_fault, cycle_faults, else_calls, faults_in_unit, faults_of, faults_of_each, faults_of_unit, faults_of_unit_params, faults_of_units, gives_data_back, is_known_kind, keeps_unit_limits, first_rule, rules_of, unit_faults_after, unit_kind_faults, unit_param_faults, called_units, units_of}
use Rattle.hs_check.proofs.Uniqueness.{HaveOwn}
use Rattle.hs_check.proofs.Filters.{few_items}
use Rattle.hs_check.proofs.NoFaults.{Clean, each_rule, yes_test}
use Rattle.hs_expr.proofs.Items.{All-from}
use Rattle.hs_expr.proofs.Clean.{clean_at, empty_parts, no_test}

-- ---- a unit's body

-- What is found of a body's count.
abbrev pub faults_of_count : List Param → Body → List RuleFault
faults_of_count own (body.Iterated count call) = count_faults own count
faults_of_count own body = []

-- Nothing is found of any call, where nothing is found of the body.
calls_clean : (of_call : Call → List RuleFault) (own : List Param) (b : Body) → body_faults of_call own b ≡ [] → All (λ call. of_call call ≡ []) (written_calls b)
calls_clean of_call own (body.Sequential calls) e = All-from (λ (call : Call). of_call call ≡ []) calls (λ k call at. clean_at (λ i (call : Call). of_call call) calls e k call at)
calls_clean of_call own (body.Independent calls) e = All-from (λ (call : Call). of_call call ≡ []) calls (λ k call at. clean_at (λ i (call : Call). of_call call) calls e k call at)
calls_clean of_call own (body.Priority calls) e = All-from (λ (call : Call). of_call call ≡ []) calls (λ k call at. clean_at (λ i (call : Call). of_call call) calls e k call at)
calls_clean of_call own (body.Conditional test next otherwise) e =
    let a = empty_parts (of_call test) (of_call next ++ option_map_or of_call otherwise []) e in
    let b = empty_parts (of_call next) (option_map_or of_call otherwise []) a.1 in
    All-cons (λ (call : Call). of_call call ≡ []) test (next ∷ else_calls otherwise) a.0 (All-cons (λ (call : Call). of_call call ≡ []) next (else_calls otherwise) b.0 (else_clean otherwise b.1))
  where
    else_clean : (o : Option Call) → option_map_or of_call o [] ≡ [] → All (λ call. of_call call ≡ []) (else_calls o)
    else_clean None e = All-nil (λ (call : Call). of_call call ≡ [])
    else_clean (Some call) e = All-cons (λ (call : Call). of_call call ≡ []) call [] e (All-nil (λ (call : Call). of_call call ≡ []))
calls_clean of_call own (body.Loop call) e = All-cons (λ (call : Call). of_call call ≡ []) call [] e (All-nil (λ (call : Call). of_call call ≡ []))
calls_clean of_call own (body.Iterated count call) e = All-cons (λ (call : Call). of_call call ≡ []) call [] (empty_parts (of_call call) (count_faults own count) e).0 (All-nil (λ (call : Call). of_call call ≡ []))

count_clean : (of_call : Call → List RuleFault) (own : List Param) (b : Body) → body_faults of_call own b ≡ [] → faults_of_count own b ≡ []
count_clean of_call own (body.Sequential calls) e = refl
count_clean of_call own (body.Independent calls) e = refl
count_clean of_call own (body.Priority calls) e = refl
count_clean of_call own (body.Conditional test next otherwise) e = refl
count_clean of_call own (body.Loop call) e = refl
count_clean of_call own (body.Iterated count call) e = (empty_parts (of_call call) (count_faults own count) e).1

-- ---- each unit

-- All that holds of a unit without faults, among these rules and units.
pub record CleanUnit (m : Metamodel) (rules : List Rule) (units : List WrittenUnit) (unit : WrittenUnit) : Type 0 where
  pub params_new : HaveOwn (λ (p : Param). p.name) unit.params
  pub params_known : (k : ℕ) (p : Param) → slice_get unit.params k ≡ Some p → is_known_kind m p.kind.text ≡ true
  pub data_given : (k : ℕ) (p : Param) → slice_get unit.params k ≡ Some p → gives_data_back p ≡ false
  pub calls_right : All (λ call. call_faults m rules units unit.params call ≡ []) (written_calls unit.body)
  pub count_right : faults_of_count unit.params unit.body ≡ []
  pub few_params : length unit.params ≤ 16
  pub few_calls : length (written_calls unit.body) ≤ 16

clean_unit : (m : Metamodel) (rules : List Rule) (units : List WrittenUnit) (unit : WrittenUnit) → faults_in_unit m rules units unit ≡ [] → CleanUnit m rules units unit
clean_unit m rules units unit e =
    let a = empty_parts (faults_of_unit_params m unit.params) _ e in
    let b = empty_parts (body_faults (call_faults m rules units unit.params) unit.params unit.body) (fault_if (not (keeps_unit_limits unit)) _) a.1 in
    let sizes = and_parts (nat_le (length unit.params) 16) (nat_le (length (written_calls unit.body)) 16) (yes_test (keeps_unit_limits unit) _ b.1) in
    record {
      params_new = λ k p at. no_test _ _ (empty_parts _ (unit_kind_faults m p) (at_param a.0 k p at)).0;
      params_known = λ k p at. yes_test (is_known_kind m p.kind.text) _ (empty_parts (fault_if (not (is_known_kind m p.kind.text)) _) (fault_if (gives_data_back p) _) (kind_of_param a.0 k p at)).0;
      data_given = λ k p at. no_test _ _ (empty_parts (fault_if (not (is_known_kind m p.kind.text)) _) (fault_if (gives_data_back p) _) (kind_of_param a.0 k p at)).1;
      calls_right = calls_clean (call_faults m rules units unit.params) unit.params unit.body b.0;
      count_right = count_clean (call_faults m rules units unit.params) unit.params unit.body b.0;
      few_params = leb-true _ 16 sizes.0;
      few_calls = leb-true _ 16 sizes.1;
    }
  where
    at_param : faults_of_unit_params m unit.params ≡ [] → (k : ℕ) (p : Param) → slice_get unit.params k ≡ Some p → unit_param_faults m (take k unit.params) p ≡ []
    at_param e k p at = clean_at (λ i (q : Param). unit_param_faults m (take i unit.params) q) unit.params e k p at

    kind_of_param : faults_of_unit_params m unit.params ≡ [] → (k : ℕ) (p : Param) → slice_get unit.params k ≡ Some p → unit_kind_faults m p ≡ []
    kind_of_param e k p at = (empty_parts (fault_if (is_again (λ (other : Param). other.name) (take k unit.params) p.name) _) (unit_kind_faults m p) (at_param e k p at)).1

-- A unit after those before it, of which nothing is found.
record NextUnit (m : Metamodel) (rules : List Rule) (units before : List WrittenUnit) (unit : WrittenUnit) : Type 0 where
  few : nat_le 64 (length before) ≡ false
  no_rule : is_some (first_rule rules unit.name.text) ≡ false
  new : is_again (λ (other : WrittenUnit). other.name) before unit.name ≡ false
  clean : CleanUnit m rules units unit

next_unit : (m : Metamodel) (rules : List Rule) (units before : List WrittenUnit) (unit : WrittenUnit) → faults_of_unit m rules units before unit ≡ [] → NextUnit m rules units before unit
next_unit m rules units before unit e =
    let again = is_again (λ (other : WrittenUnit). other.name) before unit.name in
    let a = empty_parts (fault_if (nat_le 64 (length before)) _) (fault_if (is_some (first_rule rules unit.name.text)) _ ++ (fault_if again _ ++ faults_in_unit m rules units unit)) e in
    let b = empty_parts (fault_if (is_some (first_rule rules unit.name.text)) _) (fault_if again _ ++ faults_in_unit m rules units unit) a.1 in
    let c = empty_parts (fault_if again _) (faults_in_unit m rules units unit) b.1 in
    record { few = no_test _ _ a.0; no_rule = no_test _ _ b.0; new = no_test _ _ c.0; clean = clean_unit m rules units unit c.1 }

-- What is found of each unit of these, after those before, where nothing is found of all.
units_at : (m : Metamodel) (rules : List Rule) (units before : List WrittenUnit) (definitions : List Definition) → unit_faults_after m rules units before definitions ≡ [] → (k : ℕ) (unit : WrittenUnit) → slice_get (units_of definitions) k ≡ Some unit → faults_of_unit m rules units (before ++ take k (units_of definitions)) unit ≡ []
units_at m rules units before [] e k unit at = absurd (none-some unit at)
units_at m rules units before (definition.Unit first ∷ definitions) e zero unit at =
    ap (λ (b : List WrittenUnit). faults_of_unit m rules units b unit) (append-nil before)
    ∙ ap (faults_of_unit m rules units before) (sym (same_Some first unit at))
    ∙ (empty_parts (faults_of_unit m rules units before first) (unit_faults_after m rules units (before ++ first ∷ []) definitions) e).0
units_at m rules units before (definition.Unit first ∷ definitions) e (suc k) unit at =
    ap (λ (b : List WrittenUnit). faults_of_unit m rules units b unit) (sym (append_assoc before (first ∷ []) (take k (units_of definitions))))
    ∙ units_at m rules units (before ++ first ∷ []) definitions (empty_parts (faults_of_unit m rules units before first) (unit_faults_after m rules units (before ++ first ∷ []) definitions) e).1 k unit at
units_at m rules units before (definition.Rule rule ∷ definitions) e k unit at =
    ap (λ (b : List WrittenUnit). faults_of_unit m rules units (b ++ take k (units_of definitions)) unit) (sym (append-nil before))
    ∙ units_at m rules units (before ++ []) definitions e k unit at

-- ---- the whole text

-- All that holds of a text without faults.
pub record CleanText (m : Metamodel) (definitions : List Definition) : Type 0 where
  pub rules_clean : All (Clean m) (rules_of definitions)
  pub units_clean : All (CleanUnit m (rules_of definitions) (units_of definitions)) (units_of definitions)
  pub rules_new : HaveOwn (λ (rule : Rule). rule.name) (rules_of definitions)
  pub units_new : HaveOwn (λ (unit : WrittenUnit). unit.name) (units_of definitions)
  pub no_rules : (k : ℕ) (unit : WrittenUnit) → slice_get (units_of definitions) k ≡ Some unit → is_some (first_rule (rules_of definitions) unit.name.text) ≡ false
  pub no_cycles : (k : ℕ) (unit : WrittenUnit) → slice_get (units_of definitions) k ≡ Some unit → reaches (map (called_units (rules_of definitions) (units_of definitions)) (units_of definitions)) k k ≡ false
  pub few_rules : length (rules_of definitions) ≤ 64
  pub few_units : length (units_of definitions) ≤ 64

pub clean_text : (m : Metamodel) (definitions : List Definition) → faults_of m definitions ≡ [] → CleanText m definitions
clean_text m definitions e =
    let a = empty_parts (faults_of_rules m definitions) (faults_of_units m definitions) e in
    let b = empty_parts (faults_of_each m definitions) (cycle_faults (rules_of definitions) (units_of definitions)) a.1 in
    record {
      rules_clean = All-from (Clean m) (rules_of definitions) (λ k rule at. (each_rule m definitions a.0 k rule at).clean);
      units_clean = All-from (CleanUnit m (rules_of definitions) (units_of definitions)) (units_of definitions) (λ k unit at. (next b.0 k unit at).clean);
      rules_new = λ k rule at. (each_rule m definitions a.0 k rule at).new;
      units_new = λ k unit at. (next b.0 k unit at).new;
      no_rules = λ k unit at. (next b.0 k unit at).no_rule;
      no_cycles = λ k unit at. no_test _ _ (clean_at (cycle_fault (map (called_units (rules_of definitions) (units_of definitions)) (units_of definitions))) (units_of definitions) b.1 k unit at);
      few_rules = few_items 64 (rules_of definitions) (λ k rule at. (each_rule m definitions a.0 k rule at).few);
      few_units = few_items 64 (units_of definitions) (λ k unit at. (next b.0 k unit at).few);
    }
  where
    next : faults_of_each m definitions ≡ [] → (k : ℕ) (unit : WrittenUnit) → slice_get (units_of definitions) k ≡ Some unit → NextUnit m (rules_of definitions) (units_of definitions) (take k (units_of definitions)) unit
    next e k unit at = next_unit m (rules_of definitions) (units_of definitions) (take k (units_of definitions)) unit (units_at m (rules_of definitions) (units_of definitions) [] definitions e k unit at)
