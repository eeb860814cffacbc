-- A unit of a text without faults means a unit among what the text means, within the limits.
use Rattle.std.proofs.Common.{◌≤◌, ◌≡◌, List, [], ◌∷◌, true, false, length, Option, Some, None, IsSomeAnd, is_some, refl, ap, sym, ◌∙◌, subst}
use Rattle.std.proofs.lemmas.Bool.{and_parts}
use Rattle.std.proofs.lemmas.List.{length-map}
use Rattle.std.proofs.lemmas.List.Elements.{All-map, All-weaker}
use Rattle.std.specs.List.{All}
use Rattle.std.specs.Option.{option_map_or}
use Rattle.hs_expr.specs.declared.Kind.TheVariants as sort
use Rattle.hs_text.specs.declared.syntax.Body.{Body as WrittenBody}
use Rattle.hs_text.specs.declared.syntax.Body.TheVariants as written_body
use Rattle.hs_text.specs.declared.syntax.Call.{Call as WrittenCall}
use Rattle.hs_text.specs.declared.syntax.Count.{Count as WrittenCount}
use Rattle.hs_text.specs.declared.syntax.Count.TheVariants as written_count
use Rattle.hs_text.specs.declared.syntax.Definition.{Definition}
use Rattle.hs_text.specs.declared.syntax.Param.{Param as WrittenParam}
use Rattle.hs_text.specs.declared.syntax.Unit.{Unit as WrittenUnit}
use Rattle.hs_types.specs.declared.meta.Metamodel.{Metamodel}
use Rattle.hs_types.specs.declared.rule.Direction.TheVariants.{In}
use Rattle.hs_types.specs.declared.rule.Param.{Param}
use Rattle.hs_types.specs.declared.rule.ParamKind.TheVariants.{Data}
use Rattle.hs_types.specs.declared.unit.Call.{Call}
use Rattle.hs_types.specs.Limits.{IsSmallUnit}
use Rattle.hs_types.specs.UnitForm as form
use Rattle.hs_faults.specs.ParamNodes.{is_out}
use Rattle.hs_faults.specs.UnitFaults.{argument_faults, call_faults, callee_params, written_calls, count_faults, is_count, is_data, takes_value, first_param, rules_of, units_of}
use Rattle.hs_check.specs.Parameters.{param_meant, params_meant}
use Rattle.hs_check.specs.Rules.{rules_meant}
use Rattle.hs_check.specs.Units.{body_meant, call_meant, callees, count_meant, unit_meant, units_meant}
use Rattle.hs_check.proofs.Uniqueness.{params_apart}
use Rattle.hs_check.proofs.Callees.{Found, calls_same, found}
use Rattle.hs_check.proofs.Scopes.{in_is}
use Rattle.hs_check.proofs.NoFaults.{yes_test}
use Rattle.hs_check.proofs.NoUnitFaults.{CleanText, CleanUnit, faults_of_count}
use Rattle.hs_check.proofs.Binds.{are_binds, data_is, is_not, named_meant, param_suits}
use Rattle.hs_expr.proofs.Items.{All-from}

-- What a call without faults names is there, and its arguments have no faults.
pub record RightCall (m : Metamodel) (definitions : List Definition) (own : List WrittenParam) (call : WrittenCall) : Type 0 where
  pub callee : Found m definitions call
  pub arguments : argument_faults m own callee.params call ≡ []

-- Where a look-up that finds nothing is a fault, no fault says that something is found, and that it has none.
pub some_callee : {F : Type 0} (fault : F) (finds : List WrittenParam → List F) (o : Option (List WrittenParam)) → option_map_or finds o (fault ∷ []) ≡ [] → is_some o ≡ true
some_callee fault finds None e = cc
some_callee fault finds (Some params) e = refl

of_callee : {F : Type 0} (none : List F) (finds : List WrittenParam → List F) (o : Option (List WrittenParam)) (params : List WrittenParam) → o ≡ Some params → option_map_or finds o none ≡ [] → finds params ≡ []
of_callee none finds o params is e = sym (ap (λ (p : Option (List WrittenParam)). option_map_or finds p none) is) ∙ e

pub right_call : (m : Metamodel) (definitions : List Definition) → CleanText m definitions → (own : List WrittenParam) (call : WrittenCall) → call_faults m (rules_of definitions) (units_of definitions) own call ≡ [] → RightCall m definitions own call
right_call m definitions clean own call e =
    let there = found m definitions clean call (some_callee _ (λ params. argument_faults m own params call) (callee_params (rules_of definitions) (units_of definitions) call.callee.text) e) in
    record {
      callee = there;
      arguments = of_callee _ (λ params. argument_faults m own params call) (callee_params (rules_of definitions) (units_of definitions) call.callee.text) there.params there.named e;
    }

call_formed : (m : Metamodel) (definitions : List Definition) (own : List WrittenParam) (call : WrittenCall) → RightCall m definitions own call → form.CallFits m (rules_meant m definitions) (units_meant m definitions) (params_meant m own) (call_meant (callees definitions) call)
call_formed m definitions own call right =
    subst (λ (o : Option (List Param)). IsSomeAnd o (λ params. form.AreBinds m (params_meant m own) params (call_meant (callees definitions) call).binds)) (sym right.callee.numbered)
    (are_binds m own right.callee.params call right.callee.params_new right.arguments)

count_formed : (m : Metamodel) (own : List WrittenParam) (count : WrittenCount) → count_faults own count ≡ [] → form.CountFits (params_meant m own) (count_meant count)
count_formed m own (written_count.Int n span) e = tt
count_formed m own (written_count.Param name) e =
    named_meant m own name.text is_count (λ (param : Param). (param.direction ≡ In) × (param.kind ≡ Data sort.Int)) counts (yes_test (option_map_or is_count (first_param own name.text) false) _ e)
  where
    counts : (p : WrittenParam) → is_count p ≡ true → ((param_meant m p).direction ≡ In) × ((param_meant m p).kind ≡ Data sort.Int)
    counts p is =
        let parts = and_parts (takes_value p) (is_data sort.Int p) is in
        (in_is p.direction (is_not (is_out p.direction) parts.0), data_is m sort.Int p.kind.text parts.1)

body_formed : (m : Metamodel) (definitions : List Definition) (own : List WrittenParam) (b : WrittenBody) → faults_of_count own b ≡ [] → form.BodyFits (params_meant m own) (body_meant (callees definitions) b)
body_formed m definitions own (written_body.Sequential calls) e = tt
body_formed m definitions own (written_body.Independent calls) e = tt
body_formed m definitions own (written_body.Priority calls) e = tt
body_formed m definitions own (written_body.Conditional test next otherwise) e = tt
body_formed m definitions own (written_body.Loop call) e = tt
body_formed m definitions own (written_body.Iterated count call) e = count_formed m own count e

pub right_calls : (m : Metamodel) (definitions : List Definition) → CleanText m definitions → (unit : WrittenUnit) → CleanUnit m (rules_of definitions) (units_of definitions) unit → All (RightCall m definitions unit.params) (written_calls unit.body)
right_calls m definitions clean unit own = All-weaker (λ (call : WrittenCall). call_faults m (rules_of definitions) (units_of definitions) unit.params call ≡ []) (RightCall m definitions unit.params)
    (right_call m definitions clean unit.params) (written_calls unit.body) own.calls_right

pub unit_formed : (m : Metamodel) (definitions : List Definition) → CleanText m definitions → (unit : WrittenUnit) → CleanUnit m (rules_of definitions) (units_of definitions) unit → form.IsUnit m (rules_meant m definitions) (units_meant m definitions) (unit_meant m (callees definitions) unit)
unit_formed m definitions clean unit own = record {
  params_differ = params_apart m unit.params own.params_new;
  params_fit = All-map (λ (param : Param). form.UnitParamFits m param param.kind) (param_meant m) unit.params
      (All-from (λ (p : WrittenParam). form.UnitParamFits m (param_meant m p) (param_meant m p).kind) unit.params (λ k p at. param_suits m p (own.params_known k p at) (own.data_given k p at)));
  calls_fit = subst (All (form.CallFits m (rules_meant m definitions) (units_meant m definitions) (params_meant m unit.params))) (sym (calls_same (callees definitions) unit.body))
      (All-map (form.CallFits m (rules_meant m definitions) (units_meant m definitions) (params_meant m unit.params)) (call_meant (callees definitions)) (written_calls unit.body)
      (All-weaker (RightCall m definitions unit.params) (λ (call : WrittenCall). form.CallFits m (rules_meant m definitions) (units_meant m definitions) (params_meant m unit.params) (call_meant (callees definitions) call))
      (call_formed m definitions unit.params) (written_calls unit.body) (right_calls m definitions clean unit own)));
  body_fits = body_formed m definitions unit.params unit.body own.count_right;
}

pub small_unit : (m : Metamodel) (definitions : List Definition) (unit : WrittenUnit) → CleanUnit m (rules_of definitions) (units_of definitions) unit → IsSmallUnit (unit_meant m (callees definitions) unit)
small_unit m definitions unit own = record {
  params = subst (λ n. n ≤ 16) (sym (length-map unit.params (param_meant m))) own.few_params;
  calls = subst (λ n. n ≤ 16) (sym (ap (λ (calls : List Call). length calls) (calls_same (callees definitions) unit.body) ∙ length-map (written_calls unit.body) (call_meant (callees definitions)))) own.few_calls;
}
