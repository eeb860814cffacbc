-- What is found among the signatures of a text is what a call names.
use Rattle.std.proofs.Common.{ℕ, ◌≡◌, ◌∷◌, [], List, Bool, true, false, cond, Option, Some, None, refl, ap, ◌∙◌, Bor}
use Rattle.std.proofs.lemmas.List.Folds.{find-append}
use Rattle.std.specs.List.{flat_map}
use Rattle.std.specs.Option.{option_copied, option_map, option_or}
use Rattle.hs_text.specs.declared.syntax.Definition.{Definition}
use Rattle.hs_text.specs.declared.syntax.Definition.TheVariants as definition
use Rattle.hs_text.specs.declared.syntax.Rule.{Rule}
use Rattle.hs_text.specs.declared.syntax.Unit.{Unit as WrittenUnit}
use Rattle.hs_expr.specs.Lists.{same_text}
use Rattle.hs_faults.specs.Named.{first_named}
use Rattle.hs_faults.specs.NamedParams.{NamedParams, all_params, named_params, rule_params, unit_params}
use Rattle.hs_faults.specs.UnitFaults.{callee_params, first_rule, rules_of, first_unit, units_of}

abbrev of_rule : Rule → NamedParams
of_rule rule = named_params rule.name rule.params

abbrev of_unit : WrittenUnit → NamedParams
of_unit unit = named_params unit.name unit.params

-- Where an item is found or not, what is made of it is found or not.
one_found : {A B : Type 0} (make : A → B) (here : Bool) (item : A) (later : Option A) (made : Option B) →
    made ≡ option_map make later → cond here (Some (make item)) made ≡ option_map make (cond here (Some item) later)
one_found make true item later made e = refl
one_found make false item later made e = e

rules_found : (definitions : List Definition) (name : List ℕ) →
    first_named (λ other. other.name) (flat_map rule_params definitions) name ≡ option_map of_rule (first_rule (rules_of definitions) name)
rules_found [] name = refl
rules_found (definition.Unit unit ∷ definitions) name = rules_found definitions name
rules_found (definition.Rule rule ∷ definitions) name =
    one_found of_rule (same_text name rule.name.text) rule (first_rule (rules_of definitions) name) (first_named (λ other. other.name) (flat_map rule_params definitions) name) (rules_found definitions name)

units_found : (definitions : List Definition) (name : List ℕ) →
    first_named (λ other. other.name) (flat_map unit_params definitions) name ≡ option_map of_unit (first_unit (units_of definitions) name)
units_found [] name = refl
units_found (definition.Rule rule ∷ definitions) name = units_found definitions name
units_found (definition.Unit unit ∷ definitions) name =
    one_found of_unit (same_text name unit.name.text) unit (first_unit (units_of definitions) name) (first_named (λ other. other.name) (flat_map unit_params definitions) name) (units_found definitions name)

found : (definitions : List Definition) (name : List ℕ) →
    first_named (λ other. other.name) (all_params definitions) name ≡ option_or (option_map of_rule (first_rule (rules_of definitions) name)) (option_map of_unit (first_unit (units_of definitions) name))
found definitions name =
    find-append (λ other. same_text name other.name.text) (flat_map rule_params definitions) (flat_map unit_params definitions)
    ∙ ap (λ front. option_or front (first_named (λ other. other.name) (flat_map unit_params definitions) name)) (rules_found definitions name)
    ∙ ap (λ back. option_or (option_map of_rule (first_rule (rules_of definitions) name)) back) (units_found definitions name)

params_of : (rule : Option Rule) (unit : Option WrittenUnit) →
    option_map (λ signature. signature.params) (option_or (option_map of_rule rule) (option_map of_unit unit))
    ≡ option_or (option_map (λ one. one.params) rule) (option_map (λ one. one.params) unit)
params_of (Some rule) unit = refl
params_of None (Some unit) = refl
params_of None None = refl

copied_params : (lent : Option (Bor NamedParams)) → option_map (λ signature. signature.now.params) lent ≡ option_map (λ signature. signature.params) (option_copied lent)
copied_params None = refl
copied_params (Some signature) = refl

-- What is found has the parameters of what is called.
pub callee_found : (definitions : List Definition) (name : List ℕ) (lent : Option (Bor NamedParams)) →
    option_copied lent ≡ first_named (λ other. other.name) (all_params definitions) name →
    option_map (λ signature. signature.now.params) lent ≡ callee_params (rules_of definitions) (units_of definitions) name
callee_found definitions name lent e =
    copied_params lent ∙ ap (option_map (λ signature. signature.params)) (e ∙ found definitions name)
    ∙ params_of (first_rule (rules_of definitions) name) (first_unit (units_of definitions) name)
