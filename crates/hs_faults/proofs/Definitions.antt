-- The rules of a text, definition by definition.
use Rattle.std.proofs.Common.{ℕ, ◌+◌, ◌<◌, ◌≡◌, List, [], ◌∷◌, ◌++◌, drop, take, get_or, length, Result, Ok, ap, subst, sym, ◌∙◌, refl}
use Rattle.std.proofs.lemmas.Grind.{flat_map-append}
use Rattle.std.proofs.lemmas.List.{append-nil, drop_more, take_more}
use Rattle.std.specs.List.{flat_map}
use Rattle.hs_expr.specs.declared.failure.Failure.{Failure}
use Rattle.hs_expr.specs.Steps.{Fails}
use Rattle.hs_expr.specs.Verdict.{verdict}
use Rattle.hs_expr.proofs.Verdicts.{verdict-append-ok}
use Rattle.hs_text.specs.declared.syntax.Definition.{Definition}
use Rattle.hs_text.specs.declared.syntax.Rule.{Rule}
use Rattle.hs_text.specs.declared.syntax.Unit.{Unit as WrittenUnit}
use Rattle.hs_types.specs.declared.meta.Metamodel.{Metamodel}
use Rattle.hs_faults.specs.declared.fault.RuleFault.{RuleFault}
use Rattle.hs_faults.proofs.Failures.{fails_in_front}
use Rattle.hs_faults.specs.Faults.{rule_faults_after, faults_of_definition, as_rule}
use Rattle.hs_faults.specs.UnitFaults.{unit_faults_after, unit_faults_of_definition, as_unit}

-- The rules up to definition i, and after it.
pub rules_more : (definitions : List Definition) (i : ℕ) (d : Definition) → i < length definitions → get_or definitions i d ≡ d →
    flat_map as_rule (take (i + 1) definitions) ≡ flat_map as_rule (take i definitions) ++ as_rule d
rules_more definitions i d h is =
    ap (flat_map as_rule) (take_more definitions i d h ∙ ap (λ y. take i definitions ++ y ∷ []) is)
    ∙ flat_map-append as_rule (take i definitions) (d ∷ [])
    ∙ ap (λ rules. flat_map as_rule (take i definitions) ++ rules) (append-nil (as_rule d))

-- After definition i without fault, the faults of the rest stay.
pub definition_next : (m : Metamodel) (before : List Rule) (definitions : List Definition) (i : ℕ) (d : Definition) (whole : Result (Unit {0}) RuleFault) →
    i < length definitions → get_or definitions i d ≡ d → verdict (rule_faults_after m before (drop i definitions)) ≡ whole →
    verdict (faults_of_definition m before d) ≡ Ok tt → verdict (rule_faults_after m (before ++ as_rule d) (drop (i + 1) definitions)) ≡ whole
definition_next m before definitions i d whole h is rest none =
    sym (verdict-append-ok (faults_of_definition m before d) (rule_faults_after m (before ++ as_rule d) (drop (i + 1) definitions)) none)
    ∙ ap (λ ds. verdict (rule_faults_after m before ds)) (sym (drop_more definitions i d h ∙ ap (λ y. y ∷ drop (i + 1) definitions) is)) ∙ rest

-- The failure at definition i is that of all, where those before have no fault.
pub definition_fails : (m : Metamodel) (before : List Rule) (definitions : List Definition) (i : ℕ) (d : Definition) (failure : Failure RuleFault) (whole : Result (Unit {0}) RuleFault) →
    i < length definitions → get_or definitions i d ≡ d → verdict (rule_faults_after m before (drop i definitions)) ≡ whole →
    Fails failure (verdict (faults_of_definition m before d)) → Fails failure whole
definition_fails m before definitions i d failure whole h is rest e =
    subst (λ reported. Fails failure reported)
    (ap (λ ds. verdict (rule_faults_after m before ds)) (sym (drop_more definitions i d h ∙ ap (λ y. y ∷ drop (i + 1) definitions) is)) ∙ rest)
    (fails_in_front failure (faults_of_definition m before d) (rule_faults_after m (before ++ as_rule d) (drop (i + 1) definitions)) e)

-- The units up to definition i, and after it.
pub units_more : (definitions : List Definition) (i : ℕ) (d : Definition) → i < length definitions → get_or definitions i d ≡ d →
    flat_map as_unit (take (i + 1) definitions) ≡ flat_map as_unit (take i definitions) ++ as_unit d
units_more definitions i d h is =
    ap (flat_map as_unit) (take_more definitions i d h ∙ ap (λ y. take i definitions ++ y ∷ []) is)
    ∙ flat_map-append as_unit (take i definitions) (d ∷ [])
    ∙ ap (λ units. flat_map as_unit (take i definitions) ++ units) (append-nil (as_unit d))

-- After definition i without fault, the faults of the other units stay.
pub unit_next : (m : Metamodel) (rules : List Rule) (units before : List WrittenUnit) (definitions : List Definition) (i : ℕ) (d : Definition) (whole : Result (Unit {0}) RuleFault) →
    i < length definitions → get_or definitions i d ≡ d → verdict (unit_faults_after m rules units before (drop i definitions)) ≡ whole →
    verdict (unit_faults_of_definition m rules units before d) ≡ Ok tt → verdict (unit_faults_after m rules units (before ++ as_unit d) (drop (i + 1) definitions)) ≡ whole
unit_next m rules units before definitions i d whole h is rest none =
    sym (verdict-append-ok (unit_faults_of_definition m rules units before d) (unit_faults_after m rules units (before ++ as_unit d) (drop (i + 1) definitions)) none)
    ∙ ap (λ ds. verdict (unit_faults_after m rules units before ds)) (sym (drop_more definitions i d h ∙ ap (λ y. y ∷ drop (i + 1) definitions) is)) ∙ rest
