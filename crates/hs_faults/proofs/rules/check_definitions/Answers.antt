use Rattle.std.proofs.Common.{◌≡◌, ◌+◌, ◌++◌, List, drop, length, map, take, ap, subst, sym, ◌∙◌}
use Rattle.std.proofs.lemmas.List.{length-map, map-append}
use Rattle.std.specs.List.{flat_map}
use Rattle.hs_expr.specs.Verdict.{verdict}
use Rattle.hs_text.specs.declared.syntax.Rule.{Rule}
use Rattle.hs_faults.proofs.Failures.{handed_on}
use Rattle.hs_faults.proofs.Definitions.{definition_fails, definition_next, rules_more}
use Rattle.hs_faults.specs.Contents.{rule_contents}
use Rattle.hs_faults.specs.Faults.{rule_faults_after, faults_of_rules, as_rule}
use Rattle.hs_faults.specs.Named.{Knows}
use Rattle.hs_faults.specs.UnitFaults.{rules_of}
use Rattle.hs_faults.proofs.rules.check_definitions.Goals as goal

pub loop-definition-preserved : goal.loop-definition-preserved
loop-definition-preserved c =
    let before = flat_map as_rule (take c.loop-definition.definition-index c.args.definitions.now) in
    let more : flat_map as_rule (take (c.loop-definition.definition-index + 1) c.args.definitions.now) ≡ before ++ as_rule c.definition-item.result = rules_more c.args.definitions.now c.loop-definition.definition-index c.definition-item.result c.loop-definition-test.true (sym c.definition-item.is) in
    let count : length c.loop-definition.rules ≡ length before = ap length c.loop-definition.invariant.made ∙ length-map before (rule_contents c.args.meta.now) in
    record {
      known = subst (λ (rules : List Rule). Knows (λ (other : Rule). other.name) c.check_definition.new.known rules) (sym more) (c.in_ok-check_definition.ensures.known before c.loop-definition.invariant.known);
      made = c.in_ok-check_definition.ensures.rules ∙ ap (λ rules. rules ++ map (rule_contents c.args.meta.now) (as_rule c.definition-item.result)) c.loop-definition.invariant.made
          ∙ sym (map-append (rule_contents c.args.meta.now) before (as_rule c.definition-item.result)) ∙ ap (map (rule_contents c.args.meta.now)) (sym more);
      rest = ap (λ (rules : List Rule). verdict (rule_faults_after c.args.meta.now rules (drop (c.loop-definition.definition-index + 1) c.args.definitions.now))) more
          ∙ definition_next c.args.meta.now before c.args.definitions.now c.loop-definition.definition-index c.definition-item.result (verdict (faults_of_rules c.args.meta.now c.args.definitions.now))
          c.loop-definition-test.true (sym c.definition-item.is) c.loop-definition.invariant.rest
          (c.in_ok-check_definition.ensures.fault before c.loop-definition.invariant.known count);
    }

pub returns-in_err-check_definition : goal.returns-in_err-check_definition
returns-in_err-check_definition c =
    let before = flat_map as_rule (take c.loop-definition.definition-index c.args.definitions.now) in
    let count : length c.loop-definition.rules ≡ length before = ap length c.loop-definition.invariant.made ∙ length-map before (rule_contents c.args.meta.now) in
    handed_on (λ rules. rules ≡ map (rule_contents c.args.meta.now) (rules_of c.args.definitions.now)) c.from_residual.result c.in_err-check_definition.field-0.0 (verdict (faults_of_rules c.args.meta.now c.args.definitions.now)) c.from_residual.ensures.1
    (definition_fails c.args.meta.now before c.args.definitions.now c.loop-definition.definition-index c.definition-item.result c.in_err-check_definition.field-0.0 (verdict (faults_of_rules c.args.meta.now c.args.definitions.now))
    c.loop-definition-test.true (sym c.definition-item.is) c.loop-definition.invariant.rest
    (c.in_err-check_definition.ensures.fault before c.loop-definition.invariant.known count))
