use Rattle.std.proofs.Common.{◌≡◌, drop, map, take}
use Rattle.std.specs.List.{flat_map}
use Rattle.hs_expr.specs.Verdict.{verdict}
use Rattle.hs_faults.specs.Contents.{rule_contents}
use Rattle.hs_faults.specs.Faults.{rule_faults_after, faults_of_rules, as_rule}
use Rattle.hs_faults.specs.Named.{Knows}
use Rattle.hs_faults.proofs.rules.check_definitions.Given as goal

abbrev pub invariant-loop-definition : goal.invariant-loop-definition
invariant-loop-definition l = record {
  known : Knows (λ other. other.name) l.known (flat_map as_rule (take l.definition-index l.definitions));
  made : l.rules ≡ map (rule_contents l.meta) (flat_map as_rule (take l.definition-index l.definitions));
  rest : verdict (rule_faults_after l.meta (flat_map as_rule (take l.definition-index l.definitions)) (drop l.definition-index l.definitions)) ≡ verdict (faults_of_rules l.meta l.definitions);
}
