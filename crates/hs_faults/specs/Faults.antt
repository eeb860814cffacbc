-- All faults of rules, in the order in which they are reported: rule by rule, and in each rule
-- check by check.
use Rattle.std.specs.Prelude.{List, [], ◌∷◌, ◌++◌, length, nat_le}
use Rattle.hs_expr.specs.Verdict.{fault_if}
use Rattle.hs_text.specs.declared.syntax.Definition.{Definition}
use Rattle.hs_text.specs.declared.syntax.Definition.TheVariants as definition
use Rattle.hs_text.specs.declared.syntax.Rule.{Rule}
use Rattle.hs_types.specs.declared.meta.Metamodel.{Metamodel}
use Rattle.hs_types.specs.declared.limits.TheConstants.{MAX_RULES}
use Rattle.hs_faults.specs.declared.fault.RuleFault.{RuleFault}
use Rattle.hs_faults.specs.declared.fault.RuleFaultKind.TheVariants as kind
use Rattle.hs_faults.specs.Declarations.{faults_of_nodes, faults_of_params, is_again}
use Rattle.hs_faults.specs.Sizes.{size_faults}
use Rattle.hs_faults.specs.Nodes.{declared_nodes}
use Rattle.hs_faults.specs.Numbers.{data_params}
use Rattle.hs_faults.specs.Places.{fault_at}
use Rattle.hs_faults.specs.ParamNodes.{param_node_faults}
use Rattle.hs_faults.specs.Statements.{statements}
use Rattle.hs_faults.specs.StatementFaults.{statement_faults}

-- All faults of the contents of a rule, check by check.
abbrev pub faults_in_rule : Metamodel → Rule → List RuleFault
faults_in_rule m rule =
    faults_of_params m rule.params
    ++ (faults_of_nodes m (declared_nodes rule.items)
    ++ (param_node_faults (declared_nodes rule.items) rule.params
    ++ (statement_faults m (data_params rule.params) (declared_nodes rule.items) []
    (statements rule.items)
    ++ size_faults m rule)))

-- A rule after those before it: there are at most 64, and each has a name of its own.
abbrev pub faults_of_rule : Metamodel → List Rule → Rule → List RuleFault
faults_of_rule m before rule =
    fault_if (nat_le MAX_RULES (length before)) (fault_at rule.name.span kind.Limit)
    ++ (fault_if (is_again (λ other. other.name) before rule.name)
    (fault_at rule.name.span kind.Twice)
    ++ faults_in_rule m rule)

abbrev pub faults_of_definition : Metamodel → List Rule → Definition → List RuleFault
faults_of_definition m before (definition.Rule rule) = faults_of_rule m before rule
faults_of_definition m before (definition.Unit unit) = []

-- The rule that a definition is, if it is one.
abbrev pub as_rule : Definition → List Rule
as_rule (definition.Rule rule) = rule ∷ []
as_rule (definition.Unit unit) = []

-- The faults of the rules among these definitions, after the rules before.
abbrev pub rule_faults_after : Metamodel → List Rule → List Definition → List RuleFault
rule_faults_after m before [] = []
rule_faults_after m before (definition ∷ definitions) =
    faults_of_definition m before definition
    ++ rule_faults_after m (before ++ as_rule definition) definitions

-- The faults of all rules of a text.
abbrev pub faults_of_rules : Metamodel → List Definition → List RuleFault
faults_of_rules m definitions = rule_faults_after m [] definitions
