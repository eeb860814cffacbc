-- The faults of a rule, check by check.
use Rattle.std.proofs.Common.{◌≡◌, ◌&&◌, ◌++◌, List, [], not, Result, Ok, subst}
use Rattle.std.specs.List.{list_all}
use Rattle.hs_expr.specs.declared.failure.Failure.{Failure}
use Rattle.hs_expr.specs.Steps.{Gives}
use Rattle.hs_expr.specs.Verdict.{fault_if, verdict}
use Rattle.hs_text.specs.declared.syntax.Rule.{Rule}
use Rattle.hs_types.specs.declared.meta.Metamodel.{Metamodel}
use Rattle.hs_faults.specs.declared.fault.RuleFault.{RuleFault}
use Rattle.hs_faults.specs.declared.fault.RuleFaultKind.TheVariants as kind
use Rattle.hs_faults.specs.declared.nodes.DeclaredNode.{DeclaredNode}
use Rattle.hs_faults.specs.Declarations.{faults_of_nodes, faults_of_params}
use Rattle.hs_faults.specs.Depths.{is_flat}
use Rattle.hs_faults.specs.Faults.{faults_in_rule}
use Rattle.hs_faults.specs.Nodes.{declared_nodes}
use Rattle.hs_faults.specs.Numbers.{data_params}
use Rattle.hs_faults.specs.ParamNodes.{param_node_faults}
use Rattle.hs_faults.specs.Places.{fault_at}
use Rattle.hs_faults.specs.Sizes.{blocks, sizes_fit}
use Rattle.hs_faults.specs.StatementFaults.{statement_faults}
use Rattle.hs_faults.specs.Statements.{statements}
use Rattle.hs_faults.proofs.Failures.{given_behind}

-- The fault of the sizes, where the rule declares these nodes.
abbrev pub size_faults_with : Metamodel → Rule → List DeclaredNode → List RuleFault
size_faults_with m rule nodes = fault_if (not (sizes_fit rule.params (blocks rule.items) nodes (statements rule.items) && list_all (is_flat m (data_params rule.params) nodes) (statements rule.items))) (fault_at rule.name.span kind.Limit)

-- Where the checks before find nothing, the answer on the sizes is the answer on the rule.
pub by_sizes : (m : Metamodel) (rule : Rule) (nodes : List DeclaredNode) (answer : Result (Unit {0}) (Failure RuleFault)) → nodes ≡ declared_nodes rule.items →
    verdict (faults_of_params m rule.params) ≡ Ok tt → verdict (faults_of_nodes m nodes) ≡ Ok tt → verdict (param_node_faults nodes rule.params) ≡ Ok tt → verdict (statement_faults m (data_params rule.params) nodes [] (statements rule.items)) ≡ Ok tt →
    Gives answer (verdict (size_faults_with m rule nodes)) → Gives answer (verdict (faults_in_rule m rule))
by_sizes m rule nodes answer same params declared joined said sizes =
    subst (λ (ns : List DeclaredNode). Gives answer (verdict (faults_of_params m rule.params ++ (faults_of_nodes m ns ++ (param_node_faults ns rule.params ++ (statement_faults m (data_params rule.params) ns [] (statements rule.items) ++ size_faults_with m rule ns)))))) same
    (given_behind answer (faults_of_params m rule.params) _ params
    (given_behind answer (faults_of_nodes m nodes) _ declared
    (given_behind answer (param_node_faults nodes rule.params) _ joined
    (given_behind answer (statement_faults m (data_params rule.params) nodes [] (statements rule.items)) _ said sizes))))
