-- What a rule declares and states, its expressions by numbers.
use Rattle.std.specs.Prelude.{List, map, Option, None, Result, Ok, Err}
use Rattle.hs_expr.specs.declared.Expr.{Expr}
use Rattle.hs_eval.specs.declared.checked.Checked.{Checked}
use Rattle.hs_text.specs.declared.syntax.Rule.{Rule}
use Rattle.hs_types.specs.declared.meta.Metamodel.{Metamodel}
use Rattle.hs_faults.specs.declared.data_parameters.DataParam.{DataParam}
use Rattle.hs_faults.specs.declared.fault.RuleFault.{RuleFault}
use Rattle.hs_faults.specs.declared.nodes.DeclaredNode.{DeclaredNode}
use Rattle.hs_faults.specs.declared.statements.CheckedStatement.{CheckedStatement}
use Rattle.hs_faults.specs.Nodes.{declared_nodes}
use Rattle.hs_faults.specs.Numbers.{data_params}
use Rattle.hs_faults.specs.StatementFaults.{expr_checked, rule_scope}
use Rattle.hs_faults.specs.Statements.{Statement, Edge, Set, Where, statements}

-- The expression by numbers, where it has no fault and nests at most 32 deep.
abbrev pub expr_found : Result Checked RuleFault → Option Expr
expr_found (Ok found) = found.expr
expr_found (Err fault) = None

-- The expression of the statement by numbers; an edge has none.
abbrev pub statement_expr : Metamodel → List DataParam → List DeclaredNode → Statement → Option Expr
statement_expr m params nodes (Edge block mark source target reference) = None
statement_expr m params nodes (Set block node attribute value) =
    expr_found (expr_checked (rule_scope m params nodes block) value)
statement_expr m params nodes (Where block word test) =
    expr_found (expr_checked (rule_scope m params nodes block) test)

abbrev pub checked_statement : Metamodel → List DataParam → List DeclaredNode → Statement
    → CheckedStatement
checked_statement m params nodes statement = record {
  statement = statement;
  expr = statement_expr m params nodes statement;
}

abbrev pub checked_statements : Metamodel → List DataParam → List DeclaredNode → List Statement
    → List CheckedStatement
checked_statements m params nodes statements = map (checked_statement m params nodes) statements

-- A rule with what it declares and states: the nodes of the kernel and of all blocks, and the
-- statements about them, each with its expression.
pub record RuleContents : Type 0 where
  pub rule : Rule
  pub nodes : List DeclaredNode
  pub statements : List CheckedStatement

abbrev pub rule_contents : Metamodel → Rule → RuleContents
rule_contents m rule = record {
  rule = rule;
  nodes = declared_nodes rule.items;
  statements =
      checked_statements m (data_params rule.params) (declared_nodes rule.items)
      (statements rule.items);
}
