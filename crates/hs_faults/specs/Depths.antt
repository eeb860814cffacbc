-- How deep the expressions of statements nest.
use Rattle.std.specs.Prelude.{List, Bool, true, Option, is_some, Result, Ok, Err}
use Rattle.hs_expr.specs.declared.Expr.{Expr}
use Rattle.hs_eval.specs.declared.checked.Checked.{Checked}
use Rattle.hs_types.specs.declared.meta.Metamodel.{Metamodel}
use Rattle.hs_faults.specs.declared.data_parameters.DataParam.{DataParam}
use Rattle.hs_faults.specs.declared.fault.RuleFault.{RuleFault}
use Rattle.hs_faults.specs.declared.nodes.DeclaredNode.{DeclaredNode}
use Rattle.hs_faults.specs.declared.statements.CheckedStatement.{CheckedStatement}
use Rattle.hs_faults.specs.StatementFaults.{expr_checked, rule_scope}
use Rattle.hs_faults.specs.Statements.{Statement, Edge, Set, Where}

-- The expression nests at most 32 deep, where it has no fault.
abbrev pub nests_few : Result Checked RuleFault → Bool
nests_few (Ok found) = is_some found.expr
nests_few (Err fault) = true

-- The statement's expression nests at most 32 deep.
abbrev pub is_flat : Metamodel → List DataParam → List DeclaredNode → Statement → Bool
is_flat m params nodes (Edge block mark source target reference) = true
is_flat m params nodes (Set block node attribute value) =
    nests_few (expr_checked (rule_scope m params nodes block) value)
is_flat m params nodes (Where block word test) =
    nests_few (expr_checked (rule_scope m params nodes block) test)

-- A set or a condition has its expression.
abbrev pub has_expr : Option Expr → Statement → Bool
has_expr expr (Edge block mark source target reference) = true
has_expr expr (Set block node attribute value) = is_some expr
has_expr expr (Where block word test) = is_some expr

abbrev pub is_complete : CheckedStatement → Bool
is_complete checked = has_expr checked.expr checked.statement
