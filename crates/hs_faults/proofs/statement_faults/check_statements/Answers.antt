use Rattle.std.proofs.Common.{◌≡◌, ◌∙◌, [], IfOk, List, subst}
use Rattle.std.specs.List.{list_all}
use Rattle.hs_expr.specs.Steps.{GivesWhere}
use Rattle.hs_expr.specs.Verdict.{verdict}
use Rattle.hs_faults.specs.Contents.{checked_statements}
use Rattle.hs_faults.specs.declared.data_parameters.DataParam.{DataParam}
use Rattle.hs_faults.specs.Depths.{is_complete, is_flat}
use Rattle.hs_faults.specs.StatementFaults.{statement_faults}
use Rattle.hs_faults.proofs.statement_faults.check_statements.Goals as goal

pub returns-clause-checked : goal.returns-clause-checked
returns-clause-checked c =
    subst (λ (x : List DataParam). GivesWhere (λ checked. checked ≡ checked_statements c.args.meta.now x c.args.nodes.now c.args.statements.now) c.check_each_statement.result (verdict (statement_faults c.args.meta.now x c.args.nodes.now [] c.args.statements.now)))
    (c.in_ok-index.ensures ∙ c.as_slice.ensures ∙ c.in_ok-given.ensures) c.check_each_statement.ensures.checked

pub returns-clause-depth : goal.returns-clause-depth
returns-clause-depth c =
    subst (λ (x : List DataParam). IfOk c.check_each_statement.result (λ checked. list_all is_complete checked ≡ list_all (is_flat c.args.meta.now x c.args.nodes.now) c.args.statements.now))
    (c.in_ok-index.ensures ∙ c.as_slice.ensures ∙ c.in_ok-given.ensures) c.check_each_statement.ensures.depth
