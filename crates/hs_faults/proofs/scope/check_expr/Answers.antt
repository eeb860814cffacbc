use Rattle.hs_expr.proofs.Answers.{fault_as-gives}
use Rattle.hs_faults.specs.StatementFaults.{rule_fault}
use Rattle.hs_faults.proofs.scope.check_expr.Goals as goal

pub returns : goal.returns
returns c = rw (c.fault_as.ensures rule_fault (λ fault made h. h)) (fault_as-gives rule_fault c.check.result _ c.check.ensures)
