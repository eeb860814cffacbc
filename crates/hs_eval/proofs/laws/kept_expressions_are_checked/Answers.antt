use Rattle.hs_eval.specs.Checking.{check_tree}
use Rattle.hs_eval.proofs.CheckedOf.{kept-checked}
use Rattle.hs_eval.proofs.laws.kept_expressions_are_checked.Goals as goal

pub returns : goal.returns
returns c = λ names tree. kept-checked (check_tree names tree)
