use Rattle.std.proofs.Common.{sym, subst}
use Rattle.hs_expr.specs.Steps.{Gives, fault_as}
use Rattle.hs_expr.proofs.Answers.{fault_as-gives}
use Rattle.hs_json_model.specs.Meta.{form_fault}
use Rattle.hs_json_model.proofs.meta.as_part.Goals as goal

pub returns : goal.returns
returns g c = λ meant gives.
    subst (λ made. Gives made (fault_as form_fault meant)) (sym (c.fault_as.ensures form_fault (λ fault made h. h)))
    (fault_as-gives form_fault c.args.read meant gives)
