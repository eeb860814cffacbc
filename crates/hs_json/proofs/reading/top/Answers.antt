use Rattle.std.proofs.Common.{sym, subst}
use Rattle.serde_json.specs.View.{view}
use Rattle.hs_expr.specs.Steps.{GivesBy, fault_as}
use Rattle.hs_expr.proofs.Answers.{fault_as-gives_by}
use Rattle.hs_json.specs.declared.fault.BundleFault.TheVariants.{BadBundle}
use Rattle.hs_json.specs.Reading.{top_of}
use Rattle.hs_json.proofs.reading.top.Goals as goal

pub returns : goal.returns
returns c =
    subst (λ made. GivesBy (λ t. (view t.0.now, t.1)) made (fault_as BadBundle (top_of (view c.args.value.now)))) (sym (c.fault_as.ensures BadBundle (λ fault made h. h)))
    (fault_as-gives_by (λ t. (view t.0.now, t.1)) BadBundle c.top_form.result (top_of (view c.args.value.now)) c.top_form.ensures)
