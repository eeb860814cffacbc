use Rattle.std.proofs.Common.{List, subst}
use Rattle.hs_types.specs.declared.request.Request.{Request}
use Rattle.hs_session.specs.SerialReport.{IsSerialReport}
use Rattle.henshin.proofs.Served.{given_report}
use Rattle.henshin.proofs.serving.applied.Goals as goal

pub returns : goal.returns
returns c = λ bytes held is.
    let serial = subst (λ (sessions : List (List Request)). IsSerialReport c.args.input.rules c.args.input.graph.graph sessions c.in_ok-report.report) c.as_slice.ensures c.in_ok-report.ensures in
    given_report bytes held c.args.input c.in_ok-report.report c.in_ok-text.text is serial c.in_ok-text.ensures
