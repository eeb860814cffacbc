use Rattle.std.proofs.Common.{[], subst}
use Rattle.std.proofs.lemmas.List.Elements.{All-head}
use Rattle.std.specs.List.{All}
use Rattle.hs_laws.specs.Bank.{opens}
use Rattle.hs_session.specs.Requests.{IsAsked}
use Rattle.hs_session.proofs.examples.reports_tried.Goals as goal

pub returns-clause-not_asked : goal.returns-clause-not_asked
returns-clause-not_asked c = λ report e r. All-head (IsAsked []) opens [] (subst (All (IsAsked [])) e r.all_were_asked)
