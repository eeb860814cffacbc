use Rattle.hs_laws.proofs.Lawful.{IsLawful-push, after_journal-push}
use Rattle.hs_laws.proofs.journals.journals_go_on.Goals as goal

pub returns-clause-lawful : goal.returns-clause-lawful
returns-clause-lawful c = IsLawful-push

pub returns-clause-graph : goal.returns-clause-graph
returns-clause-graph c = after_journal-push
