use Rattle.hs_session.proofs.Written.{written_lawful}
use Rattle.hs_session.proofs.laws.lawful_reports_replay.Goals as goal

pub returns : goal.returns
returns c = λ rules opening sessions report lawful. written_lawful rules opening report.journal lawful.lawful
