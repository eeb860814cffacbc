use Rattle.hs_session.proofs.Unique.{one_report}
use Rattle.hs_session.proofs.laws.serial_reports_are_one.Goals as goal

pub returns : goal.returns
returns c = λ rules opening sessions a b formed typed. one_report rules opening sessions a b (record {
  formed = formed;
  typed = typed;
  one_least = c.least_is_unique.ensures.least;
  tries_typed = c.attempts_stay_typed.ensures.attempts;
  entries_typed = c.attempts_stay_typed.ensures.entries;
})
