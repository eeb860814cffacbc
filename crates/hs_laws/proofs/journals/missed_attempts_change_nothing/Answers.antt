use Rattle.hs_laws.proofs.Lawful.{after_try-missed}
use Rattle.hs_laws.proofs.journals.missed_attempts_change_nothing.Goals as goal

pub returns : goal.returns
returns c = after_try-missed
