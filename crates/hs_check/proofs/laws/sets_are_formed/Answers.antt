use Rattle.hs_check.proofs.SetForms.{sets_formed}
use Rattle.hs_check.proofs.laws.sets_are_formed.Goals as goal

pub returns : goal.returns
returns c = sets_formed
