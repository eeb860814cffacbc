use Rattle.hs_check.proofs.Counts.{keep_all}
use Rattle.hs_check.proofs.laws.nothing_is_left_out.Goals as goal

pub returns : goal.returns
returns c = keep_all
