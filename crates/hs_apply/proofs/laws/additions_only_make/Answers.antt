use Rattle.hs_apply.proofs.Additions.{additions-only_make}
use Rattle.hs_apply.proofs.laws.additions_only_make.Goals as goal

pub returns : goal.returns
returns c = additions-only_make
