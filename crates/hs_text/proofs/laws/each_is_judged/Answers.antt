use Rattle.hs_text.proofs.Judged.{judged}
use Rattle.hs_text.proofs.laws.each_is_judged.Goals as goal

pub returns : goal.returns
returns c = judged
