use Rattle.hs_text.proofs.Judged.{one}
use Rattle.hs_text.proofs.laws.one_syntax.Goals as goal

pub returns : goal.returns
returns c = one
