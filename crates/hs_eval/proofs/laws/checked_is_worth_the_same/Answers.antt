use Rattle.hs_eval.proofs.Resolved.{same-value}
use Rattle.hs_eval.proofs.laws.checked_is_worth_the_same.Goals as goal

pub returns : goal.returns
returns c = same-value
