use Rattle.hs_eval.proofs.Resolved.{its-kind}
use Rattle.hs_eval.proofs.laws.checked_has_its_kind.Goals as goal

pub returns : goal.returns
returns c = its-kind
