use Rattle.hs_check.proofs.Resolution.{resolve}
use Rattle.hs_check.proofs.laws.names_are_found.Goals as goal

pub returns : goal.returns
returns c = resolve
