use Rattle.hs_types.proofs.Paths.{says_reaches}
use Rattle.hs_meta.proofs.laws.below_is_reached.Goals as goal

pub returns : goal.returns
returns c = says_reaches
