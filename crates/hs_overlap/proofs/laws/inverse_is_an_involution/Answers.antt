use Rattle.hs_overlap.proofs.CanOccur.{inverse_twice}
use Rattle.hs_overlap.proofs.laws.inverse_is_an_involution.Goals as goal

pub returns : goal.returns
returns c = inverse_twice
