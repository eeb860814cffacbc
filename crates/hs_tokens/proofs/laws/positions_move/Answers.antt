use Rattle.hs_tokens.proofs.Positions.{after-moves}
use Rattle.hs_tokens.proofs.laws.positions_move.Goals as goal

pub returns : goal.returns
returns c = λ p cs. (after-moves p cs).index
