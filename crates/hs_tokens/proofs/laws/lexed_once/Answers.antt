use Rattle.hs_tokens.proofs.Lexed.{lexed-once}
use Rattle.hs_tokens.proofs.laws.lexed_once.Goals as goal

pub returns : goal.returns
returns c = λ p cs ts us e g l k. lexed-once l us g k
