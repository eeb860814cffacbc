use Rattle.hs_tokens.proofs.Lexed.{lexed}
use Rattle.hs_tokens.proofs.laws.each_is_lexed.Goals as goal

pub returns : goal.returns
returns c = lexed
