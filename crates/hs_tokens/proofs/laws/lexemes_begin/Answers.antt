use Rattle.hs_tokens.proofs.Longest.{letter-lexeme, digit-lexeme, quote-lexeme}
use Rattle.hs_tokens.proofs.laws.lexemes_begin.Goals as goal

pub returns-clause-letter : goal.returns-clause-letter
returns-clause-letter c = letter-lexeme

pub returns-clause-digit : goal.returns-clause-digit
returns-clause-digit c = digit-lexeme

pub returns-clause-quote : goal.returns-clause-quote
returns-clause-quote c = quote-lexeme
