use Rattle.hs_text.proofs.Marks.{LexemesBegin}
use Rattle.hs_text.proofs.ReadBack.{printed-reads, printed-same, printed-again}
use Rattle.hs_text.proofs.laws.printed_is_read_back.Goals as goal

pub returns-clause-reads : goal.returns-clause-reads
returns-clause-reads c =
    let begin : LexemesBegin = record { letter = c.lexemes_begin.ensures.letter; digit = c.lexemes_begin.ensures.digit; quote = c.lexemes_begin.ensures.quote } in
    printed-reads begin c.positions_move.ensures

pub returns-clause-same : goal.returns-clause-same
returns-clause-same c =
    let begin : LexemesBegin = record { letter = c.lexemes_begin.ensures.letter; digit = c.lexemes_begin.ensures.digit; quote = c.lexemes_begin.ensures.quote } in
    printed-same begin c.positions_move.ensures c.lexed_once.ensures

pub returns-clause-again : goal.returns-clause-again
returns-clause-again c =
    let begin : LexemesBegin = record { letter = c.lexemes_begin.ensures.letter; digit = c.lexemes_begin.ensures.digit; quote = c.lexemes_begin.ensures.quote } in
    printed-again begin c.positions_move.ensures c.lexed_once.ensures
