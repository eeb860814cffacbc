use Rattle.std.proofs.Common.{◌∙◌, sym}
use Rattle.hs_input.proofs.reading.sessions_built.Goals as goal

pub returns-in-None-clause-refused : goal.returns-in-None-clause-refused
returns-in-None-clause-refused c = λ bytes held syntax same_sessions same_journal meant is_read.
    (held, syntax, is_read, rw (← meant.0, ← meant.1, same_sessions, same_journal) (sym c.in_ok-sessions.ensures ∙ c.in-None.is))
