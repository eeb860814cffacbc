-- How a run of the program ends, and what it leaves in the sink.
use Rattle.std.specs.Prelude.{ℕ, ◌≡◌, List, ◌++◌, Option, IfSome}
use Rattle.std.specs.Io.KnownBytes.{Appends}
use Rattle.hs_session.specs.declared.report.Report.{Report}
use Rattle.henshin.specs.declared.status.Status.{Status}
use Rattle.henshin.specs.declared.status.Status.TheVariants as status
use Rattle.henshin.specs.declared.words.Command.{Command}
use Rattle.henshin.specs.Served.{IsOutput}

-- The run came to its writing.
abbrev pub IsWritten : Status → Type 0
IsWritten status.Done = Unit {0}
IsWritten status.WriteFault = Unit {0}
IsWritten status.Usage = ⊥
IsWritten status.ReadFault = ⊥
IsWritten status.TooLong = ⊥
IsWritten (status.Refused refusal) = ⊥
IsWritten status.NoMemory = ⊥

-- The source was read to its end.
abbrev pub IsReadToEnd : Status → Type 0
IsReadToEnd status.Done = Unit {0}
IsReadToEnd status.WriteFault = Unit {0}
IsReadToEnd (status.Refused refusal) = Unit {0}
IsReadToEnd status.Usage = ⊥
IsReadToEnd status.ReadFault = ⊥
IsReadToEnd status.TooLong = ⊥
IsReadToEnd status.NoMemory = ⊥

-- The sink gained a prefix of the text.
abbrev pub GainsFront : List ℕ → Option (List ℕ) → Option (List ℕ) → Type 0
GainsFront text old new = (front rest : List ℕ) × (text ≡ front ++ rest) × Appends old new front

-- After a complete run the sink gained the text, after a write fault a prefix of it.
abbrev pub Writes : Status → List ℕ → Option (List ℕ) → Option (List ℕ) → Type 0
Writes status.Done text old new = Appends old new text
Writes status.WriteFault text old new = GainsFront text old new
Writes _ text old new = ⊥

-- A run that began to write: the bytes are those that the source had left, where it reports them;
-- report and text are what the command gives for them; and the text was written.
pub record IsRun (command : Command) (ending : Status) (report : Option Report)
    (left old new : Option (List ℕ)) : Type 0 where
  pub bytes : List ℕ
  pub text : List ℕ
  pub all_that_was_left : IfSome left (λ reported. reported ≡ bytes)
  pub gives : IsOutput command bytes report text
  pub is_written : Writes ending text old new
