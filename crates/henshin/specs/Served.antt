-- What a command gives for bytes: its report, if it has one, and the text that it writes.
use Rattle.std.specs.Prelude.{ℕ, ◌≡◌, List, Option, Some, None}
use Rattle.hs_text.specs.declared.syntax.Syntax.{Syntax}
use Rattle.hs_text.specs.Canonical.{canonical_text}
use Rattle.hs_types.specs.declared.request.Request.{Request}
use Rattle.hs_types.specs.Rules.{Rules}
use Rattle.hs_json.specs.Problems.{problems_text}
use Rattle.hs_json.specs.Reading.{Contents}
use Rattle.hs_check.specs.Meaning.{IsMeant}
use Rattle.hs_input.specs.Input.{IsBuilt}
use Rattle.hs_session.specs.declared.report.Report.{Report}
use Rattle.hs_session.specs.SerialReport.{IsSerialReport}
use Rattle.henshin.specs.declared.words.Command.{Command}
use Rattle.henshin.specs.declared.words.Command.TheVariants.{Apply, Validate, Check}
use Rattle.henshin.specs.ReportText.{report_text}

-- The report is the serial report of the requests that the bytes ask for, over the rules and units
-- that their text means.
pub record IsServed (bytes : List ℕ) (rules : Rules) (report : Report) : Type 0 where
  pub held : Contents
  pub syntax : Syntax
  pub sessions : List (List Request)
  pub is_built : IsBuilt bytes held syntax sessions
  pub is_meant : IsMeant held.meta syntax.definitions rules
  pub same_model : rules.meta ≡ held.meta
  pub is_serial : IsSerialReport rules held.graph sessions report

-- `apply` gives the serial report and its text, `validate` the problems of the graph, `check` the
-- canonical text of the rules.
abbrev pub IsOutput : Command → List ℕ → Option Report → List ℕ → Type 0
IsOutput Apply bytes report text =
    (rules : Rules) × (served : Report) × (report ≡ Some served) × IsServed bytes rules served
    × (text ≡ report_text rules served)
IsOutput Validate bytes report text =
    (held : Contents) × (syntax : Syntax) × (sessions : List (List Request)) × (report ≡ None)
    × IsBuilt bytes held syntax sessions × (text ≡ problems_text held.meta held.graph)
IsOutput Check bytes report text =
    (held : Contents) × (syntax : Syntax) × (sessions : List (List Request)) × (report ≡ None)
    × IsBuilt bytes held syntax sessions × (text ≡ canonical_text syntax.definitions)
