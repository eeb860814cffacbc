-- Serial reports: what one worker gives that takes the requests in order and the least match each
-- time.
use Rattle.std.specs.Prelude.{◌<◌, ◌≤◌, ◌≡◌, ◌⊎◌, List, IfSome}
use Rattle.std.specs.List.{All}
use Rattle.hs_expr.specs.Lists.{EachPair}
use Rattle.hs_types.specs.declared.entry.Entry.{Entry}
use Rattle.hs_types.specs.declared.entry.Outcome.{Outcome}
use Rattle.hs_types.specs.declared.entry.Outcome.TheVariants.{Applied, Missed}
use Rattle.hs_types.specs.declared.graph.Graph.{Graph}
use Rattle.hs_types.specs.declared.meta.Metamodel.{Metamodel}
use Rattle.hs_types.specs.declared.request.Args.{Args}
use Rattle.hs_types.specs.declared.request.Request.{Request}
use Rattle.hs_types.specs.declared.rule.Rule.{Rule}
use Rattle.hs_types.specs.Journal.{match_named, rule_of}
use Rattle.hs_types.specs.Rules.{Rules}
use Rattle.hs_types.specs.ValidMatch.{IsLeast}
use Rattle.hs_session.specs.declared.report.Reply.{Reply}
use Rattle.hs_session.specs.declared.report.Report.{Report}
use Rattle.hs_session.specs.declared.report.Word.TheVariants as word
use Rattle.hs_session.specs.LawfulReport.{IsLawfulReport}
use Rattle.hs_session.specs.Standing.{Made, Standing, made_in, standing}

-- One entry's request doesn't come after another's.
abbrev pub NotAfter : Entry → Entry → Type 0
NotAfter a b = (a.session < b.session) ⊎ ((a.session ≡ b.session) × (a.request ≤ b.request))

-- Where an attempt was applied, no valid match is earlier than the one that it names.
abbrev pub IsLeastOutcome : Metamodel → Graph → Rule → Args → Outcome → Type 0
IsLeastOutcome m g rule args (Applied found new old gone) =
    IfSome (match_named g found) (IsLeast m g rule args)
IsLeastOutcome m g rule args Missed = Unit {0}

abbrev pub IsLeastTry : Rules → Made → Type 0
IsLeastTry rules made =
    IfSome (rule_of rules made.tried)
    (λ rule. IsLeastOutcome rules.meta made.graph rule made.tried.args made.tried.outcome)

-- The same of each attempt in an entry.
abbrev pub AreLeast : Rules → Standing → Type 0
AreLeast rules s = All (IsLeastTry rules) (made_in rules s)

-- A lawful report whose entries are in the order of their requests, each applied at the least match
-- in the graph at its place.
pub record IsSerialReport (rules : Rules) (opening : Graph) (sessions : List (List Request))
    (report : Report) : Type 0 where
  pub lawful : IsLawfulReport rules opening sessions report
  pub in_order : EachPair NotAfter report.journal
  pub least : All (AreLeast rules) (standing rules opening report.journal)

-- The request was served to its end.
abbrev pub IsDecided : Reply → Type 0
IsDecided reply = (reply.word ≡ word.Memory → ⊥) × (reply.word ≡ word.Full → ⊥)
