-- The text of a report: a line of compact JSON for each entry, for each reply, and for the graph.
use Rattle.std.specs.Prelude.{ℕ, List, [], ◌∷◌, ◌++◌, map, codes, slice_get}
use Rattle.std.specs.List.{enumerate_from}
use Rattle.std.specs.Option.{option_map, unwrap_or}
use Rattle.serde_json.specs.Data.{Data, boolean, number, unsigned, string, object, no_members}
use Rattle.hs_expr.specs.declared.value.Value.{Value}
use Rattle.hs_types.specs.declared.entry.Entry.{Entry}
use Rattle.hs_types.specs.declared.entry.ExtensionNames.{ExtensionNames}
use Rattle.hs_types.specs.declared.entry.Gone.{Gone}
use Rattle.hs_types.specs.declared.entry.MatchNames.{MatchNames}
use Rattle.hs_types.specs.declared.entry.NamedValue.{NamedValue}
use Rattle.hs_types.specs.declared.entry.Outcome.{Outcome}
use Rattle.hs_types.specs.declared.entry.Outcome.TheVariants as outcome
use Rattle.hs_types.specs.declared.entry.Tried.{Tried}
use Rattle.hs_types.specs.declared.entry.What.{What}
use Rattle.hs_types.specs.declared.entry.What.TheVariants as what
use Rattle.hs_types.specs.declared.request.Arg.{Arg}
use Rattle.hs_types.specs.declared.request.Arg.TheVariants as arg
use Rattle.hs_types.specs.declared.request.Args.{Args}
use Rattle.hs_types.specs.declared.request.Outs.{Outs}
use Rattle.hs_types.specs.Rules.{Rules}
use Rattle.hs_session.specs.declared.report.Reply.{Reply}
use Rattle.hs_session.specs.declared.report.Report.{Report}
use Rattle.hs_session.specs.declared.report.Word.{Word}
use Rattle.hs_session.specs.declared.report.Word.TheVariants as word
use Rattle.hs_json_model.specs.Written.{Member, graph_data, line_of, lines_of, list_data, object_data, value_data, with_members}

abbrev pub number_data : ℕ → Data
number_data n = number (unsigned n)

abbrev pub arg_data : Arg → Data
arg_data (arg.Value v) = value_data v
arg_data (arg.Object name) = string name

abbrev pub args_data : Args → Data
args_data args = object_data (map (λ a. (a.name, arg_data a.arg)) args.list)

-- The name of a rule.
abbrev pub rule_name : Rules → ℕ → List ℕ
rule_name rules n = unwrap_or (option_map (λ rule. rule.name) (slice_get rules.rules n)) []

abbrev pub extension_members : ExtensionNames → List Member
extension_members x =
    (codes "edges", list_data number_data x.edges) ∷ (codes "nodes", list_data string x.nodes) ∷ []

abbrev pub extension_data : ExtensionNames → Data
extension_data x = object_data (extension_members x)

abbrev pub values_data : List NamedValue → Data
values_data values = object_data (map (λ v. (v.attribute, value_data v.value)) values)

abbrev pub gone_members : Gone → List Member
gone_members o =
    (codes "attrs", values_data o.values) ∷ (codes "class", string o.class)
    ∷ (codes "name", string o.name) ∷ []

abbrev pub gone_data : Gone → Data
gone_data o = object_data (gone_members o)

-- Where a rule was applied, and what it created, overwrote and deleted.
abbrev pub match_members : MatchNames → List Member
match_members found =
    (codes "nodes", list_data string found.nodes)
    ∷ (codes "edges", list_data number_data found.edges)
    ∷ (codes "copies", list_data (list_data extension_data) found.copies) ∷ []

abbrev pub change_members : List (List ℕ) → List Value → List Gone → List Member
change_members new old gone =
    (codes "new", list_data string new) ∷ (codes "old", list_data value_data old)
    ∷ (codes "gone", list_data gone_data gone) ∷ []

-- How an attempt went.
abbrev pub outcome_members : Outcome → List Member
outcome_members outcome.Missed = (codes "outcome", string (codes "missed")) ∷ []
outcome_members (outcome.Applied found new old gone) =
    (codes "outcome", string (codes "applied")) ∷ match_members found
    ++ change_members new old gone

abbrev pub tried_members : Rules → Tried → List Member
tried_members rules t =
    (codes "args", args_data t.args) ∷ (codes "attempt", number_data t.attempt)
    ∷ (codes "rule", string (rule_name rules t.rule))
    ∷ outcome_members t.outcome

abbrev pub what_members : Rules → What → List Member
what_members rules (what.One t) = tried_members rules t
what_members rules (what.Group attempts done) =
    (codes "attempts", list_data (λ t. object_data (tried_members rules t)) attempts)
    ∷ (codes "done", boolean done) ∷ []

-- An entry's place, and the request that it belongs to.
abbrev pub place_members : ℕ → Entry → List Member
place_members place e =
    (codes "place", number_data place) ∷ (codes "request", number_data e.request)
    ∷ (codes "session", number_data e.session) ∷ []

abbrev pub entry_data : Rules → ℕ → Entry → Data
entry_data rules place e =
    object (with_members (with_members no_members (what_members rules e.what))
    (place_members place e))

abbrev pub word_text : Word → List ℕ
word_text word.Ok = codes "ok"
word_text word.NoMatch = codes "nomatch"
word_text word.Failed = codes "failed"
word_text word.Fuel = codes "fuel"
word_text word.Full = codes "full"
word_text word.Memory = codes "memory"
word_text word.NoCall = codes "nocall"
word_text word.BadArgs = codes "badargs"

abbrev pub outs_data : Outs → Data
outs_data outs = object_data (map (λ out. (out.parameter, string out.object)) outs.list)

abbrev pub reply_members : Reply → List Member
reply_members r =
    (codes "outs", outs_data r.outs) ∷ (codes "places", list_data number_data r.places)
    ∷ (codes "reply", string (word_text r.word))
    ∷ (codes "request", number_data r.request) ∷ (codes "session", number_data r.session) ∷ []

abbrev pub reply_data : Reply → Data
reply_data r = object_data (reply_members r)

abbrev pub report_text : Rules → Report → List ℕ
report_text rules r =
    lines_of (map (λ e. entry_data rules e.0 e.1) (enumerate_from 0 r.journal))
    ++ lines_of (map reply_data r.replies)
    ++ line_of (graph_data r.graph.meta r.graph.graph)
