-- No line of a report has a float.
use Rattle.std.proofs.Common.{ℕ, ◌≡◌, List, map, false, refl}
use Rattle.serde_json.specs.Data.{string, no_members}
use Rattle.serde_json.specs.Written.{has_float}
use Rattle.hs_types.specs.declared.entry.Entry.{Entry}
use Rattle.hs_types.specs.declared.entry.ExtensionNames.{ExtensionNames}
use Rattle.hs_types.specs.declared.entry.Gone.{Gone}
use Rattle.hs_types.specs.declared.entry.NamedValue.{NamedValue}
use Rattle.hs_types.specs.declared.entry.Outcome.{Outcome}
use Rattle.hs_types.specs.declared.entry.Outcome.TheVariants as outcome
use Rattle.hs_types.specs.declared.entry.Tried.{Tried}
use Rattle.hs_types.specs.declared.entry.What.{What}
use Rattle.hs_types.specs.declared.entry.What.TheVariants as what
use Rattle.hs_types.specs.declared.request.Arg.{Arg}
use Rattle.hs_types.specs.declared.request.Arg.TheVariants as arg
use Rattle.hs_types.specs.declared.request.Args.{Args}
use Rattle.hs_types.specs.declared.request.Outs.{Outs}
use Rattle.hs_types.specs.Rules.{Rules}
use Rattle.hs_session.specs.declared.report.Reply.{Reply}
use Rattle.hs_json_model.specs.Written.{with_members, object_data, list_data, value_data}
use Rattle.henshin.proofs.WithoutFloats.{HaveNone, object_none, list_none, map_none, with_none, value_none}
use Rattle.henshin.specs.ReportText.{number_data, arg_data, args_data, extension_members, extension_data, gone_members, gone_data, values_data, outcome_members, tried_members, what_members, place_members, entry_data, outs_data, reply_members, reply_data}

pub outs_none : (outs : Outs) → has_float (outs_data outs) ≡ false
outs_none outs = object_none (map (λ out. (out.parameter, string out.object)) outs.list) (map_none (λ out. (out.parameter, string out.object)) outs.list (λ out. refl))

pub reply_none : (r : Reply) → has_float (reply_data r) ≡ false
reply_none r = object_none (reply_members r) (outs_none r.outs, (list_none number_data r.places (λ n. refl), (refl, (refl, (refl, tt)))))

pub arg_none : (a : Arg) → has_float (arg_data a) ≡ false
arg_none (arg.Value v) = value_none v
arg_none (arg.Object name) = refl

pub args_none : (args : Args) → has_float (args_data args) ≡ false
args_none args = object_none (map (λ a. (a.name, arg_data a.arg)) args.list) (map_none (λ a. (a.name, arg_data a.arg)) args.list (λ a. arg_none a.arg))

pub extension_none : (x : ExtensionNames) → has_float (extension_data x) ≡ false
extension_none x = object_none (extension_members x) (list_none number_data x.edges (λ n. refl), (list_none string x.nodes (λ n. refl), tt))

values_none : (values : List NamedValue) → has_float (values_data values) ≡ false
values_none values = object_none (map (λ v. (v.attribute, value_data v.value)) values) (map_none (λ v. (v.attribute, value_data v.value)) values (λ v. value_none v.value))

pub gone_none : (o : Gone) → has_float (gone_data o) ≡ false
gone_none o = object_none (gone_members o) (values_none o.values, (refl, (refl, tt)))

pub outcome_none : (o : Outcome) → HaveNone (outcome_members o)
outcome_none outcome.Missed = (refl, tt)
outcome_none (outcome.Applied found new old gone) = (
  refl,
  (
    list_none string found.nodes (λ n. refl),
    (
      list_none number_data found.edges (λ n. refl),
      (
        list_none (list_data extension_data) found.copies (λ xs. list_none extension_data xs extension_none),
        (list_none string new (λ n. refl), (list_none value_data old value_none, (list_none gone_data gone gone_none, tt))),
      ),
    ),
  ),
)

pub tried_none : (rules : Rules) (t : Tried) → HaveNone (tried_members rules t)
tried_none rules t = (args_none t.args, (refl, (refl, outcome_none t.outcome)))

pub what_none : (rules : Rules) (w : What) → HaveNone (what_members rules w)
what_none rules (what.One t) = tried_none rules t
what_none rules (what.Group attempts done) =
    (list_none (λ t. object_data (tried_members rules t)) attempts (λ t. object_none (tried_members rules t) (tried_none rules t)), (refl, tt))

pub entry_none : (rules : Rules) (place : ℕ) (e : Entry) → has_float (entry_data rules place e) ≡ false
entry_none rules place e =
    with_none (with_members no_members (what_members rules e.what)) (place_members place e)
    (with_none no_members (what_members rules e.what) refl (what_none rules e.what)) (refl, (refl, (refl, tt)))
