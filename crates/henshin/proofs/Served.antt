-- What follows of an input, for its run.
use Rattle.std.proofs.Common.{ℕ, ◌≡◌, ◌∙◌, List, [], ◌∷◌, Bool, true, false, Option, Some, None, refl, ap, sym, subst, arith}
use Rattle.std.specs.Prelude.{◌&&◌, IfSome, IsSomeAnd, not, slice_get, if◌then◌else◌}
use Rattle.std.specs.Option.{option_and_then, option_map}
use Rattle.serde_json.specs.Data.{Data}
use Rattle.hs_text.specs.Canonical.{canonical_text}
use Rattle.hs_expr.proofs.Items.{All-at, same_text-itself}
use Rattle.hs_types.proofs.Adding.{empty, only_adds-fact}
use Rattle.hs_types.specs.Additions.{is_empty, only_adds}
use Rattle.std.proofs.lemmas.Bool.{and_parts}
use Rattle.hs_types.specs.declared.graph.Graph.{Graph}
use Rattle.hs_types.specs.declared.meta.Metamodel.{Metamodel}
use Rattle.hs_types.specs.declared.request.Request.{Request}
use Rattle.hs_types.specs.declared.rule.PatternEdge.{PatternEdge}
use Rattle.hs_types.specs.declared.rule.PatternNode.{PatternNode}
use Rattle.hs_types.specs.declared.rule.Rule.{Rule}
use Rattle.hs_types.specs.Rules.{Rules}
use Rattle.hs_types.specs.declared.unit.Callee.TheVariants as callee
use Rattle.hs_types.specs.declared.unit.Unit.{Unit as RuleUnit}
use Rattle.hs_types.specs.Limits.{IsSmallRule}
use Rattle.hs_types.specs.Pattern.{is_left}
use Rattle.hs_types.specs.RuleForm.{IsRule}
use Rattle.hs_types.specs.UnitForm.{IsRuleSet}
use Rattle.hs_json.specs.Problems.{problems_text}
use Rattle.hs_json.specs.Reading.{Contents}
use Rattle.hs_json_model.specs.Sound.{IsSound}
use Rattle.hs_input.specs.declared.reading.Input.{Input}
use Rattle.hs_input.specs.declared.refusal.Refusal.{Refusal}
use Rattle.hs_input.specs.Input.{IsInput}
use Rattle.hs_input.specs.Refusing.{Refuses}
use Rattle.hs_input.specs.Sessions.{has_none, is_built_rule, is_called, once, plain_call, rule_called, sessions_asked}
use Rattle.hs_expr.proofs.Lists.{length-filter-le}
use Rattle.hs_types.specs.Arguments.{no_args}
use Rattle.hs_types.specs.Additions.{OnlyAdds}
use Rattle.hs_session.specs.declared.report.Report.{Report}
use Rattle.hs_session.specs.Requests.{callee_named}
use Rattle.hs_session.specs.Runnable.{IsRunnable}
use Rattle.hs_session.specs.SerialReport.{IsSerialReport}
use Rattle.henshin.specs.declared.status.Status.{Status}
use Rattle.henshin.specs.declared.status.Status.TheVariants.{Refused}
use Rattle.henshin.specs.declared.words.Command.TheVariants.{Apply, Validate, Check}
use Rattle.henshin.specs.ReportText.{report_text}
use Rattle.henshin.specs.Served.{IsOutput}

-- ---- a rule that only adds

both_so : (rule : Rule) → is_built_rule rule ≡ true → OnlyAdds rule × (rule.params ≡ [])
both_so rule e =
    let parts = and_parts (only_adds rule) (is_empty rule.params) e in
    (only_adds-fact rule parts.0, empty rule.params parts.1)

runnable : (m : Metamodel) (g : Graph) (rule : Rule) → IsSound m g → IsSmallRule rule → is_built_rule rule ≡ true → IsRunnable g rule
runnable m g rule sound small bare =
    let only = both_so rule bare in
    let few_nodes = small.kernel.few_nodes in
    let few_edges = small.kernel.few_edges in
    record {
      no_params = only.1;
      only_adds = only.0;
      small = omega (arith, length-filter-le (λ (node : PatternNode). is_left node.mark) rule.shape.nodes, length-filter-le (λ (edge : PatternEdge). is_left edge.mark) rule.shape.edges, few_nodes, few_edges);
      room = record {
        objects = omega (arith, sound.is_opening.next_object, sound.few_objects, few_nodes);
        edges = omega (arith, sound.is_opening.next_edge, sound.few_edges, few_edges);
      };
    }

-- ---- the sessions that are asked for

-- The one rule is called, once.
pub record IsOnce (rules : List Rule) (sessions : List (List Request)) : Type 0 where
  pub rule : Rule
  pub is_only : rules ≡ rule ∷ []
  pub is_built : is_built_rule rule ≡ true
  pub are : sessions ≡ once rule

data Asked (rules : List Rule) (sessions : List (List Request)) : Type 0 where
  nothing : sessions ≡ [] → Asked rules sessions
  one_call : IsOnce rules sessions → Asked rules sessions

taken : (rule : Rule) (bare called : Bool) (sessions : List (List Request)) → is_built_rule rule ≡ bare → option_map once (if bare && called then Some rule else None) ≡ Some sessions → IsOnce (rule ∷ []) sessions
taken rule true true sessions bare e = record { rule = rule; is_only = refl; is_built = bare; are = cc }
taken rule true false sessions bare e = absurd (cc)
taken rule false called sessions bare e = absurd (cc)

called : (rules : List Rule) (units : List RuleUnit) (found : Option Data) (sessions : List (List Request)) → option_map once (rule_called rules units found) ≡ Some sessions → IsOnce rules sessions
called [] units found sessions e = absurd (cc)
called (rule ∷ []) [] found sessions e = taken rule (is_built_rule rule) (is_called found rule) sessions refl e
called (rule ∷ []) (unit ∷ units) found sessions e = absurd (cc)
called (rule ∷ other ∷ rules) units found sessions e = absurd (cc)

chosen : (rules : List Rule) (units : List RuleUnit) (found : Option Data) (sessions : List (List Request)) (a b : Bool) →
    (if not a then None else if b then Some [] else option_map once (rule_called rules units found)) ≡ Some sessions → Asked rules sessions
chosen rules units found sessions false b e = absurd (cc)
chosen rules units found sessions true true e = nothing (cc)
chosen rules units found sessions true false e = one_call (called rules units found sessions e)

asked : (rules : List Rule) (units : List RuleUnit) (found journal : Option Data) (sessions : List (List Request)) → sessions_asked rules units found journal ≡ Some sessions → Asked rules sessions
asked rules units found journal sessions e = chosen rules units found sessions (has_none journal) (has_none found) e

-- The first request of the first session.
abbrev first : List (List Request) → Option Request
first sessions = option_and_then (λ session. slice_get session 0) (slice_get sessions 0)

pub no_request : (rules : List Rule) (units : List RuleUnit) (found journal : Option Data) (sessions : List (List Request)) → sessions_asked rules units found journal ≡ Some sessions → None ≡ first sessions → sessions ≡ []
no_request rules units found journal sessions e none = elim (asked rules units found journal sessions e) [
  | nothing is ↦ is
  | one_call call ↦ let some : None ≡ Some (plain_call call.rule.name) = none ∙ ap first call.are in absurd (cc)
]

-- A request is the one of the one session, and calls the one rule.
pub record IsOnly (rules : List Rule) (sessions : List (List Request)) (request : Request) : Type 0 where
  pub rule : Rule
  pub is_only : rules ≡ rule ∷ []
  pub is_built : is_built_rule rule ≡ true
  pub is_plain : request ≡ plain_call rule.name
  pub is_all : sessions ≡ (request ∷ []) ∷ []

pub one_request : (rules : List Rule) (units : List RuleUnit) (found journal : Option Data) (sessions : List (List Request)) (request : Request) → sessions_asked rules units found journal ≡ Some sessions → Some request ≡ first sessions → IsOnly rules sessions request
one_request rules units found journal sessions request e some = elim (asked rules units found journal sessions e) [
  | nothing is ↦ let none : Some request ≡ None = some ∙ ap first is in absurd (cc)
  | one_call call ↦
      let same : Some request ≡ Some (plain_call call.rule.name) = some ∙ ap first call.are in
      let is : request ≡ plain_call call.rule.name = cc in
      record { rule = call.rule; is_only = call.is_only; is_built = call.is_built; is_plain = is; is_all = call.are ∙ ap (λ (r : Request). (r ∷ []) ∷ []) (sym is) }
]

-- It calls the first rule of the set.
pub calls_first : (rules : Rules) (sessions : List (List Request)) (request : Request) → IsOnly rules.rules sessions request → callee_named rules request.call ≡ Some (callee.Rule 0)
calls_first rules sessions request only =
    let call : request.call ≡ only.rule.name = ap (λ (r : Request). r.call) only.is_plain in
    rw (only.is_only, call, same_text-itself only.rule.name) refl

-- It has no arguments.
pub no_arguments : (rules : List Rule) (sessions : List (List Request)) (request : Request) → IsOnly rules sessions request → request.args ≡ no_args
no_arguments rules sessions request only = ap (λ (r : Request). r.args) only.is_plain

-- It isn't grouped.
pub not_grouped : (rules : List Rule) (sessions : List (List Request)) (request : Request) → IsOnly rules sessions request → request.group ≡ false
not_grouped rules sessions request only = ap (λ (r : Request). r.group) only.is_plain

-- It can be run.
pub can_run : (m : Metamodel) (g : Graph) (rules : List Rule) (units : List RuleUnit) (sessions : List (List Request)) (request : Request) → IsOnly rules sessions request → IsSound m g → IsRuleSet m rules units → IsSomeAnd (slice_get rules 0) (IsRunnable g)
can_run m g rules units sessions request only sound set =
    let first : slice_get rules 0 ≡ Some only.rule = ap (λ (rs : List Rule). slice_get rs 0) only.is_only in
    let has = All-at (λ (rule : Rule). IsRule m rule × IsSmallRule rule) rules 0 only.rule set.are_rules first in
    rw first (runnable m g only.rule sound has.1 only.is_built)

-- ---- bytes that were read

-- What is so of the bytes that were read is so of those that were left, where they are reported.
pub refused_left : (left : Option (List ℕ)) (Rest : List ℕ → Type 0) (read : List ℕ) (refusal : Refusal) → IfSome left (λ bytes. (read ≡ bytes) × Rest bytes) → Refuses read refusal → IfSome left (λ bytes. Refuses bytes refusal)
refused_left None Rest read refusal whole why = tt
refused_left (Some bytes) Rest read refusal whole why = subst (λ (bs : List ℕ). Refuses bs refusal) whole.0 why

-- ---- what is given for an input

pub given_problems : (bytes : List ℕ) (held : Contents) (input : Input) (text : List ℕ) → IsInput bytes held input → text ≡ problems_text input.graph.meta input.graph.graph → IsOutput Validate bytes None text
given_problems bytes held input text is told = (held, input.syntax, input.sessions, refl, is.is_built, told ∙ ap (λ (m : Metamodel). problems_text m input.graph.graph) is.same_meta ∙ ap (problems_text held.meta) is.same_graph)

pub given_rules : (bytes : List ℕ) (held : Contents) (input : Input) (text : List ℕ) → IsInput bytes held input → text ≡ canonical_text input.syntax.definitions → IsOutput Check bytes None text
given_rules bytes held input text is told = (held, input.syntax, input.sessions, refl, is.is_built, told)

pub given_report : (bytes : List ℕ) (held : Contents) (input : Input) (report : Report) (text : List ℕ) → IsInput bytes held input →
    IsSerialReport input.rules input.graph.graph input.sessions report → text ≡ report_text input.rules report → IsOutput Apply bytes (Some report) text
given_report bytes held input report text is serial told = (
  input.rules,
  report,
  refl,
  record {
    held = held;
    syntax = input.syntax;
    sessions = input.sessions;
    is_built = is.is_built;
    is_meant = is.is_meant;
    same_model = is.same_model;
    is_serial = subst (λ (g : Graph). IsSerialReport input.rules g input.sessions report) is.same_graph serial;
  },
  told,
)

pub same_refusal : (a b : Refusal) (status : Status) → status ≡ Refused a → status ≡ Refused b → a ≡ b
same_refusal a b status e f = cc
