-- Where entries and attempts are: each with the graph in which it was made.
use Rattle.std.specs.Prelude.{ℕ, List, [], ◌∷◌, ◌++◌, length, not}
use Rattle.std.specs.List.{filter, filter_map}
use Rattle.std.specs.Option.{option_map, unwrap_or}
use Rattle.hs_expr.specs.Lexicographic.{sorted_by}
use Rattle.hs_types.specs.declared.entry.Entry.{Entry}
use Rattle.hs_types.specs.declared.entry.Outcome.{Outcome as Written}
use Rattle.hs_types.specs.declared.entry.Outcome.TheVariants as written
use Rattle.hs_types.specs.declared.entry.Tried.{Tried}
use Rattle.hs_types.specs.declared.graph.Graph.{Graph}
use Rattle.hs_types.specs.declared.matching.Match.{Match}
use Rattle.hs_types.specs.declared.request.Outs.{Outs}
use Rattle.hs_types.specs.declared.rule.Rule.{Rule}
use Rattle.hs_types.specs.Arguments.{is_in}
use Rattle.hs_types.specs.Journal.{after_entry, after_try, match_named, rule_of, tries_in}
use Rattle.hs_types.specs.Outs.{out_of}
use Rattle.hs_types.specs.Rules.{Rules}
use Rattle.hs_unit.specs.declared.outcome.Outcome.{Outcome}
use Rattle.hs_unit.specs.declared.outcome.Outcome.TheVariants.{Applied, Missed}

-- An entry, the entries before it, and the graph after these.
pub record Standing : Type 0 where
  pub before : List Entry
  pub graph : Graph
  pub entry : Entry

abbrev pub entry_place : Standing → ℕ
entry_place standing = length standing.before

-- Each of these entries at its place, after this journal and its graph.
abbrev pub standing_after : Rules → List Entry → Graph → List Entry → List Standing
standing_after rules before g [] = []
standing_after rules before g (entry ∷ entries) =
    record { before = before; graph = g; entry = entry }
    ∷ standing_after rules (before ++ entry ∷ []) (after_entry rules g entry) entries

abbrev pub standing : Rules → Graph → List Entry → List Standing
standing rules opening journal = standing_after rules [] opening journal

-- An attempt, and the graph in which it was made.
pub record Made : Type 0 where
  pub graph : Graph
  pub tried : Tried

-- Each attempt in the graph after those before it.
abbrev pub made_along : Rules → Graph → List Tried → List Made
made_along rules g [] = []
made_along rules g (tried ∷ tries) =
    record { graph = g; tried = tried } ∷ made_along rules (after_try rules g tried) tries

abbrev pub made_in : Rules → Standing → List Made
made_in rules standing = made_along rules standing.graph (tries_in standing.entry.what)

-- The out values of a match in this graph: of each out parameter the name of its object, by
-- parameter in byte order.
abbrev pub outs_at : Graph → Rule → Match → Outs
outs_at g rule f = record {
  list =
      sorted_by (λ out. out.parameter) (filter_map (λ param.
      option_map (λ object. record { parameter = param.name; object = object })
      (out_of g rule f param.name)) (filter (λ param. not (is_in param.direction)) rule.params));
}

abbrev pub no_outs : Outs
no_outs = record { list = [] }

-- The outcome of an attempt as a unit sees it.
abbrev pub outcome_of : Graph → Rule → Written → Outcome
outcome_of g rule (written.Applied found new old gone) =
    Applied (unwrap_or (option_map (outs_at g rule) (match_named g found)) no_outs)
outcome_of g rule written.Missed = Missed

abbrev pub outcome_made : Rules → Made → Outcome
outcome_made rules made =
    unwrap_or (option_map (λ rule. outcome_of made.graph rule made.tried.outcome)
    (rule_of rules made.tried)) Missed
