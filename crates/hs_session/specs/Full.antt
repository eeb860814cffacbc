-- When a request may be answered `full`: the journal or the numbers of objects or edges are at
-- their end.
use Rattle.std.specs.Prelude.{ℕ, ◌+◌, ◌<◌, ◌≤◌, ◌≡◌, ◌⊎◌, List, [], ◌∷◌, map, take, drop, sum, length, slice_get, Some}
use Rattle.std.specs.List.{All}
use Rattle.hs_types.specs.declared.limits.TheConstants.{MAX_ENTRIES, MAX_NUMBERS, MAX_SESSIONS}
use Rattle.hs_types.specs.declared.entry.Entry.{Entry}
use Rattle.hs_types.specs.declared.entry.Tried.{Tried}
use Rattle.hs_types.specs.declared.graph.Graph.{Graph}
use Rattle.hs_types.specs.declared.matching.Match.{Match}
use Rattle.hs_types.specs.declared.request.Args.{Args}
use Rattle.hs_types.specs.declared.rule.Rule.{Rule}
use Rattle.hs_types.specs.Arguments.{ArgsFit}
use Rattle.hs_types.specs.Journal.{AreLawfulTries, after_journal, after_tries}
use Rattle.hs_types.specs.Plan.{Plan, plan_of}
use Rattle.hs_types.specs.Rules.{Rules}
use Rattle.hs_types.specs.ValidMatch.{IsValid}
use Rattle.hs_unit.specs.Courses.{Course, Asks}
use Rattle.hs_session.specs.Requests.{Asked}
use Rattle.hs_session.specs.Runs.{ComesTo, Run}
use Rattle.hs_session.specs.Standing.{made_along}

-- A prefix of the journal, of this length, that has the session's entries up to this request and
-- none of its later ones.
pub record IsCut (asked : Asked) (journal : List Entry) (cut : ℕ) : Type 0 where
  pub within : cut ≤ length journal
  pub none_later : All (λ e. e.session ≡ asked.session → e.request ≤ asked.number)
      (take cut journal)
  pub all_earlier : All (λ e. e.session ≡ asked.session → asked.number < e.request)
      (drop cut journal)

-- The graph at a cut.
abbrev pub graph_at_cut : Rules → Graph → List Entry → ℕ → Graph
graph_at_cut rules opening journal cut = after_journal rules opening (take cut journal)

-- A rule with arguments and a match.
pub record Application : Type 0 where
  pub rule : Rule
  pub args : Args
  pub found : Match

-- The rule is one of these, the arguments fit it, and the match is valid in this graph.
pub record IsApplicable (rules : Rules) (g : Graph) (a : Application) : Type 0 where
  pub place : ℕ
  pub of_rules : slice_get rules.rules place ≡ Some a.rule
  pub fits : ArgsFit a.rule.params a.args
  pub valid : IsValid rules.meta g a.rule a.args a.found

abbrev pub plan_at : Rules → Graph → Application → Plan
plan_at rules g a = plan_of rules.meta g a.rule a.args a.found

-- The application is of the rule at this place with these arguments.
pub record IsApplicationOf (rules : Rules) (rule : ℕ) (args : Args) (a : Application) : Type 0 where
  pub rule_there : slice_get rules.rules rule ≡ Some a.rule
  pub args_same : a.args ≡ args

-- With these plans the graph would draw more objects, or more edges, than there are numbers.
abbrev pub Pass : Graph → List Plan → Type 0
Pass g plans =
    (MAX_NUMBERS < g.next_object + sum (map (λ plan. length plan.make_objects) plans))
    ⊎ (MAX_NUMBERS < g.next_edge + sum (map (λ plan. length plan.make_edges) plans))

-- At a cut, the application that is asked for and at most 63 others pass the numbers. The others
-- are valid at the cut, the one that is asked for there or at an earlier cut.
pub record IsFullBeside (rules : Rules) (opening : Graph) (journal : List Entry) (asked : Asked)
    (rule : ℕ) (args : Args) : Type 0 where
  pub cut : ℕ
  pub is_cut : IsCut asked journal cut
  pub others : List Application
  pub few : length others < MAX_SESSIONS
  pub others_valid : All (IsApplicable rules (graph_at_cut rules opening journal cut)) others
  pub earlier : ℕ
  pub not_later : earlier ≤ cut
  pub is_earlier_cut : IsCut asked journal earlier
  pub last : Application
  pub last_of : IsApplicationOf rules rule args last
  pub last_valid : IsApplicable rules (graph_at_cut rules opening journal earlier) last
  pub passes : Pass (graph_at_cut rules opening journal cut)
      (plan_at rules (graph_at_cut rules opening journal earlier) last
      ∷ map (plan_at rules (graph_at_cut rules opening journal cut)) others)

-- From a cut on, the attempts that the run asks for, and then the one that it asks for after them,
-- pass the numbers.
pub record IsFullInGroup (rules : Rules) (opening : Graph) (journal : List Entry) (asked : Asked)
    (run : Run) : Type 0 where
  pub cut : ℕ
  pub is_cut : IsCut asked journal cut
  pub tries : List Tried
  pub lawful : AreLawfulTries rules (graph_at_cut rules opening journal cut) tries
  pub rule : ℕ
  pub args : Args
  pub comes_to : ComesTo rules run
      (made_along rules (graph_at_cut rules opening journal cut) tries) (Asks rule args)
  pub last : Application
  pub last_of : IsApplicationOf rules rule args last
  pub last_valid : IsApplicable rules
      (after_tries rules (graph_at_cut rules opening journal cut) tries) last
  pub passes : Pass (after_tries rules (graph_at_cut rules opening journal cut) tries)
      (plan_at rules (after_tries rules (graph_at_cut rules opening journal cut) tries) last ∷ [])

-- The journal has fewer free places than there may be sessions.
abbrev pub IsLong : List Entry → Type 0
IsLong journal = MAX_ENTRIES < length journal + MAX_SESSIONS

-- A call that asks for a further attempt, where the journal is long or the numbers are passed.
abbrev pub IsFullAfter : Rules → Graph → List Entry → Asked → Course → Type 0
IsFullAfter rules opening journal asked (Asks rule args) =
    IsLong journal ⊎ IsFullBeside rules opening journal asked rule args
IsFullAfter rules opening journal asked course = ⊥
