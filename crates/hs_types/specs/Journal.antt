-- Journals: entries, what makes one lawful, and the graph after them.
use Rattle.std.specs.Prelude.{ℕ, ◌<◌, ◌≤◌, ◌≡◌, ◌⊎◌, List, [], ◌∷◌, map, take, length, ◌&&◌, eqb, if◌then◌else◌, Option, Some, IsSomeAnd, IfSome, slice_get}
use Rattle.std.specs.List.{All, AllZip, filter, filter_map, flat_map, fold, range_with_len}
use Rattle.std.specs.Option.{option_map, option_and_then, unwrap_or}
use Rattle.hs_expr.specs.declared.value.Value.{Value}
use Rattle.hs_types.specs.declared.limits.TheConstants.{MAX_NUMBERS, MAX_SESSIONS}
use Rattle.hs_types.specs.declared.entry.Cause.{Cause}
use Rattle.hs_types.specs.declared.entry.Cause.TheVariants as cause
use Rattle.hs_types.specs.declared.entry.Entry.{Entry}
use Rattle.hs_types.specs.declared.entry.ExtensionNames.{ExtensionNames}
use Rattle.hs_types.specs.declared.entry.Gone.{Gone}
use Rattle.hs_types.specs.declared.entry.MatchNames.{MatchNames}
use Rattle.hs_types.specs.declared.entry.NamedValue.{NamedValue}
use Rattle.hs_types.specs.declared.entry.Outcome.{Outcome}
use Rattle.hs_types.specs.declared.entry.Outcome.TheVariants.{Applied, Missed}
use Rattle.hs_types.specs.declared.entry.Tried.{Tried}
use Rattle.hs_types.specs.declared.entry.What.{What}
use Rattle.hs_types.specs.declared.entry.What.TheVariants.{One, Group}
use Rattle.hs_types.specs.declared.graph.Graph.{Graph}
use Rattle.hs_types.specs.declared.graph.Object.{Object}
use Rattle.hs_types.specs.declared.graph.Slot.{Slot}
use Rattle.hs_types.specs.declared.matching.Extension.{Extension}
use Rattle.hs_types.specs.declared.matching.Match.{Match}
use Rattle.hs_types.specs.declared.meta.Metamodel.{Metamodel}
use Rattle.hs_types.specs.declared.request.Args.{Args}
use Rattle.hs_types.specs.declared.rule.Rule.{Rule}
use Rattle.hs_types.specs.Arguments.{ArgsFit}
use Rattle.hs_expr.specs.Lexicographic.{sorted_by}
use Rattle.hs_expr.specs.Lists.{map_all}
use Rattle.hs_types.specs.Metamodel.{class_at, feature_at}
use Rattle.hs_types.specs.Plan.{Plan, plan_of}
use Rattle.hs_types.specs.Rules.{Rules}
use Rattle.hs_types.specs.Step.{new_objects, step}
use Rattle.hs_types.specs.TypedGraph.{object_numbered, object_named, value_at}
use Rattle.hs_types.specs.ValidMatch.{IsValid, NoneIsValid}

-- The match that an entry names, where each of its names is an object's.
abbrev pub extension_named : Graph → ExtensionNames → Option Extension
extension_named g x =
    option_map (λ nodes. record { nodes = nodes; edges = x.edges })
    (map_all (object_named g) x.nodes)

abbrev pub match_named : Graph → MatchNames → Option Match
match_named g found =
    option_and_then (λ nodes.
    option_map (λ copies. record { nodes = nodes; edges = found.edges; copies = copies })
    (map_all (map_all (extension_named g)) found.copies)) (map_all (object_named g) found.nodes)

-- The names of the objects that the plan makes.
abbrev pub new_names : Graph → Plan → List (List ℕ)
new_names g plan =
    map (λ object. object.name) (new_objects g.next_object g.next_name plan.make_objects)

-- The values before of the slots that the plan writes.
abbrev pub old_values : Graph → Plan → List Value
old_values g plan = filter_map (λ write. value_at g write.object write.slot) plan.writes

-- The objects that the plan drops.
abbrev pub dropped_objects : Graph → Plan → List Object
dropped_objects g plan = filter_map (object_numbered g) plan.drop_objects

-- The values of slots, by the names of their attributes.
abbrev pub named_values : Metamodel → List Slot → List NamedValue
named_values m slots =
    sorted_by (λ value. value.attribute) (filter_map (λ slot.
    option_map (λ feature. record { attribute = feature.name; value = slot.value })
    (feature_at m slot.attribute)) slots)

-- The deleted object is given as it was.
pub record IsGone (m : Metamodel) (object : Object) (gone : Gone) : Type 0 where
  pub name : gone.name ≡ object.name
  pub class : option_map (λ class. class.name) (class_at m object.class) ≡ Some gone.class
  pub values : gone.values ≡ named_values m object.slots

-- At most 1,000,000,000 objects, and as many edges, were drawn: opening ones count, and those that
-- went.
abbrev pub IsWithinNumbers : Graph → Type 0
IsWithinNumbers g = (g.next_object ≤ MAX_NUMBERS) × (g.next_edge ≤ MAX_NUMBERS)

abbrev pub rule_of : Rules → Tried → Option Rule
rule_of rules tried = slice_get rules.rules tried.rule

-- What each cause asks of an attempt that says it was applied.
abbrev pub AppliedAsks : Metamodel → Graph → Rule → Args → MatchNames → List (List ℕ) → List Value
    → List Gone → Cause → Type 0
AppliedAsks m g rule args found new old gone cause.Match =
    IsSomeAnd (match_named g found) (IsValid m g rule args)
AppliedAsks m g rule args found new old gone cause.New =
    IfSome (match_named g found) (λ f. (new ≡ new_names g (plan_of m g rule args f))
    × IsWithinNumbers (step g (plan_of m g rule args f)))
AppliedAsks m g rule args found new old gone cause.Old =
    IfSome (match_named g found) (λ f. (old ≡ old_values g (plan_of m g rule args f))
    × AllZip (IsGone m) (dropped_objects g (plan_of m g rule args f)) gone)
AppliedAsks m g rule args found new old gone _ = Unit {0}

-- What each cause asks of an attempt at the rule.
abbrev pub OutcomeAsks : Metamodel → Graph → Rule → Args → Outcome → Cause → Type 0
OutcomeAsks m g rule args (Applied found new old gone) asked =
    AppliedAsks m g rule args found new old gone asked
OutcomeAsks m g rule args Missed cause.Valid = NoneIsValid m g rule args
OutcomeAsks m g rule args Missed _ = Unit {0}

-- What each cause asks of an attempt, in the graph before it.
abbrev pub Asks : Rules → Graph → Tried → Cause → Type 0
Asks rules g tried cause.Rule =
    IsSomeAnd (rule_of rules tried) (λ rule. ArgsFit rule.params tried.args)
Asks rules g tried asked =
    IfSome (rule_of rules tried)
    (λ rule. OutcomeAsks rules.meta g rule tried.args tried.outcome asked)

-- The rule exists and the arguments fit it. If it says applied, the match that it names is valid
-- here, and the new names, old values and gone objects are those of its step; if it says missed, no
-- match is valid here.
abbrev pub IsLawfulTry : Rules → Graph → Tried → Type 0
IsLawfulTry rules g tried = (asked : Cause) → Asks rules g tried asked

-- The graph after an attempt: after the step where it was applied, and else the same.
abbrev pub after_outcome : Metamodel → Graph → Rule → Args → Outcome → Graph
after_outcome m g rule args (Applied found new old gone) =
    unwrap_or (option_map (λ f. step g (plan_of m g rule args f)) (match_named g found)) g
after_outcome m g rule args Missed = g

abbrev pub after_try : Rules → Graph → Tried → Graph
after_try rules g tried =
    unwrap_or (option_map (λ rule. after_outcome rules.meta g rule tried.args tried.outcome)
    (rule_of rules tried)) g

abbrev pub after_tries : Rules → Graph → List Tried → Graph
after_tries rules g tries = fold (after_try rules) g tries

-- Each attempt is lawful in the graph after those before it.
abbrev pub AreLawfulTries : Rules → Graph → List Tried → Type 0
AreLawfulTries rules g [] = Unit {0}
AreLawfulTries rules g (tried ∷ tries) =
    IsLawfulTry rules g tried × AreLawfulTries rules (after_try rules g tried) tries

abbrev pub tries_in : What → List Tried
tries_in (One tried) = tried ∷ []
tries_in (Group attempts done) = attempts

-- The graph after an entry. A group that isn't done leaves the graph as it was, and its numbers and
-- names free.
abbrev pub after_what : Rules → Graph → What → Graph
after_what rules g (One tried) = after_try rules g tried
after_what rules g (Group attempts done) = if done then after_tries rules g attempts else g

abbrev pub after_entry : Rules → Graph → Entry → Graph
after_entry rules g entry = after_what rules g entry.what

-- The graph after all entries.
abbrev pub after_journal : Rules → Graph → List Entry → Graph
after_journal rules g entries = fold (after_entry rules) g entries

-- How many attempts of this request of the session these entries hold.
abbrev pub tries_made : List Entry → ℕ → ℕ → ℕ
tries_made entries session request =
    length (flat_map (λ entry. tries_in entry.what)
    (filter (λ entry. eqb entry.session session && eqb entry.request request) entries))

-- The place is the number of entries before; the session is one of 64; no entry of the session
-- before has a later request; and the attempts are numbered on from those of this request before.
pub record IsNumbered (before : List Entry) (place : ℕ) (entry : Entry) : Type 0 where
  pub at_its_place : place ≡ length before
  pub within_sessions : entry.session < MAX_SESSIONS
  pub requests_rise : All
      (λ earlier. earlier.session ≡ entry.session → earlier.request ≤ entry.request) before
  pub tries_numbered : map (λ tried. tried.attempt) (tries_in entry.what) ≡ range_with_len
      (tries_made before entry.session entry.request) (length (tries_in entry.what))

-- The entry is lawful at this place, after these entries and in the graph after them.
pub record IsLawfulEntry (rules : Rules) (before : List Entry) (g : Graph) (place : ℕ)
    (entry : Entry) : Type 0 where
  pub numbered : IsNumbered before place entry
  pub tries : AreLawfulTries rules g (tries_in entry.what)

-- Each entry is lawful at its place.
abbrev pub IsLawful : Rules → Graph → List Entry → Type 0
IsLawful rules opening entries =
    (place : ℕ) → IfSome (slice_get entries place) (IsLawfulEntry rules (take place entries)
    (after_journal rules opening (take place entries)) place)

-- The same of a journal as it was written, with the place that each entry names.
abbrev pub IsLawfulWritten : Rules → Graph → List (ℕ × Entry) → Type 0
IsLawfulWritten rules opening written =
    (map (λ entry. entry.0) written ≡ range_with_len 0 (length written))
    × IsLawful rules opening (map (λ entry. entry.1) written)

-- The order in which causes are asked.
abbrev pub rank : Cause → ℕ
rank cause.Number = 0
rank cause.Rule = 1
rank cause.Match = 2
rank cause.Valid = 3
rank cause.New = 4
rank cause.Old = 5

-- The first that the attempt doesn't meet.
pub record FailsBy (rules : Rules) (g : Graph) (tried : Tried) (asked : Cause) : Type 0 where
  pub met : (earlier : Cause) → rank earlier < rank asked → Asks rules g tried earlier
  pub unmet : Asks rules g tried asked → ⊥

-- Some attempt is the first that isn't lawful, by this cause.
abbrev pub OneFailsBy : Rules → Graph → List Tried → Cause → Type 0
OneFailsBy rules g [] asked = ⊥
OneFailsBy rules g (tried ∷ tries) asked =
    FailsBy rules g tried asked
    ⊎ (IsLawfulTry rules g tried × OneFailsBy rules (after_try rules g tried) tries asked)

-- Why the entry isn't lawful: its numbers are asked first, then attempt by attempt the rest.
abbrev pub EntryFailsBy : Rules → List Entry → Graph → ℕ → Entry → Cause → Type 0
EntryFailsBy rules before g place entry cause.Number = IsNumbered before place entry → ⊥
EntryFailsBy rules before g place entry asked =
    IsNumbered before place entry × OneFailsBy rules g (tries_in entry.what) asked

-- The entry at this position of a written journal is the first that isn't lawful, by this cause.
pub record IsUnlawfulAt (rules : Rules) (opening : Graph) (written : List (ℕ × Entry))
    (position : ℕ) (asked : Cause) : Type 0 where
  pub lawful_before : IsLawfulWritten rules opening (take position written)
  pub fails : IsSomeAnd (slice_get written position)
      (λ entry. EntryFailsBy rules (map (λ e. e.1) (take position written))
      (after_journal rules opening (map (λ e. e.1) (take position written))) entry.0 entry.1 asked)
