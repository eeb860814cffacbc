-- The reply to a request, by the entries that the request has in the journal.
use Rattle.std.specs.Prelude.{◌≡◌, ◌⊎◌, List, [], ◌∷◌, map, Bool, true, false, Option, Some, None}
use Rattle.std.specs.List.{All, filter, flat_map}
use Rattle.hs_types.specs.declared.entry.Entry.{Entry}
use Rattle.hs_types.specs.declared.entry.Tried.{Tried}
use Rattle.hs_types.specs.declared.entry.What.{What}
use Rattle.hs_types.specs.declared.entry.What.TheVariants.{One, Group}
use Rattle.hs_types.specs.declared.graph.Graph.{Graph}
use Rattle.hs_types.specs.declared.request.Outs.{Outs}
use Rattle.hs_types.specs.declared.unit.Callee.{Callee}
use Rattle.hs_types.specs.declared.unit.Callee.TheVariants as callee
use Rattle.hs_types.specs.Arguments.{ArgsFit}
use Rattle.hs_types.specs.Rules.{Rules}
use Rattle.hs_unit.specs.Courses.{Course, Done, Failed, Fuel, Asks}
use Rattle.hs_session.specs.declared.report.Reply.{Reply}
use Rattle.hs_session.specs.declared.report.Word.{Word}
use Rattle.hs_session.specs.declared.report.Word.TheVariants as word
use Rattle.hs_session.specs.Full.{IsFullAfter, IsFullInGroup, IsLong}
use Rattle.hs_session.specs.Requests.{Asked, args_for, callee_named, is_of, params_at}
use Rattle.hs_session.specs.Runs.{ComesTo, IsOver, Run, run_of}
use Rattle.hs_session.specs.Standing.{Standing, made_in, no_outs, entry_place, standing}

-- The word on a call that came to this.
abbrev pub word_for : Callee → Course → Word
word_for called (Done left) = word.Ok
word_for (callee.Rule rule) (Failed left) = word.NoMatch
word_for (callee.Unit unit) (Failed left) = word.Failed
word_for called Fuel = word.Fuel
word_for called (Asks rule args) = word.Full

-- The due word is said, or `memory` in its place.
abbrev pub Says : Word → Word → Type 0
Says due said = (said ≡ due) ⊎ (said ≡ word.Memory)

-- Only `ok` gives out values.
abbrev pub outs_for : Word → Course → Outs
outs_for word.Ok (Done left) = record { list = left.outs }
outs_for _ course = no_outs

abbrev pub is_ok : Word → Bool
is_ok word.Ok = true
is_ok _ = false

abbrev pub IsSingle : What → Type 0
IsSingle (One tried) = Unit {0}
IsSingle (Group attempts done) = ⊥

-- The request isn't grouped: its entries are the attempts of the run, one each.
pub record IsUngrouped (rules : Rules) (opening : Graph) (journal : List Entry) (asked : Asked)
    (called : Callee) (run : Run) (entries : List Standing) (reply : Reply) : Type 0 where
  pub single : All (λ s. IsSingle s.entry.what) entries
  pub course : Course
  pub comes_to : ComesTo rules run (flat_map (made_in rules) entries) course
  pub says : Says (word_for called course) reply.word
  pub full : reply.word ≡ word.Full → IsFullAfter rules opening journal asked course
  pub gives : reply.outs ≡ outs_for reply.word course

-- The request is grouped and has an entry: a group of the attempts of the run, which is over. It is
-- done where the word is `ok`.
pub record IsGroup (rules : Rules) (called : Callee) (run : Run) (entries : List Standing)
    (reply : Reply) : Type 0 where
  pub at : Standing
  pub one_entry : entries ≡ at ∷ []
  pub attempts : List Tried
  pub done : Bool
  pub group : at.entry.what ≡ Group attempts done
  pub course : Course
  pub comes_to : ComesTo rules run (made_in rules at) course
  pub over : IsOver course
  pub says : Says (word_for called course) reply.word
  pub keeps : (done ≡ is_ok reply.word) ⊎ (reply.word ≡ word.Memory)
  pub gives : reply.outs ≡ outs_for reply.word course

-- The request is grouped, and was dropped without an entry.
pub record IsDropped (rules : Rules) (opening : Graph) (journal : List Entry) (asked : Asked)
    (run : Run) (entries : List Standing) (reply : Reply) : Type 0 where
  pub no_entry : entries ≡ []
  pub says : Says word.Full reply.word
  pub full : reply.word ≡ word.Full
      → IsLong journal ⊎ IsFullInGroup rules opening journal asked run
  pub gives : reply.outs ≡ no_outs

-- The request wasn't begun.
pub record IsRefused (due : Word) (entries : List Standing) (reply : Reply) : Type 0 where
  pub no_entry : entries ≡ []
  pub says : Says due reply.word
  pub gives : reply.outs ≡ no_outs

abbrev pub IsBegun : Rules → Graph → List Entry → Asked → Callee → Run → List Standing → Reply
    → Bool → Type 0
IsBegun rules opening journal asked called run entries reply false =
    IsUngrouped rules opening journal asked called run entries reply
IsBegun rules opening journal asked called run entries reply true =
    IsGroup rules called run entries reply
    ⊎ IsDropped rules opening journal asked run entries reply

-- The arguments fit the callee.
abbrev pub Fit : Rules → Asked → Callee → Type 0
Fit rules asked called = ArgsFit (params_at rules called) (args_for rules called asked.request)

abbrev pub run_for : Rules → Asked → Callee → Run
run_for rules asked called =
    run_of rules called (args_for rules called asked.request) asked.request.fuel asked.number

-- The arguments don't fit, or the callee runs.
abbrev pub IsCalled : Rules → Graph → List Entry → Asked → List Standing → Reply → Callee → Type 0
IsCalled rules opening journal asked entries reply called =
    ((Fit rules asked called → ⊥) × IsRefused word.BadArgs entries reply)
    ⊎ (Fit rules asked called
    × IsBegun rules opening journal asked called (run_for rules asked called) entries reply
    asked.request.group)

-- Nothing has the name that is called, or a rule or a unit has.
abbrev pub IsDue : Rules → Graph → List Entry → Asked → List Standing → Reply → Option Callee
    → Type 0
IsDue rules opening journal asked entries reply None = IsRefused word.NoCall entries reply
IsDue rules opening journal asked entries reply (Some called) =
    IsCalled rules opening journal asked entries reply called

-- The reply to a request that has these entries in the journal. It names their places.
pub record IsReply (rules : Rules) (opening : Graph) (journal : List Entry) (asked : Asked)
    (entries : List Standing) (reply : Reply) : Type 0 where
  pub of_session : reply.session ≡ asked.session
  pub of_request : reply.request ≡ asked.number
  pub at_places : reply.places ≡ map entry_place entries
  pub served : IsDue rules opening journal asked entries reply
      (callee_named rules asked.request.call)

-- The entries of a request, at their places.
abbrev pub entries_of : Asked → List Standing → List Standing
entries_of asked = filter (λ s. is_of asked s.entry)

abbrev pub RepliesTo : Rules → Graph → List Entry → Asked → Reply → Type 0
RepliesTo rules opening journal asked reply =
    IsReply rules opening journal asked (entries_of asked (standing rules opening journal)) reply
