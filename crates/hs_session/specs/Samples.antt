-- Small journals, requests and replies that the examples of reports speak of.
use Rattle.std.specs.Prelude.{ℕ, List, [], ◌∷◌, Bool, false, codes}
use Rattle.std.proofs.Common.{lit<, lit≤}
use Rattle.hs_expr.specs.declared.value.Value.TheVariants as value
use Rattle.hs_types.specs.declared.entry.Entry.{Entry}
use Rattle.hs_types.specs.declared.entry.Outcome.TheVariants.{Applied, Missed}
use Rattle.hs_types.specs.declared.entry.Tried.{Tried}
use Rattle.hs_types.specs.declared.entry.What.{What}
use Rattle.hs_types.specs.declared.entry.What.TheVariants.{One, Group}
use Rattle.hs_types.specs.declared.graph.Graph.{Graph}
use Rattle.hs_types.specs.Plan.{Plan}
use Rattle.hs_types.specs.declared.request.Arg.TheVariants as arg
use Rattle.hs_types.specs.declared.request.Args.{Args}
use Rattle.hs_types.specs.declared.request.Request.{Request}
use Rattle.hs_types.specs.Arguments.{no_args}
use Rattle.hs_unit.specs.declared.outcome.Outcome.{Outcome}
use Rattle.hs_unit.specs.declared.outcome.Outcome.TheVariants as outcome
use Rattle.hs_laws.specs.Bank.{adds, bank_rules, just_client, lone_rules, object_arg, opens}
use Rattle.hs_session.specs.declared.report.Reply.{Reply}
use Rattle.hs_session.specs.declared.report.Word.{Word}
use Rattle.hs_session.specs.Replies.{IsReply, entries_of}
use Rattle.hs_session.specs.Requests.{Asked}
use Rattle.hs_session.specs.Standing.{no_outs, standing}

-- An empty graph that has drawn this many numbers of objects.
abbrev pub drawn : ℕ → Graph
drawn n = record {
  objects = [];
  edges = [];
  next_object = n;
  next_edge = 0;
  next_name = 0;
}

abbrev pub makes_one : Plan
makes_one = record {
  drop_objects = [];
  drop_edges = [];
  writes = [];
  make_objects = record { class = 0; slots = [] } ∷ [];
  make_edges = [];
}

-- Attempts at the rule: missed, and applied with a client of this name.
abbrev pub missed : Tried
missed = record { attempt = 0; rule = 0; args = no_args; outcome = Missed; attempt_bound = lit< tt }

abbrev pub makes_client : List ℕ → Tried
makes_client name = record {
  attempt = 0;
  rule = 0;
  args = no_args;
  outcome = Applied (record { nodes = []; edges = []; copies = [] }) (name ∷ []) [] [];
  attempt_bound = lit< tt;
}

abbrev pub gave_client : List ℕ → Outcome
gave_client name =
    outcome.Applied (record { list = record { parameter = codes "c"; object = name } ∷ [] })

-- Entries of a session's request.
abbrev pub entry_of : ℕ → ℕ → What → Entry
entry_of session number what = record { session = session; request = number; what = what }

abbrev pub missed_once : Entry
missed_once = entry_of 0 0 (One missed)

abbrev pub missed_in_group : Bool → Entry
missed_in_group done = entry_of 0 0 (Group (missed ∷ []) done)

-- Session 0 has entries of its requests 0 and 2, session 1 of its request 5.
abbrev pub three_entries : List Entry
three_entries =
    entry_of 0 0 (One missed) ∷ entry_of 1 5 (One missed) ∷ entry_of 0 2 (One missed) ∷ []

-- The first session's requests: its first, with this call and these arguments, and its second.
abbrev pub asks_with : List ℕ → Args → Bool → Asked
asks_with name args group = record {
  session = 0;
  number = 0;
  request = record {
    call = name;
    args = args;
    fuel = 10;
    group = group;
    some_fuel = lit≤ tt;
    fuel_bound = lit≤ tt;
  };
}

abbrev pub asks : List ℕ → Bool → Asked
asks name group = asks_with name no_args group

abbrev pub second_asked : Asked
second_asked = record { session = 0; number = 1; request = (asks (codes "rule") false).request }

abbrev pub one_arg : Args
one_arg = record { list = object_arg (codes "x") (codes "c1") ∷ [] }

-- The first request of the first session opens an account for the client c1. Its argument is a
-- text, as it is read.
abbrev pub opening : Request
opening = record {
  call = codes "rule";
  args = record {
    list = record { name = codes "c"; arg = arg.Value (value.Text (codes "c1")) } ∷ [];
  };
  fuel = 10;
  group = false;
  some_fuel = lit≤ tt;
  fuel_bound = lit≤ tt;
}

abbrev pub opening_asked : Asked
opening_asked = record { session = 0; number = 0; request = opening }

-- The bank's journal answers it so.
abbrev pub OpeningAnswered : Reply → Type 0
OpeningAnswered reply =
    IsReply bank_rules just_client (opens ∷ adds ∷ []) opening_asked
    (entries_of opening_asked (standing bank_rules just_client (opens ∷ adds ∷ []))) reply

-- The reply with this name for the out parameter a.
abbrev pub gives : Word → List ℕ → List ℕ → Reply
gives word places name = record {
  session = 0;
  request = 0;
  word = word;
  places = places;
  outs = record { list = record { parameter = codes "a"; object = name } ∷ [] };
}

-- The reply without out values.
abbrev pub says : Word → List ℕ → Reply
says word places = record {
  session = 0;
  request = 0;
  word = word;
  places = places;
  outs = no_outs;
}

-- The reply answers the request, where the journal is this.
abbrev pub Answered : Asked → List Entry → Reply → Type 0
Answered asked journal reply =
    IsReply lone_rules (drawn 0) journal asked
    (entries_of asked (standing lone_rules (drawn 0) journal)) reply
