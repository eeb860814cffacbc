-- The requests of sessions, and what their calls name.
use Rattle.std.specs.Prelude.{ℕ, ◌+◌, ◌<◌, List, [], ◌∷◌, ◌++◌, length, Bool, ◌&&◌, eqb, Option, IsSomeAnd, slice_get}
use Rattle.std.specs.List.{position}
use Rattle.std.specs.Option.{option_map, option_or, unwrap_or}
use Rattle.hs_expr.specs.Lists.{same_text}
use Rattle.hs_types.specs.declared.entry.Entry.{Entry}
use Rattle.hs_types.specs.declared.request.Args.{Args}
use Rattle.hs_types.specs.declared.request.Request.{Request}
use Rattle.hs_types.specs.declared.rule.Param.{Param}
use Rattle.hs_types.specs.declared.unit.Callee.{Callee}
use Rattle.hs_types.specs.declared.unit.Callee.TheVariants as callee
use Rattle.hs_types.specs.Arguments.{as_given}
use Rattle.hs_types.specs.Rules.{Rules}
use Rattle.hs_types.specs.UnitForm.{params_of}

-- A request, with its session and its number in it.
pub record Asked : Type 0 where
  pub session : ℕ
  pub number : ℕ
  pub request : Request

abbrev pub asked_from : ℕ → ℕ → List Request → List Asked
asked_from session number [] = []
asked_from session number (request ∷ requests) =
    record { session = session; number = number; request = request }
    ∷ asked_from session (number + 1) requests

abbrev pub all_asked_from : ℕ → List (List Request) → List Asked
all_asked_from session [] = []
all_asked_from session (requests ∷ sessions) =
    asked_from session 0 requests ++ all_asked_from (session + 1) sessions

-- All requests, session by session, each session's in its order.
abbrev pub all_asked : List (List Request) → List Asked
all_asked sessions = all_asked_from 0 sessions

-- The entry is of this request.
abbrev pub is_of : Asked → Entry → Bool
is_of asked entry = eqb entry.session asked.session && eqb entry.request asked.number

-- The entry is of a request that was made.
abbrev pub IsAsked : List (List Request) → Entry → Type 0
IsAsked sessions entry =
    IsSomeAnd (slice_get sessions entry.session) (λ requests. entry.request < length requests)

-- What is called: the rule of this name, or else the unit.
abbrev pub callee_named : Rules → List ℕ → Option Callee
callee_named rules name =
    option_or
    (option_map callee.Rule (position (λ rule. same_text rule.name name) rules.rules))
    (option_map callee.Unit (position (λ unit. same_text unit.name name) rules.units))

abbrev pub params_at : Rules → Callee → List Param
params_at rules called = unwrap_or (params_of rules.rules rules.units called) []

-- The request's arguments as its callee takes them.
abbrev pub args_for : Rules → Callee → Request → Args
args_for rules called request = as_given (params_at rules called) request.args
