-- What bytes hold that are read to their end: a bundle, and the syntax of its rules, in which
-- nothing is wrong.
use Rattle.std.specs.Prelude.{ℕ, ◌≡◌, List, Option, Some, Ok}
use Rattle.std.specs.Str.{chars}
use Rattle.hs_expr.specs.Verdict.{verdict}
use Rattle.hs_text.specs.declared.syntax.Syntax.{Syntax}
use Rattle.hs_text.specs.Parsing.{IsSyntaxOf}
use Rattle.hs_types.specs.declared.request.Request.{Request}
use Rattle.hs_json.specs.Reading.{Contents, IsBundleAnswer}
use Rattle.hs_faults.specs.UnitFaults.{faults_of}
use Rattle.hs_check.specs.Meaning.{IsMeant}
use Rattle.hs_check.specs.Rules.{rules_meant}
use Rattle.hs_check.specs.Units.{units_meant}
use Rattle.hs_input.specs.declared.reading.Input.{Input}
use Rattle.hs_input.specs.Sessions.{sessions_asked}

pub record IsRead (bytes : List ℕ) (held : Contents) (syntax : Syntax) : Type 0 where
  pub is_bundle : IsBundleAnswer bytes (Ok held)
  pub is_syntax : IsSyntaxOf (chars held.rules) syntax
  pub is_right : verdict (faults_of held.meta syntax.definitions) ≡ Ok tt

-- What is asked for of the rules and units that the syntax means.
abbrev pub asked : Contents → Syntax → Option (List (List Request))
asked held syntax =
    sessions_asked (rules_meant held.meta syntax.definitions)
    (units_meant held.meta syntax.definitions) held.sessions held.journal

-- What is asked for is built: these requests of each session.
pub record IsBuilt (bytes : List ℕ) (held : Contents) (syntax : Syntax)
    (sessions : List (List Request)) : Type 0 where
  pub is_read : IsRead bytes held syntax
  pub is_asked : asked held syntax ≡ Some sessions

-- The same of an input, which has the rules and units that the syntax denotes, and the metamodel in
-- shared pointers.
pub record IsInput (bytes : List ℕ) (held : Contents) (input : Input) : Type 0 where
  pub is_built : IsBuilt bytes held input.syntax input.sessions
  pub is_meant : IsMeant held.meta input.syntax.definitions input.rules
  pub same_model : input.rules.meta ≡ held.meta
  pub same_meta : input.graph.meta ≡ held.meta
  pub same_graph : input.graph.graph ≡ held.graph
