-- Why bytes are refused: each refusal with its cause. The order of causes is: the bundle, its text
-- of rules, the rules and units, and what isn't built.
use Rattle.std.specs.Prelude.{ℕ, ◌≡◌, List, None, Result, Ok, Err}
use Rattle.std.specs.Str.{chars}
use Rattle.hs_expr.specs.declared.failure.Failure.{Failure}
use Rattle.hs_expr.specs.declared.failure.Failure.TheVariants as failed
use Rattle.hs_expr.specs.Verdict.{verdict}
use Rattle.hs_text.specs.declared.syntax.Syntax.{Syntax}
use Rattle.hs_text.specs.Parsing.{IsSyntaxOf, IsTextFault}
use Rattle.hs_json.specs.Reading.{Contents, IsBundleAnswer}
use Rattle.hs_faults.specs.UnitFaults.{faults_of}
use Rattle.hs_input.specs.declared.refusal.Refusal.{Refusal}
use Rattle.hs_input.specs.declared.refusal.Refusal.TheVariants.{NoBundle, BadText, BadRule, NotBuilt}
use Rattle.hs_input.specs.Input.{IsRead, asked}

abbrev pub Refuses : List ℕ → Refusal → Type 0
Refuses bytes (NoBundle fault) = IsBundleAnswer bytes (Err fault)
Refuses bytes (BadText line column kind) =
    (held : Contents) × IsBundleAnswer bytes (Ok held)
    × IsTextFault (chars held.rules) (record { line = line; column = column; kind = kind })
Refuses bytes (BadRule fault) =
    (held : Contents) × (syntax : Syntax) × IsBundleAnswer bytes (Ok held) × IsSyntaxOf
    (chars held.rules) syntax × (verdict (faults_of held.meta syntax.definitions) ≡ Err fault)
Refuses bytes NotBuilt =
    (held : Contents) × (syntax : Syntax) × IsRead bytes held syntax × (asked held syntax ≡ None)

-- A refusal has its cause; want of memory is free.
abbrev pub Tells : {X : Type 0} → List ℕ → Result X (Failure Refusal) → Type 0
Tells bytes (Ok x) = Unit {0}
Tells bytes (Err (failed.Fault refusal)) = Refuses bytes refusal
Tells bytes (Err failed.NoMemory) = Unit {0}
