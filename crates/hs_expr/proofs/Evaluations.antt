-- What the definitions on expressions give for each form of expression.
use Rattle.std.proofs.Common.{ℕ, ◌+◌, max, ◌≡◌, List, [], ◌∷◌, ◌++◌, Option, Some, sym, ap, ◌∙◌}
use Rattle.std.specs.Option.{option_and_then}
use Rattle.hs_expr.specs.declared.expr.Expr.{Expr, map-Expr, roll-Expr, fold-roll-Expr}
use Rattle.hs_expr.specs.declared.expr.Expr.TheOpen.{Expr-F}
use Rattle.hs_expr.specs.declared.expr.Expr.TheVariants as expr
use Rattle.hs_expr.specs.declared.expr.Sign.{Sign}
use Rattle.hs_expr.specs.declared.expr.SlotRead.{SlotRead}
use Rattle.hs_expr.specs.declared.value.Kind.{Kind}
use Rattle.hs_expr.specs.declared.value.Value.{Value}
use Rattle.hs_expr.specs.Evaluation.{Env, Scope, nesting, nesting_of_level, binary_value, kind_in, binary_kind, not_kind, kind_of, kind_of_level, minus_kind, level, not_value, minus_value, value_of, reads_of, reads_of_level}

-- The value of each form of expression.
pub value_roll : (env : Env) (x : Expr-F Expr) → value_of env (roll-Expr x) ≡ level env (map-Expr Expr (Option Value) (value_of env) x)
value_roll env x = fold-roll-Expr (Option Value) (level env) x

pub value_of-Literal : (env : Env) (v : Value) → value_of env (expr.Literal v) ≡ Some v
value_of-Literal env v = ap (value_of env) (sym (expr.rolls-Literal v)) ∙ value_roll env (Expr-F.Literal v)

pub value_of-Slot : (env : Env) (read : SlotRead) → value_of env (expr.Slot read) ≡ env.slot read.node read.attribute
value_of-Slot env read = ap (value_of env) (sym (expr.rolls-Slot read)) ∙ value_roll env (Expr-F.Slot read)

pub value_of-Param : (env : Env) (n : ℕ) → value_of env (expr.Param n) ≡ env.param n
value_of-Param env n = ap (value_of env) (sym (expr.rolls-Param n)) ∙ value_roll env (Expr-F.Param n)

pub value_of-Not : (env : Env) (a : Expr) → value_of env (expr.Not a) ≡ option_and_then not_value (value_of env a)
value_of-Not env a = ap (value_of env) (sym (expr.rolls-Not a)) ∙ value_roll env (Expr-F.Not a)

pub value_of-Minus : (env : Env) (a : Expr) → value_of env (expr.Minus a) ≡ option_and_then minus_value (value_of env a)
value_of-Minus env a = ap (value_of env) (sym (expr.rolls-Minus a)) ∙ value_roll env (Expr-F.Minus a)

pub value_of-Binary : (env : Env) (sign : Sign) (a b : Expr) → value_of env (expr.Binary sign a b) ≡ option_and_then (λ x. option_and_then (binary_value sign x) (value_of env b)) (value_of env a)
value_of-Binary env sign a b = ap (value_of env) (sym (expr.rolls-Binary sign a b)) ∙ value_roll env (Expr-F.Binary sign a b)

pub ruleset values = (value_of-Literal, value_of-Slot, value_of-Param, value_of-Not, value_of-Minus, value_of-Binary)

pub reads_roll : (x : Expr-F Expr) → reads_of (roll-Expr x) ≡ reads_of_level (map-Expr Expr (List SlotRead) reads_of x)
reads_roll x = fold-roll-Expr (List SlotRead) reads_of_level x

pub reads_of-Literal : (v : Value) → reads_of (expr.Literal v) ≡ []
reads_of-Literal v = ap reads_of (sym (expr.rolls-Literal v)) ∙ reads_roll (Expr-F.Literal v)

pub reads_of-Slot : (read : SlotRead) → reads_of (expr.Slot read) ≡ read ∷ []
reads_of-Slot read = ap reads_of (sym (expr.rolls-Slot read)) ∙ reads_roll (Expr-F.Slot read)

pub reads_of-Param : (n : ℕ) → reads_of (expr.Param n) ≡ []
reads_of-Param n = ap reads_of (sym (expr.rolls-Param n)) ∙ reads_roll (Expr-F.Param n)

pub reads_of-Not : (a : Expr) → reads_of (expr.Not a) ≡ reads_of a
reads_of-Not a = ap reads_of (sym (expr.rolls-Not a)) ∙ reads_roll (Expr-F.Not a)

pub reads_of-Minus : (a : Expr) → reads_of (expr.Minus a) ≡ reads_of a
reads_of-Minus a = ap reads_of (sym (expr.rolls-Minus a)) ∙ reads_roll (Expr-F.Minus a)

pub reads_of-Binary : (sign : Sign) (a b : Expr) → reads_of (expr.Binary sign a b) ≡ reads_of a ++ reads_of b
reads_of-Binary sign a b = ap reads_of (sym (expr.rolls-Binary sign a b)) ∙ reads_roll (Expr-F.Binary sign a b)

pub ruleset reads = (reads_of-Literal, reads_of-Slot, reads_of-Param, reads_of-Not, reads_of-Minus, reads_of-Binary)

pub kind_roll : (scope : Scope) (x : Expr-F Expr) → kind_in scope (roll-Expr x) ≡ kind_of_level scope (map-Expr Expr (Option Kind) (kind_in scope) x)
kind_roll scope x = fold-roll-Expr (Option Kind) (kind_of_level scope) x

pub kind_in-Literal : (scope : Scope) (v : Value) → kind_in scope (expr.Literal v) ≡ Some (kind_of v)
kind_in-Literal scope v = ap (kind_in scope) (sym (expr.rolls-Literal v)) ∙ kind_roll scope (Expr-F.Literal v)

pub kind_in-Slot : (scope : Scope) (read : SlotRead) → kind_in scope (expr.Slot read) ≡ scope.slot read.node read.attribute
kind_in-Slot scope read = ap (kind_in scope) (sym (expr.rolls-Slot read)) ∙ kind_roll scope (Expr-F.Slot read)

pub kind_in-Param : (scope : Scope) (n : ℕ) → kind_in scope (expr.Param n) ≡ scope.param n
kind_in-Param scope n = ap (kind_in scope) (sym (expr.rolls-Param n)) ∙ kind_roll scope (Expr-F.Param n)

pub kind_in-Not : (scope : Scope) (a : Expr) → kind_in scope (expr.Not a) ≡ option_and_then not_kind (kind_in scope a)
kind_in-Not scope a = ap (kind_in scope) (sym (expr.rolls-Not a)) ∙ kind_roll scope (Expr-F.Not a)

pub kind_in-Minus : (scope : Scope) (a : Expr) → kind_in scope (expr.Minus a) ≡ option_and_then minus_kind (kind_in scope a)
kind_in-Minus scope a = ap (kind_in scope) (sym (expr.rolls-Minus a)) ∙ kind_roll scope (Expr-F.Minus a)

pub kind_in-Binary : (scope : Scope) (sign : Sign) (a b : Expr) → kind_in scope (expr.Binary sign a b) ≡ option_and_then (λ x. option_and_then (binary_kind sign x) (kind_in scope b)) (kind_in scope a)
kind_in-Binary scope sign a b = ap (kind_in scope) (sym (expr.rolls-Binary sign a b)) ∙ kind_roll scope (Expr-F.Binary sign a b)

pub ruleset kinds = (kind_in-Literal, kind_in-Slot, kind_in-Param, kind_in-Not, kind_in-Minus, kind_in-Binary)

pub nesting_roll : (x : Expr-F Expr) → nesting (roll-Expr x) ≡ nesting_of_level (map-Expr Expr ℕ nesting x)
nesting_roll x = fold-roll-Expr ℕ nesting_of_level x

pub nesting-Literal : (v : Value) → nesting (expr.Literal v) ≡ 0
nesting-Literal v = ap nesting (sym (expr.rolls-Literal v)) ∙ nesting_roll (Expr-F.Literal v)

pub nesting-Slot : (read : SlotRead) → nesting (expr.Slot read) ≡ 0
nesting-Slot read = ap nesting (sym (expr.rolls-Slot read)) ∙ nesting_roll (Expr-F.Slot read)

pub nesting-Param : (n : ℕ) → nesting (expr.Param n) ≡ 0
nesting-Param n = ap nesting (sym (expr.rolls-Param n)) ∙ nesting_roll (Expr-F.Param n)

pub nesting-Not : (a : Expr) → nesting (expr.Not a) ≡ nesting a + 1
nesting-Not a = ap nesting (sym (expr.rolls-Not a)) ∙ nesting_roll (Expr-F.Not a)

pub nesting-Minus : (a : Expr) → nesting (expr.Minus a) ≡ nesting a + 1
nesting-Minus a = ap nesting (sym (expr.rolls-Minus a)) ∙ nesting_roll (Expr-F.Minus a)

pub nesting-Binary : (sign : Sign) (a b : Expr) → nesting (expr.Binary sign a b) ≡ max (nesting a) (nesting b) + 1
nesting-Binary sign a b = ap nesting (sym (expr.rolls-Binary sign a b)) ∙ nesting_roll (Expr-F.Binary sign a b)

pub ruleset nestings = (nesting-Literal, nesting-Slot, nesting-Param, nesting-Not, nesting-Minus, nesting-Binary)
