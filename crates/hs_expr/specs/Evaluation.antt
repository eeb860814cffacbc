-- The value of an expression: strict, in whole numbers of 64 bits with a sign.
use Rattle.std.specs.Prelude.{ℕ, ◌≡◌, ◌⊎◌, ◌+◌, ◌^◌, max, ℤ, pos, negsuc, ◌+ℤ◌, ◌-ℤ◌, ◌*ℤ◌, neg_ℤ, List, [], ◌∷◌, ◌++◌, Bool, false, not, ◌&&◌, ◌||◌, if◌then◌else◌, Option, Some, None, nat_eq, nat_lt, int_lt, int_le}
use Rattle.std.specs.Bool.{beq}
use Rattle.std.specs.Ordering.{int_eq}
use Rattle.std.specs.Option.{option_and_then}
use Rattle.std.specs.Cmp.Lexicographic.{pointwise}
use Rattle.hs_expr.specs.declared.expr.Expr.{Expr, fold-Expr, rec-Expr}
use Rattle.hs_expr.specs.declared.expr.Expr.TheOpen.{Expr-F}
use Rattle.hs_expr.specs.declared.expr.SlotRead.{SlotRead}
use Rattle.hs_expr.specs.declared.expr.Sign.{Sign}
use Rattle.hs_expr.specs.declared.expr.Sign.TheVariants as sign
use Rattle.hs_expr.specs.declared.value.Kind.{Kind}
use Rattle.hs_expr.specs.declared.value.Kind.TheVariants as kind
use Rattle.hs_expr.specs.declared.value.Value.{Value}
use Rattle.hs_expr.specs.declared.value.Value.TheVariants as value

abbrev pub kind_of : Value → Kind
kind_of (value.Int n) = kind.Int
kind_of (value.Bool b) = kind.Bool
kind_of (value.Text t) = kind.Text

-- What an expression reads: a slot by the number of its node and of its attribute, and a parameter
-- by its number.
pub record Env : Type 0 where
  pub slot : ℕ → ℕ → Option Value
  pub param : ℕ → Option Value

-- The number lies from minus the bound on, and below the bound.
abbrev pub is_within : ℕ → ℤ → Bool
is_within bound (pos n) = nat_lt n bound
is_within bound (negsuc n) = nat_lt n bound

-- The number, where 64 bits with a sign hold it.
abbrev pub int_value : ℤ → Option Value
int_value n = if is_within (2 ^ 63) n then Some (value.Int n) else None

abbrev pub bool_value : Bool → Option Value
bool_value b = Some (value.Bool b)

abbrev pub is_same : Value → Value → Bool
is_same (value.Int m) (value.Int n) = int_eq m n
is_same (value.Bool a) (value.Bool b) = beq a b
is_same (value.Text s) (value.Text t) = pointwise nat_eq s t
is_same _ _ = false

-- What a sign makes of its two operands: nothing where they are of no kind that it takes, or where
-- the number leaves 64 bits.
abbrev pub binary_value : Sign → Value → Value → Option Value
binary_value sign.Or (value.Bool a) (value.Bool b) = bool_value (a || b)
binary_value sign.And (value.Bool a) (value.Bool b) = bool_value (a && b)
binary_value sign.Equal a b = bool_value (is_same a b)
binary_value sign.NotEqual a b = bool_value (not (is_same a b))
binary_value sign.Less (value.Int m) (value.Int n) = bool_value (int_lt m n)
binary_value sign.AtMost (value.Int m) (value.Int n) = bool_value (int_le m n)
binary_value sign.Greater (value.Int m) (value.Int n) = bool_value (int_lt n m)
binary_value sign.AtLeast (value.Int m) (value.Int n) = bool_value (int_le n m)
binary_value sign.Plus (value.Int m) (value.Int n) = int_value (m +ℤ n)
binary_value sign.Minus (value.Int m) (value.Int n) = int_value (m -ℤ n)
binary_value sign.Times (value.Int m) (value.Int n) = int_value (m *ℤ n)
binary_value _ _ _ = None

abbrev pub not_value : Value → Option Value
not_value (value.Bool b) = bool_value (not b)
not_value _ = None

abbrev pub minus_value : Value → Option Value
minus_value (value.Int n) = int_value (neg_ℤ n)
minus_value _ = None

-- One level of an expression, whose operands have these values. An operand without a value leaves
-- the whole without one: both sides of a sign are evaluated, also of `and` and `or`.
abbrev pub level : Env → Expr-F (Option Value) → Option Value
level env (Expr-F.Literal v) = Some v
level env (Expr-F.Slot read) = env.slot read.node read.attribute
level env (Expr-F.Param number) = env.param number
level env (Expr-F.Not a) = option_and_then not_value a
level env (Expr-F.Minus a) = option_and_then minus_value a
level env (Expr-F.Binary sign a b) =
    option_and_then (λ x. option_and_then (binary_value sign x) b) a

-- The value of the expression, where it has one.
abbrev pub value_of : Env → Expr → Option Value
value_of env = fold-Expr (Option Value) (level env)

-- 64 bits with a sign don't hold the number.
abbrev pub IsOut : ℤ → Type 0
IsOut n = is_within (2 ^ 63) n ≡ false

-- The operands have values, and the sum, difference or product of these leaves 64 bits.
abbrev pub OverflowsBinary : Sign → Option Value → Option Value → Type 0
OverflowsBinary sign.Plus (Some (value.Int m)) (Some (value.Int n)) = IsOut (m +ℤ n)
OverflowsBinary sign.Minus (Some (value.Int m)) (Some (value.Int n)) = IsOut (m -ℤ n)
OverflowsBinary sign.Times (Some (value.Int m)) (Some (value.Int n)) = IsOut (m *ℤ n)
OverflowsBinary _ _ _ = ⊥

abbrev pub OverflowsMinus : Option Value → Type 0
OverflowsMinus (Some (value.Int n)) = IsOut (neg_ℤ n)
OverflowsMinus _ = ⊥

-- At one level: within an operand, or here.
abbrev pub OverflowsLevel : Env → (X : Type 0) → (X → Expr) → (X → Type 0) → Expr-F X → Type 0
OverflowsLevel env X operand within (Expr-F.Literal v) = ⊥
OverflowsLevel env X operand within (Expr-F.Slot read) = ⊥
OverflowsLevel env X operand within (Expr-F.Param number) = ⊥
OverflowsLevel env X operand within (Expr-F.Not a) = within a
OverflowsLevel env X operand within (Expr-F.Minus a) =
    within a ⊎ OverflowsMinus (value_of env (operand a))
OverflowsLevel env X operand within (Expr-F.Binary sign a b) =
    within a ⊎ (within b
    ⊎ OverflowsBinary sign (value_of env (operand a)) (value_of env (operand b)))

-- Somewhere in the expression a sum, a difference, a product or a negation leaves 64 bits.
abbrev pub Overflows : Env → Expr → Type 0
Overflows env = rec-Expr (Type 0) (OverflowsLevel env)

-- The slots that one level reads, beside those of its operands.
abbrev pub reads_of_level : Expr-F (List SlotRead) → List SlotRead
reads_of_level (Expr-F.Literal v) = []
reads_of_level (Expr-F.Slot read) = read ∷ []
reads_of_level (Expr-F.Param number) = []
reads_of_level (Expr-F.Not a) = a
reads_of_level (Expr-F.Minus a) = a
reads_of_level (Expr-F.Binary sign a b) = a ++ b

-- The slots that an expression reads, from left to right.
abbrev pub reads_of : Expr → List SlotRead
reads_of = fold-Expr (List SlotRead) reads_of_level

-- What an expression may read: the kinds of slots and of parameters, by the numbers that `Env` has
-- values for.
pub record Scope : Type 0 where
  pub slot : ℕ → ℕ → Option Kind
  pub param : ℕ → Option Kind

-- The kind that a sign gives for operands of these kinds, if it takes them.
abbrev pub binary_kind : Sign → Kind → Kind → Option Kind
binary_kind sign.Or kind.Bool kind.Bool = Some kind.Bool
binary_kind sign.And kind.Bool kind.Bool = Some kind.Bool
binary_kind sign.Equal kind.Int kind.Int = Some kind.Bool
binary_kind sign.Equal kind.Bool kind.Bool = Some kind.Bool
binary_kind sign.Equal kind.Text kind.Text = Some kind.Bool
binary_kind sign.NotEqual kind.Int kind.Int = Some kind.Bool
binary_kind sign.NotEqual kind.Bool kind.Bool = Some kind.Bool
binary_kind sign.NotEqual kind.Text kind.Text = Some kind.Bool
binary_kind sign.Less kind.Int kind.Int = Some kind.Bool
binary_kind sign.AtMost kind.Int kind.Int = Some kind.Bool
binary_kind sign.Greater kind.Int kind.Int = Some kind.Bool
binary_kind sign.AtLeast kind.Int kind.Int = Some kind.Bool
binary_kind sign.Plus kind.Int kind.Int = Some kind.Int
binary_kind sign.Minus kind.Int kind.Int = Some kind.Int
binary_kind sign.Times kind.Int kind.Int = Some kind.Int
binary_kind _ _ _ = None

abbrev pub not_kind : Kind → Option Kind
not_kind kind.Bool = Some kind.Bool
not_kind _ = None

abbrev pub minus_kind : Kind → Option Kind
minus_kind kind.Int = Some kind.Int
minus_kind _ = None

abbrev pub kind_of_level : Scope → Expr-F (Option Kind) → Option Kind
kind_of_level scope (Expr-F.Literal v) = Some (kind_of v)
kind_of_level scope (Expr-F.Slot read) = scope.slot read.node read.attribute
kind_of_level scope (Expr-F.Param number) = scope.param number
kind_of_level scope (Expr-F.Not a) = option_and_then not_kind a
kind_of_level scope (Expr-F.Minus a) = option_and_then minus_kind a
kind_of_level scope (Expr-F.Binary sign a b) =
    option_and_then (λ x. option_and_then (binary_kind sign x) b) a

-- The kind of an expression, where each of its parts has a kind that its place takes.
abbrev pub kind_in : Scope → Expr → Option Kind
kind_in scope = fold-Expr (Option Kind) (kind_of_level scope)

-- Each slot and each parameter that has a kind has a value of it.
pub record IsComplete (env : Env) (scope : Scope) : Type 0 where
  pub slots : (n a : ℕ) (k : Kind) → scope.slot n a ≡ Some k
      → (v : Value) × (env.slot n a ≡ Some v) × (kind_of v ≡ k)
  pub params : (n : ℕ) (k : Kind) → scope.param n ≡ Some k
      → (v : Value) × (env.param n ≡ Some v) × (kind_of v ≡ k)

-- The depth of an expression of this form, from the depths of its operands.
abbrev pub nesting_of_level : Expr-F ℕ → ℕ
nesting_of_level (Expr-F.Literal v) = 0
nesting_of_level (Expr-F.Slot read) = 0
nesting_of_level (Expr-F.Param number) = 0
nesting_of_level (Expr-F.Not a) = a + 1
nesting_of_level (Expr-F.Minus a) = a + 1
nesting_of_level (Expr-F.Binary sign a b) = max a b + 1

-- The most operators on one path down the expression.
abbrev pub nesting : Expr → ℕ
nesting = fold-Expr ℕ nesting_of_level
