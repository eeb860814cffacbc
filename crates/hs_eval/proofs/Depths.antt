-- What is held of an expression is held of it operator by operator.
use Rattle.hs_expr.specs.declared.expr.TheConstants.{MAX_NESTING}
use Rattle.std.proofs.Common.{ℕ, ◌+◌, ◌<◌, ◌≡◌, max, Bool, true, false, if◌then◌else◌, nat_le, Some, None, refl, ap, ◌∙◌, arith}
use Rattle.std.proofs.lemmas.Bool.{leb-false, lt-leb}
use Rattle.hs_expr.specs.declared.expr.Expr.{Expr}
use Rattle.hs_expr.specs.declared.expr.Expr.TheVariants as expr
use Rattle.hs_expr.specs.declared.expr.Sign.{Sign}
use Rattle.hs_expr.specs.declared.value.Kind.{Kind}
use Rattle.hs_expr.specs.Evaluation.{nesting}
use Rattle.hs_expr.proofs.Evaluations.{nesting-Not, nesting-Minus, nesting-Binary}
use Rattle.hs_eval.specs.Results.{checked_of}
use Rattle.hs_eval.specs.Stacks.{operand_of, unary_shallow, binary_shallow, checked_operand, shallow_of}

-- too deep is nothing
none-within : (depth : ℕ) (e : Expr) → MAX_NESTING < depth → shallow_of depth e ≡ None
none-within depth e h = ap (λ (b : Bool). if b then Some (record { expr = e; depth = depth }) else None) (lt-leb depth MAX_NESTING h)

within-raised : (make : Expr → Expr) (m : ℕ) (e : Expr) → shallow_of (m + 1) (make e) ≡ unary_shallow make (shallow_of m e)
within-raised make m e = go (nat_le m MAX_NESTING) refl where
  go : (b : Bool) → nat_le m MAX_NESTING ≡ b → shallow_of (m + 1) (make e) ≡ unary_shallow make (if b then Some (record { expr = e; depth = m }) else None)
  go true h = refl
  go false h = let below : MAX_NESTING < m = leb-false m MAX_NESTING h in none-within (m + 1) (make e) (omega arith)

within-raised_both : (make : Expr → Expr → Expr) (m n : ℕ) (d e : Expr) → shallow_of (max m n + 1) (make d e) ≡ binary_shallow make (shallow_of m d) (shallow_of n e)
within-raised_both make m n d e = go (nat_le m MAX_NESTING) (nat_le n MAX_NESTING) refl refl where
  go : (b c : Bool) → nat_le m MAX_NESTING ≡ b → nat_le n MAX_NESTING ≡ c →
      shallow_of (max m n + 1) (make d e) ≡ binary_shallow make (if b then Some (record { expr = d; depth = m }) else None) (if c then Some (record { expr = e; depth = n }) else None)
  go true true h k = refl
  go true false h k = let below : MAX_NESTING < n = leb-false n MAX_NESTING k in none-within (max m n + 1) (make d e) (omega arith)
  go false c h k = let below : MAX_NESTING < m = leb-false m MAX_NESTING h in none-within (max m n + 1) (make d e) (omega arith)

pub held-Not : (a : Expr) → shallow_of (nesting (expr.Not a)) (expr.Not a) ≡ unary_shallow expr.Not (shallow_of (nesting a) a)
held-Not a = ap (λ n. shallow_of n (expr.Not a)) (nesting-Not a) ∙ within-raised expr.Not (nesting a) a

pub held-Minus : (a : Expr) → shallow_of (nesting (expr.Minus a)) (expr.Minus a) ≡ unary_shallow expr.Minus (shallow_of (nesting a) a)
held-Minus a = ap (λ n. shallow_of n (expr.Minus a)) (nesting-Minus a) ∙ within-raised expr.Minus (nesting a) a

pub held-Binary : (sign : Sign) (a b : Expr) →
    shallow_of (nesting (expr.Binary sign a b)) (expr.Binary sign a b) ≡ binary_shallow (expr.Binary sign) (shallow_of (nesting a) a) (shallow_of (nesting b) b)
held-Binary sign a b = ap (λ n. shallow_of n (expr.Binary sign a b)) (nesting-Binary sign a b) ∙ within-raised_both (expr.Binary sign) (nesting a) (nesting b) a b

-- What is kept is what is held, without its depth.
pub released-held : (x : Expr × Kind) → checked_operand (operand_of x) ≡ checked_of x
released-held x = go (nat_le (nesting x.0) MAX_NESTING) refl where
  go : (b : Bool) → nat_le (nesting x.0) MAX_NESTING ≡ b → checked_operand (operand_of x) ≡ checked_of x
  go true h = rw h refl
  go false h = rw h refl
