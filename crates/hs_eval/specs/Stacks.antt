-- Checking piece by piece, over a stack of checked operands, the last first. It gives what
-- `check_tree` gives for the tree.
use Rattle.std.specs.Prelude.{ℕ, ◌+◌, max, List, [], ◌∷◌, if◌then◌else◌, Option, Some, None, option_map, Result, Ok, Err, nat_le}
use Rattle.hs_eval.specs.declared.checked.Checked.{Checked}
use Rattle.hs_eval.specs.declared.fault.ExprFault.{ExprFault}
use Rattle.hs_eval.specs.declared.fault.Wrong.TheVariants.{BadKind}
use Rattle.hs_eval.specs.declared.operand.Operand.{Operand}
use Rattle.hs_eval.specs.declared.shallow.Shallow.{Shallow}
use Rattle.hs_eval.specs.Checking.{Names, leaf, wrong_at}
use Rattle.hs_eval.specs.Results.{ok_map}
use Rattle.hs_expr.specs.declared.Expr.{Expr}
use Rattle.hs_expr.specs.declared.expr.TheConstants.{MAX_NESTING}
use Rattle.hs_expr.specs.declared.Expr.TheVariants as expr
use Rattle.hs_expr.specs.declared.Kind.{Kind}
use Rattle.hs_expr.specs.declared.Piece.{Piece}
use Rattle.hs_expr.specs.declared.Piece.TheVariants as piece
use Rattle.hs_expr.specs.declared.Sign.{Sign}
use Rattle.hs_expr.specs.declared.Span.{Span}
use Rattle.hs_expr.specs.Evaluation.{binary_kind, not_kind, minus_kind, nesting}
use Rattle.hs_expr.specs.Steps.{◌>>=◌, needed}

-- The expression with how deep it nests, where that is at most MAX_NESTING.
abbrev pub shallow_of : ℕ → Expr → Option Shallow
shallow_of depth e =
    if nat_le depth MAX_NESTING then Some (record { expr = e; depth = depth }) else None

-- One operator more, on one operand and on two.
abbrev pub unary_shallow : (Expr → Expr) → Option Shallow → Option Shallow
unary_shallow make None = None
unary_shallow make (Some a) = shallow_of (a.depth + 1) (make a.expr)

abbrev pub binary_shallow : (Expr → Expr → Expr) → Option Shallow → Option Shallow → Option Shallow
binary_shallow make (Some a) (Some b) = shallow_of (max a.depth b.depth + 1) (make a.expr b.expr)
binary_shallow make (Some a) None = None
binary_shallow make None b = None

-- A checked expression as an operand.
abbrev pub operand_of : Expr × Kind → Operand
operand_of x = record { kind = x.1; shallow = shallow_of (nesting x.0) x.0 }

-- The same for one without operators.
abbrev pub leaf_operand : Expr × Kind → Operand
leaf_operand x = record { kind = x.1; shallow = Some (record { expr = x.0; depth = 0 }) }

-- What an operand is checked to be.
abbrev pub checked_operand : Operand → Checked
checked_operand a = record { kind = a.kind; expr = option_map (λ shallow. shallow.expr) a.shallow }

-- Operators with their operands from the stack.
abbrev pub not_operand : Span → Operand → Result Operand ExprFault
not_operand span a = do
  k ← needed (not_kind a.kind) (wrong_at span BadKind)
  Ok (record { kind = k; shallow = unary_shallow expr.Not a.shallow })

abbrev pub minus_operand : Span → Operand → Result Operand ExprFault
minus_operand span a = do
  k ← needed (minus_kind a.kind) (wrong_at span BadKind)
  Ok (record { kind = k; shallow = unary_shallow expr.Minus a.shallow })

abbrev pub binary_operand : Sign → Span → Operand → Operand → Result Operand ExprFault
binary_operand sign span a b = do
  k ← needed (binary_kind sign a.kind b.kind) (wrong_at span BadKind)
  Ok (record { kind = k; shallow = binary_shallow (expr.Binary sign) a.shallow b.shallow })

-- The stack, or the first fault.
abbrev pub Pile : Type 0
Pile = Result (List Operand) ExprFault

abbrev pub push : List Operand → Result Operand ExprFault → Pile
push done (Ok x) = Ok (x ∷ done)
push done (Err fault) = Err fault

-- The operand on top, and those below it. An operator that finds none there misses an operand of
-- its kind.
abbrev pub pop : Span → List Operand → Result (Operand × List Operand) ExprFault
pop span [] = Err (wrong_at span BadKind)
pop span (a ∷ done) = Ok (a, done)

-- The stack after a piece, and after some pieces.
abbrev pub stack_after : Names → Piece → List Operand → Pile
stack_after names (piece.Not span) done = do
  a ← pop span done
  push a.1 (not_operand span a.0)
stack_after names (piece.Minus span) done = do
  a ← pop span done
  push a.1 (minus_operand span a.0)
stack_after names (piece.Binary sign span) done = do
  b ← pop span done
  a ← pop span b.1
  push a.1 (binary_operand sign span a.0 b.0)
stack_after names p done = push done (ok_map leaf_operand (leaf names p))

abbrev pub stack_after_all : Names → List Piece → List Operand → Pile
stack_after_all names [] done = Ok done
stack_after_all names (p ∷ ps) done = stack_after names p done >>= stack_after_all names ps
