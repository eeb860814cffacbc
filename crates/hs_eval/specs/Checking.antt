-- What an expression by names is checked to be.
use Rattle.std.specs.Prelude.{ℕ, List, Bool, Option, Result, Ok, Err}
use Rattle.hs_eval.specs.declared.fault.ExprFault.{ExprFault}
use Rattle.hs_eval.specs.declared.fault.Wrong.{Wrong}
use Rattle.hs_eval.specs.declared.fault.Wrong.TheVariants.{UnknownName, UnknownNode, NotRead, UnknownAttribute, BadKind}
use Rattle.hs_expr.specs.declared.Expr.{Expr}
use Rattle.hs_expr.specs.declared.Expr.TheVariants as expr
use Rattle.hs_expr.specs.declared.Kind.{Kind}
use Rattle.hs_expr.specs.declared.Kind.TheVariants as kind
use Rattle.hs_expr.specs.declared.Name.{Name}
use Rattle.hs_expr.specs.declared.Piece.{Piece}
use Rattle.hs_expr.specs.declared.Piece.TheVariants as piece
use Rattle.hs_expr.specs.declared.Sign.{Sign}
use Rattle.hs_expr.specs.declared.Span.{Span}
use Rattle.hs_expr.specs.declared.Value.TheVariants as value
use Rattle.hs_expr.specs.Evaluation.{binary_kind, not_kind, minus_kind}
use Rattle.hs_expr.specs.Steps.{◌>>=◌, demand, needed}
use Rattle.hs_expr.specs.Trees.{Tree, Leaf, Not, Minus, Binary}

-- What names denote in expressions: a data parameter's number and kind; a node's number, and
-- whether it is on the left side; and, by the name of its node and its own, an attribute's number
-- and kind.
pub record Names : Type 0 where
  pub param : List ℕ → Option (ℕ × Kind)
  pub node : List ℕ → Option (ℕ × Bool)
  pub attribute : List ℕ → List ℕ → Option (ℕ × Kind)

-- A checked expression with its kind, or the first fault.
abbrev pub Outcome : Type 0
Outcome = Result (Expr × Kind) ExprFault

-- This is wrong at this place.
abbrev pub wrong_at : Span → Wrong → ExprFault
wrong_at place what = record { at = place; kind = what }

-- A lone name is a data parameter's.
abbrev pub param_read : Names → Name → Outcome
param_read names name = do
  p ← needed (names.param name.text) (wrong_at name.span UnknownName)
  Ok (expr.Param p.0, p.1)

-- The slot that is read: its node is one that is known, and is on the left side; its attribute is
-- one of the node's.
abbrev pub slot_read : Names → Name → Name → Outcome
slot_read names owner name = do
  n ← needed (names.node owner.text) (wrong_at owner.span UnknownNode)
  _ ← demand n.1 (wrong_at owner.span NotRead)
  a ← needed (names.attribute owner.text name.text) (wrong_at name.span UnknownAttribute)
  Ok (expr.Slot (record { node = n.0; attribute = a.0 }), a.1)

-- A part without operands. An operator isn't one: it misses operands of its kind.
abbrev pub leaf : Names → Piece → Outcome
leaf names (piece.Int n span) = Ok (expr.Literal (value.Int n), kind.Int)
leaf names (piece.Text t span) = Ok (expr.Literal (value.Text t), kind.Text)
leaf names (piece.Bool b span) = Ok (expr.Literal (value.Bool b), kind.Bool)
leaf names (piece.Name name) = param_read names name
leaf names (piece.Slot owner name) = slot_read names owner name
leaf names (piece.Not span) = Err (wrong_at span BadKind)
leaf names (piece.Minus span) = Err (wrong_at span BadKind)
leaf names (piece.Binary sign span) = Err (wrong_at span BadKind)

-- An operator with its checked operands: of kinds that it takes, or BadKind at it.
abbrev pub negation : Span → Expr × Kind → Outcome
negation span a = do
  k ← needed (not_kind a.1) (wrong_at span BadKind)
  Ok (expr.Not a.0, k)

abbrev pub opposition : Span → Expr × Kind → Outcome
opposition span a = do
  k ← needed (minus_kind a.1) (wrong_at span BadKind)
  Ok (expr.Minus a.0, k)

abbrev pub junction : Sign → Span → Expr × Kind → Expr × Kind → Outcome
junction sign span a b = do
  k ← needed (binary_kind sign a.1 b.1) (wrong_at span BadKind)
  Ok (expr.Binary sign a.0 b.0, k)

-- What the expression is checked to be: the operands first, from the left, then the sign or the
-- word itself.
abbrev pub check_tree : Names → Tree → Outcome
check_tree names (Leaf p) = leaf names p
check_tree names (Not span a) = do
  operand ← check_tree names a
  negation span operand
check_tree names (Minus span a) = do
  operand ← check_tree names a
  opposition span operand
check_tree names (Binary sign span a b) = do
  left ← check_tree names a
  right ← check_tree names b
  junction sign span left right
