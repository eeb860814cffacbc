-- What an expression by names means, with no checking in between.
use Rattle.std.specs.Prelude.{ℕ, ◌≡◌, List, Option, Some, None, true}
use Rattle.std.specs.Option.{option_and_then}
use Rattle.hs_eval.specs.Checking.{Names}
use Rattle.hs_expr.specs.declared.Kind.{Kind}
use Rattle.hs_expr.specs.declared.Piece.{Piece}
use Rattle.hs_expr.specs.declared.Piece.TheVariants as piece
use Rattle.hs_expr.specs.declared.Value.{Value}
use Rattle.hs_expr.specs.declared.Value.TheVariants as value
use Rattle.hs_expr.specs.Evaluation.{Env, Scope, binary_value, not_value, minus_value}
use Rattle.hs_expr.specs.Trees.{Tree, Leaf, Not, Minus, Binary}

-- The value of a part without operands: what it says, or what is read where its names lead.
abbrev pub leaf_value : Names → Env → Piece → Option Value
leaf_value names env (piece.Int n span) = Some (value.Int n)
leaf_value names env (piece.Text t span) = Some (value.Text t)
leaf_value names env (piece.Bool b span) = Some (value.Bool b)
leaf_value names env (piece.Name name) =
    option_and_then (λ p. env.param p.0) (names.param name.text)
leaf_value names env (piece.Slot owner name) =
    option_and_then (λ n. option_and_then (λ a. env.slot n.0 a.0)
    (names.attribute owner.text name.text)) (names.node owner.text)
leaf_value names env (piece.Not span) = None
leaf_value names env (piece.Minus span) = None
leaf_value names env (piece.Binary sign span) = None

-- The value of an expression by names: strict, as that of a checked one.
abbrev pub value_by_names : Names → Env → Tree → Option Value
value_by_names names env (Leaf p) = leaf_value names env p
value_by_names names env (Not span a) = option_and_then not_value (value_by_names names env a)
value_by_names names env (Minus span a) = option_and_then minus_value (value_by_names names env a)
value_by_names names env (Binary sign span a b) =
    option_and_then (λ x. option_and_then (binary_value sign x) (value_by_names names env b))
    (value_by_names names env a)

-- The numbers have the kinds that the names are said to have.
pub record Agrees (names : Names) (scope : Scope) : Type 0 where
  pub params : (name : List ℕ) (n : ℕ) (k : Kind) → names.param name ≡ Some (n, k)
      → scope.param n ≡ Some k
  pub slots : (owner name : List ℕ) (n a : ℕ) (k : Kind) → names.node owner ≡ Some (n, true)
      → names.attribute owner name ≡ Some (a, k) → scope.slot n a ≡ Some k
