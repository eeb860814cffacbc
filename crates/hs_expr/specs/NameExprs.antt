-- Expressions by names: the one that pieces are, and its tree.
use Rattle.std.specs.Prelude.{◌≡◌, Bool, true, false, List, Option, Some, None, is_some, refl}
use Rattle.std.proofs.lemmas.Bool.{false≢true}
use Rattle.hs_expr.specs.declared.piece.Piece.{Piece}
use Rattle.hs_expr.specs.declared.name_expr.NameExpr.{NameExpr}
use Rattle.hs_expr.specs.Trees.{Tree, tree_of}

abbrev pub name_expr_if : (ps : List Piece) (test : Bool) → is_some (tree_of ps) ≡ test
    → Option NameExpr
name_expr_if ps true one = Some (record { pieces = ps; one = one })
name_expr_if ps false one = None

-- The expression that has these pieces, where they are one.
unfoldable pub name_expr : List Piece → Option NameExpr
name_expr ps = name_expr_if ps (is_some (tree_of ps)) refl

abbrev pub tree_in : (o : Option Tree) → is_some o ≡ true → Tree
tree_in (Some tree) one = tree
tree_in None one = absurd (false≢true one)

-- The tree of an expression.
abbrev pub expr_tree : NameExpr → Tree
expr_tree expr = tree_in (tree_of expr.pieces) expr.one
