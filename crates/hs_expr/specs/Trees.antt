-- Expressions as trees. Their pieces are in postfix order; the tree says which operands each
-- operator has.
use Rattle.std.specs.Prelude.{ℕ, List, [], ◌∷◌, ◌++◌, Option, Some, None}
use Rattle.std.specs.Option.{option_and_then}
use Rattle.hs_expr.specs.declared.piece.Span.{Span}
use Rattle.hs_expr.specs.declared.expr.Sign.{Sign}
use Rattle.hs_expr.specs.declared.piece.Piece.{Piece}
use Rattle.hs_expr.specs.declared.piece.Piece.TheVariants as piece

-- A literal, a name or a slot; or an operator with its operands.
pub data Tree : Type 0 where
  Leaf : Piece → Tree
  Not : Span → Tree → Tree
  Minus : Span → Tree → Tree
  Binary : Sign → Span → Tree → Tree → Tree

-- How many operands a piece takes.
abbrev pub operands : Piece → ℕ
operands (piece.Not span) = 1
operands (piece.Minus span) = 1
operands (piece.Binary sign span) = 2
operands _ = 0

-- The trees after a piece, the last one first: an operator takes its operands, which are the last
-- ones.
-- There are none where it doesn't find them.
abbrev pub trees_after_piece : Piece → List Tree → Option (List Tree)
trees_after_piece (piece.Int value span) trees = Some (Leaf (piece.Int value span) ∷ trees)
trees_after_piece (piece.Text value span) trees = Some (Leaf (piece.Text value span) ∷ trees)
trees_after_piece (piece.Bool value span) trees = Some (Leaf (piece.Bool value span) ∷ trees)
trees_after_piece (piece.Name name) trees = Some (Leaf (piece.Name name) ∷ trees)
trees_after_piece (piece.Slot node attribute) trees =
    Some (Leaf (piece.Slot node attribute) ∷ trees)
trees_after_piece (piece.Not span) (a ∷ trees) = Some (Not span a ∷ trees)
trees_after_piece (piece.Not span) [] = None
trees_after_piece (piece.Minus span) (a ∷ trees) = Some (Minus span a ∷ trees)
trees_after_piece (piece.Minus span) [] = None
trees_after_piece (piece.Binary sign span) (b ∷ a ∷ trees) = Some (Binary sign span a b ∷ trees)
trees_after_piece (piece.Binary sign span) (a ∷ []) = None
trees_after_piece (piece.Binary sign span) [] = None

-- The trees after some pieces.
abbrev pub trees_after : List Tree → List Piece → Option (List Tree)
trees_after trees [] = Some trees
trees_after trees (p ∷ ps) =
    option_and_then (λ more. trees_after more ps) (trees_after_piece p trees)

-- The tree, where there is one and no other.
abbrev pub only_tree : List Tree → Option Tree
only_tree [] = None
only_tree (a ∷ []) = Some a
only_tree (a ∷ b ∷ trees) = None

-- The tree of the pieces of an expression; none where they aren't one expression.
abbrev pub tree_of : List Piece → Option Tree
tree_of ps = option_and_then only_tree (trees_after [] ps)

-- The pieces of a tree in postfix order.
abbrev pub postfix : Tree → List Piece
postfix (Leaf p) = p ∷ []
postfix (Not span a) = postfix a ++ piece.Not span ∷ []
postfix (Minus span a) = postfix a ++ piece.Minus span ∷ []
postfix (Binary sign span a b) = postfix a ++ (postfix b ++ piece.Binary sign span ∷ [])
