-- Pieces that are one expression, counted: each operator takes its operands, and leaves one tree.
use Rattle.std.proofs.Common.{ℕ, suc, ◌≡◌, ◌≤◌, ◌+◌, ◌-◌, ◌==◌, ◌&&◌, nat_le, Bool, true, false, List, [], ◌∷◌, length, map, Option, Some, None, is_some, refl, sym, ap, subst, ◌∙◌, arith}
use Rattle.std.specs.Option.{option_and_then}
use Rattle.std.proofs.Math.Bool.{Bool-set}
use Rattle.std.proofs.lemmas.Bool.{le-leb}
use Rattle.std.proofs.lemmas.Bool.Decides.{nat_tests}
use Rattle.hs_expr.specs.declared.piece.Piece.{Piece}
use Rattle.hs_expr.specs.declared.piece.Piece.TheVariants as piece
use Rattle.hs_expr.specs.declared.name_expr.NameExpr.{NameExpr}
use Rattle.hs_expr.specs.Trees.{Tree, Leaf, Not, Minus, Binary, operands, trees_after, only_tree, tree_of}
use Rattle.hs_expr.specs.NameExprs.{name_expr, name_expr_if, tree_in, expr_tree}

-- This many trees and the pieces make one tree.
abbrev pub is_one_from : ℕ → List Piece → Bool
is_one_from n [] = n == 1
is_one_from n (p ∷ ps) = nat_le (operands p) n && is_one_from (n - operands p + 1) ps

abbrev IsOne : List Tree → List Piece → Type 0
IsOne trees ps = is_some (option_and_then only_tree (trees_after trees ps)) ≡ is_one_from (length trees) ps

-- An operator that finds its operands.
taken : (k : ℕ) (trees more : List Tree) (ps : List Piece) → k ≤ length trees → k + length more ≡ length trees + 1
    → (nat_le k (length trees) && is_one_from (length trees - k + 1) ps) ≡ is_one_from (length more) ps
taken k trees more ps h e = rw (le-leb k (length trees) h) (ap (λ n. is_one_from n ps) (omega arith))

one-from : (trees : List Tree) (ps : List Piece) → IsOne trees ps
one-from [] [] = refl
one-from (a ∷ []) [] = refl
one-from (a ∷ b ∷ trees) [] = sym (many (length trees)) where
  many : (n : ℕ) → (suc (suc n) == 1) ≡ false
  many n = grind (arith, nat_tests)
one-from trees (piece.Int value span ∷ ps) = one-from (Leaf (piece.Int value span) ∷ trees) ps ∙ sym (taken 0 trees (Leaf (piece.Int value span) ∷ trees) ps (omega arith) (omega arith))
one-from trees (piece.Text value span ∷ ps) = one-from (Leaf (piece.Text value span) ∷ trees) ps ∙ sym (taken 0 trees (Leaf (piece.Text value span) ∷ trees) ps (omega arith) (omega arith))
one-from trees (piece.Bool value span ∷ ps) = one-from (Leaf (piece.Bool value span) ∷ trees) ps ∙ sym (taken 0 trees (Leaf (piece.Bool value span) ∷ trees) ps (omega arith) (omega arith))
one-from trees (piece.Name name ∷ ps) = one-from (Leaf (piece.Name name) ∷ trees) ps ∙ sym (taken 0 trees (Leaf (piece.Name name) ∷ trees) ps (omega arith) (omega arith))
one-from trees (piece.Slot node attribute ∷ ps) = one-from (Leaf (piece.Slot node attribute) ∷ trees) ps ∙ sym (taken 0 trees (Leaf (piece.Slot node attribute) ∷ trees) ps (omega arith) (omega arith))
one-from [] (piece.Not span ∷ ps) = refl
one-from (a ∷ trees) (piece.Not span ∷ ps) = one-from (Not span a ∷ trees) ps ∙ sym (taken 1 (a ∷ trees) (Not span a ∷ trees) ps (omega arith) (omega arith))
one-from [] (piece.Minus span ∷ ps) = refl
one-from (a ∷ trees) (piece.Minus span ∷ ps) = one-from (Minus span a ∷ trees) ps ∙ sym (taken 1 (a ∷ trees) (Minus span a ∷ trees) ps (omega arith) (omega arith))
one-from [] (piece.Binary sign span ∷ ps) = refl
one-from (a ∷ []) (piece.Binary sign span ∷ ps) = refl
one-from (b ∷ a ∷ trees) (piece.Binary sign span ∷ ps) =
    one-from (Binary sign span a b ∷ trees) ps
    ∙ sym (taken 2 (b ∷ a ∷ trees) (Binary sign span a b ∷ trees) ps (omega arith) (omega arith))

pub one-counted : (ps : List Piece) → is_some (tree_of ps) ≡ is_one_from 0 ps
one-counted ps = one-from [] ps

counted-map : (f : Piece → Piece) → ((p : Piece) → operands (f p) ≡ operands p) → (n : ℕ) (ps : List Piece) → is_one_from n (map f ps) ≡ is_one_from n ps
counted-map f same n [] = refl
counted-map f same n (p ∷ ps) =
    ap (λ k. nat_le k n && is_one_from (n - k + 1) (map f ps)) (same p)
    ∙ ap (λ b. nat_le (operands p) n && b) (counted-map f same (n - operands p + 1) ps)

-- Other pieces that take as many operands each are one expression where these are.
pub one-map : (f : Piece → Piece) → ((p : Piece) → operands (f p) ≡ operands p) → (ps : List Piece) → is_some (tree_of (map f ps)) ≡ is_some (tree_of ps)
one-map f same ps = one-counted (map f ps) ∙ counted-map f same 0 ps ∙ sym (one-counted ps)

abbrev pub record_of : (ps : List Piece) → is_some (tree_of ps) ≡ true → NameExpr
record_of ps one = record { pieces = ps; one = one }

-- Expressions with the same pieces are the same.
pub same-expr : (ps qs : List Piece) (e : is_some (tree_of ps) ≡ true) (f : is_some (tree_of qs) ≡ true) → ps ≡ qs → record_of ps e ≡ record_of qs f
same-expr ps qs e f same = subst (λ xs. (g : is_some (tree_of xs) ≡ true) → record_of ps e ≡ record_of xs g) same (λ g. ap (record_of ps) (Bool-set (is_some (tree_of ps)) true e g)) f

-- Pieces that are one expression have it.
pub expr-found : (expr : NameExpr) → name_expr expr.pieces ≡ Some expr
unfolding name_expr
expr-found expr = step (is_some (tree_of expr.pieces)) refl expr.one where
  step : (test : Bool) (e : is_some (tree_of expr.pieces) ≡ test) → is_some (tree_of expr.pieces) ≡ true → name_expr_if expr.pieces test e ≡ Some expr
  step true e one = ap (λ h. Some (record_of expr.pieces h)) (Bool-set (is_some (tree_of expr.pieces)) true e expr.one)
  step false e one = cc

-- Other pieces have none.
pub expr-absent : (ps : List Piece) → is_some (tree_of ps) ≡ false → name_expr ps ≡ None
unfolding name_expr
expr-absent ps none = step (is_some (tree_of ps)) refl none where
  step : (test : Bool) (e : is_some (tree_of ps) ≡ test) → test ≡ false → name_expr_if ps test e ≡ None
  step true e none = cc
  step false e none = refl

-- An expression has its tree.
pub tree-found : (expr : NameExpr) → tree_of expr.pieces ≡ Some (expr_tree expr)
tree-found expr = step (tree_of expr.pieces) expr.one where
  step : (o : Option Tree) (e : is_some o ≡ true) → o ≡ Some (tree_in o e)
  step (Some tree) e = refl
  step None e = cc

pub ruleset expr_trees = (expr-found, tree-found)
