use Rattle.std.proofs.Common.{◌≡◌, ◌+◌, ◌-◌, ◌&&◌, nat_le, Bool, List, [], ◌∷◌, false, true, length, drop, refl, sym, ap, ◌∙◌, arith}
use Rattle.std.proofs.lemmas.List.{drop_more, length-drop}
use Rattle.std.proofs.lemmas.Bool.Decides.{nat_tests}
use Rattle.hs_expr.specs.declared.piece.Piece.{Piece}
use Rattle.hs_expr.specs.Trees.{operands}
use Rattle.hs_expr.proofs.OneTree.{is_one_from, one-counted}
use Rattle.hs_expr.proofs.name_expr.is_one.Goals as goal

few : (a b : Bool) → a ≡ false → (a && b) ≡ false
few true b e = cc
few false b e = refl

pub returns-then-trees-operands : goal.returns-then-trees-operands
returns-then-trees-operands c =
    let pieces = c.args.pieces.now in
    let i = c.loop-piece.piece-index in
    let item = c.piece-item.result in
    let more = drop (i + 1) pieces in
    let rest : drop i pieces ≡ item ∷ more = drop_more pieces i item c.loop-piece-test.true ∙ ap (λ x. x ∷ more) (sym c.piece-item.is) in
    let low : nat_le (operands item) c.loop-piece.trees ≡ false = grind (arith, nat_tests) in
    sym (one-counted pieces ∙ sym c.loop-piece.invariant.counted ∙ ap (is_one_from c.loop-piece.trees) rest
    ∙ few (nat_le (operands item) c.loop-piece.trees) (is_one_from (c.loop-piece.trees - operands item + 1) more) low)

pub returns : goal.returns
returns c =
    let pieces = c.args.pieces.now in
    let i = c.loop-piece.piece-index in
    let none : drop i pieces ≡ [] = no-items (drop i pieces) (omega (arith, length-drop i pieces)) in
    sym (one-counted pieces ∙ sym c.loop-piece.invariant.counted ∙ ap (is_one_from c.loop-piece.trees) none)
  where
    no-items : (xs : List Piece) → length xs ≡ 0 → xs ≡ []
    no-items [] e = refl
    no-items (x ∷ xs) e = absurd (omega arith)
