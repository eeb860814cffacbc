use Rattle.std.proofs.Common.{is_some, sym, ap, ◌∙◌}
use Rattle.hs_expr.specs.Trees.{tree_of}
use Rattle.hs_expr.proofs.OneTree.{expr-found, expr-absent}
use Rattle.hs_expr.proofs.name_expr.NameExpr.new.Goals as goal

pub returns-then-is_one : goal.returns-then-is_one
returns-then-is_one c = sym (expr-found _)

pub returns-else-is_one : goal.returns-else-is_one
returns-else-is_one c = sym (expr-absent c.args.pieces (ap (λ ps. is_some (tree_of ps)) (sym c.as_slice.ensures) ∙ sym c.is_one.ensures ∙ c.if-is_one.false))
