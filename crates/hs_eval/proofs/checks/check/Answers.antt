use Rattle.std.proofs.Common.{Ok, sym, ap, ◌∙◌}
use Rattle.hs_expr.specs.NameExprs.{expr_tree}
use Rattle.hs_expr.proofs.OneTree.{tree-found}
use Rattle.hs_eval.proofs.Piles.{top-some, top-result, failure-reported}
use Rattle.hs_eval.proofs.checks.check.Goals as goal

pub unwrap-requires : goal.unwrap-requires
unwrap-requires g c =
    let expr = c.args.names.now in
    top-some (g.C.Scope.names c.args.scope.now) expr.pieces c.as_slice.result.now (expr_tree expr) c.in-Ok.stack c.pop.new.self c.pop.result (sym c.as_slice.ensures) (tree-found expr) c.in-Ok.ensures c.pop.ensures

pub returns-in-Ok : goal.returns-in-Ok
returns-in-Ok g c =
    let expr = c.args.names.now in
    top-result (g.C.Scope.names c.args.scope.now) expr.pieces c.as_slice.result.now (expr_tree expr) c.in-Ok.stack c.pop.new.self c.pop.result c.unwrap.result (sym c.as_slice.ensures) (tree-found expr) c.in-Ok.ensures c.pop.ensures c.unwrap.ensures
    ∙ ap Ok (sym c.into_checked.ensures)

pub returns-in-Err : goal.returns-in-Err
returns-in-Err g c =
    let expr = c.args.names.now in
    failure-reported (g.C.Scope.names c.args.scope.now) expr.pieces c.as_slice.result.now (expr_tree expr) c.in-Err.failure (sym c.as_slice.ensures) (tree-found expr) c.in-Err.ensures
