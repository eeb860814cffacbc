use Rattle.std.proofs.Common.{◌≡◌, ◌++◌, drop}
use Rattle.hs_expr.specs.Verdict.{each_from}
use Rattle.hs_faults.specs.Statements.{statements, statements_of_item}
use Rattle.hs_faults.proofs.statements.statements.Given as goal

abbrev pub invariant-loop-i : goal.invariant-loop-i
invariant-loop-i l = l.all ++ each_from statements_of_item l.i (drop l.i l.items) ≡ statements l.items
