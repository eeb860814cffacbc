use Rattle.std.proofs.Common.{◌≡◌, ◌++◌, drop}
use Rattle.hs_expr.specs.Verdict.{each, each_from}
use Rattle.hs_check.specs.Rules.{multi_at}
use Rattle.hs_check.proofs.rules.multis.Given as goal

abbrev pub invariant-loop-i : goal.invariant-loop-i
invariant-loop-i l = l.homes ++ each_from multi_at l.i (drop l.i l.items) ≡ each multi_at l.items
