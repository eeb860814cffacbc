use Rattle.std.proofs.Common.{◌≡◌, ◌++◌, drop}
use Rattle.hs_expr.specs.Verdict.{each, each_from}
use Rattle.hs_check.specs.Rules.{require_at}
use Rattle.hs_check.proofs.rules.requires_of.Given as goal

abbrev pub invariant-loop-i : goal.invariant-loop-i
invariant-loop-i l = l.homes ++ each_from require_at l.i (drop l.i l.items) ≡ each require_at l.items
