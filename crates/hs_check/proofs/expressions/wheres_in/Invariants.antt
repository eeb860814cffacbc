use Rattle.std.proofs.Common.{◌≡◌, ◌++◌, drop}
use Rattle.hs_check.specs.Expressions.{wheres_in}
use Rattle.hs_check.proofs.expressions.wheres_in.Given as goal

abbrev pub invariant-loop-statement : goal.invariant-loop-statement
invariant-loop-statement l = l.wheres ++ wheres_in (drop l.statement-index l.statements) l.part ≡ wheres_in l.statements l.part
