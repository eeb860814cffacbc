use Rattle.std.proofs.Common.{◌≡◌, ◌++◌, drop}
use Rattle.hs_check.specs.Expressions.{sets_in}
use Rattle.hs_check.proofs.expressions.sets_in.Given as goal

abbrev pub invariant-loop-statement : goal.invariant-loop-statement
invariant-loop-statement l = l.sets ++ sets_in l.meta l.declared (drop l.statement-index l.statements) l.part ≡ sets_in l.meta l.declared l.statements l.part
