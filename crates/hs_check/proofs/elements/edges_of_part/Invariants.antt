use Rattle.std.proofs.Common.{◌≡◌, ◌++◌, drop}
use Rattle.hs_check.specs.Elements.{edges_of_part}
use Rattle.hs_check.proofs.elements.edges_of_part.Given as goal

abbrev pub invariant-loop-statement : goal.invariant-loop-statement
invariant-loop-statement l = l.edges ++ edges_of_part l.meta l.declared (drop l.statement-index l.statements) l.part ≡ edges_of_part l.meta l.declared l.statements l.part
