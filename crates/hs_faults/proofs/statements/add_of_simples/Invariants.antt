use Rattle.std.proofs.Common.{◌≡◌, ◌++◌, drop}
use Rattle.std.specs.List.{flat_map}
use Rattle.hs_faults.specs.Statements.{statement_of_simple}
use Rattle.hs_faults.proofs.statements.add_of_simples.Given as goal

abbrev pub invariant-loop-simple : goal.invariant-loop-simple
invariant-loop-simple l = l.all ++ flat_map (statement_of_simple l.block) (drop l.simple-index l.simples) ≡ l.fn.all ++ flat_map (statement_of_simple l.block) l.simples
