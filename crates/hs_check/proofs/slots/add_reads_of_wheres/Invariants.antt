use Rattle.std.proofs.Common.{◌≡◌, ◌++◌, drop}
use Rattle.std.specs.List.{flat_map}
use Rattle.hs_expr.specs.Evaluation.{reads_of}
use Rattle.hs_check.proofs.slots.add_reads_of_wheres.Given as goal

abbrev pub invariant-loop-test : goal.invariant-loop-test
invariant-loop-test l = l.reads ++ flat_map reads_of (drop l.test-index l.wheres) ≡ l.fn.reads ++ flat_map reads_of l.wheres
