use Rattle.std.proofs.Common.{◌≡◌, ◌++◌, drop}
use Rattle.hs_expr.specs.Verdict.{each_from}
use Rattle.hs_faults.specs.Sizes.{block_of, blocks}
use Rattle.hs_faults.proofs.sizes.blocks.Given as goal

abbrev pub invariant-loop-i : goal.invariant-loop-i
invariant-loop-i l = l.blocks ++ each_from block_of l.i (drop l.i l.items) ≡ blocks l.items
