use Rattle.std.proofs.Common.{◌≡◌, ◌++◌, drop}
use Rattle.hs_expr.specs.Verdict.{each_from}
use Rattle.hs_faults.specs.Nodes.{written_nodes, nodes_of_item}
use Rattle.hs_faults.proofs.nodes.written_nodes.Given as goal

abbrev pub invariant-loop-i : goal.invariant-loop-i
invariant-loop-i l = l.nodes ++ each_from nodes_of_item l.i (drop l.i l.items) ≡ written_nodes l.items
