use Rattle.std.proofs.Common.{◌≡◌, ◌++◌, drop}
use Rattle.std.specs.List.{flat_map}
use Rattle.hs_faults.specs.Nodes.{node_of_simple}
use Rattle.hs_faults.proofs.nodes.add_of_simples.Given as goal

abbrev pub invariant-loop-simple : goal.invariant-loop-simple
invariant-loop-simple l = l.nodes ++ flat_map (node_of_simple l.block) (drop l.simple-index l.simples) ≡ l.fn.nodes ++ flat_map (node_of_simple l.block) l.simples
