use Rattle.std.proofs.Common.{◌≡◌, ◌++◌, drop}
use Rattle.hs_overlap.specs.Inverses.{inverse_nodes}
use Rattle.hs_overlap.proofs.inversion.inverse_nodes.Given as goal

abbrev pub invariant-loop-node : goal.invariant-loop-node
invariant-loop-node l = l.inverse ++ inverse_nodes (drop l.node-index l.nodes) ≡ inverse_nodes l.nodes
