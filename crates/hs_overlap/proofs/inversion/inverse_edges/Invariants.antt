use Rattle.std.proofs.Common.{◌≡◌, ◌++◌, drop}
use Rattle.hs_overlap.specs.Inverses.{inverse_edges}
use Rattle.hs_overlap.proofs.inversion.inverse_edges.Given as goal

abbrev pub invariant-loop-edge : goal.invariant-loop-edge
invariant-loop-edge l = l.inverse ++ inverse_edges (drop l.edge-index l.edges) ≡ inverse_edges l.edges
