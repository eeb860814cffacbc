use Rattle.std.proofs.Common.{◌≡◌, ◌++◌, drop}
use Rattle.hs_types.specs.Plan.{edges_for}
use Rattle.hs_apply.specs.Blocks.{block_end}
use Rattle.hs_apply.proofs.making.add_edges.Given as goal

-- the edges so far, and those that are left, are all
abbrev pub invariant-loop-edge : goal.invariant-loop-edge
invariant-loop-edge l = l.edges ++ edges_for (block_end l.block l.count) (drop l.edge-index l.edge-items) ≡ l.fn.edges ++ edges_for (block_end l.block l.count) l.edge-items
