use Rattle.std.proofs.Common.{◌≡◌, ◌++◌, drop}
use Rattle.hs_types.specs.Plan.{writes_of}
use Rattle.hs_apply.specs.Blocks.{block_images, block_nodes}
use Rattle.hs_apply.proofs.writes.add_writes.Given as goal

-- the writes so far, and those that are left, are all
abbrev pub invariant-loop-item : goal.invariant-loop-item
invariant-loop-item g l = l.writes ++ writes_of (g.E.Env.reads l.env) (block_nodes l.block) (block_images l.block) (drop l.item-index l.item-items) ≡ l.fn.writes ++ writes_of (g.E.Env.reads l.env) (block_nodes l.block) (block_images l.block) l.item-items
