use Rattle.std.proofs.Common.{◌≡◌, ◌++◌, ◌+◌, length, drop}
use Rattle.hs_types.specs.Plan.{objects_for}
use Rattle.hs_apply.proofs.making.add_objects.Given as goal

-- the objects so far, and those that are left, are all
abbrev pub invariant-loop-node : goal.invariant-loop-node
invariant-loop-node g l = (l.number ≡ length l.block.base + l.node-index) × (l.objects ++ objects_for l.meta (g.E.Env.reads l.env) l.block.sets l.number (drop l.node-index l.node-items) ≡ l.fn.objects ++ objects_for l.meta (g.E.Env.reads l.env) l.block.sets (length l.block.base) l.node-items)
