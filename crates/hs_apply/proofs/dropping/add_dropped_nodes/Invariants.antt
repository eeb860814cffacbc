use Rattle.std.proofs.Common.{◌≡◌, ◌++◌, drop}
use Rattle.hs_expr.specs.Lists.{beside}
use Rattle.hs_types.specs.Pattern.{is_drop, left_nodes}
use Rattle.hs_apply.proofs.dropping.add_dropped_nodes.Given as goal

-- the images so far, and those that are left, are all
abbrev pub invariant-loop-index : goal.invariant-loop-index
invariant-loop-index l = l.dropped ++ beside (λ node. is_drop node.mark) (drop l.index (left_nodes l.nodes)) (drop l.index l.images) ≡ l.fn.dropped ++ beside (λ node. is_drop node.mark) (left_nodes l.nodes) l.images
