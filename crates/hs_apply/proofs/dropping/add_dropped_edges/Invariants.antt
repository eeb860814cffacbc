use Rattle.std.proofs.Common.{◌≡◌, ◌++◌, drop}
use Rattle.hs_expr.specs.Lists.{beside}
use Rattle.hs_types.specs.Pattern.{is_drop, left_edges}
use Rattle.hs_apply.proofs.dropping.add_dropped_edges.Given as goal

-- the images so far, and those that are left, are all
abbrev pub invariant-loop-index : goal.invariant-loop-index
invariant-loop-index l = l.dropped ++ beside (λ edge. is_drop edge.mark) (drop l.index (left_edges l.edges)) (drop l.index l.images) ≡ l.fn.dropped ++ beside (λ edge. is_drop edge.mark) (left_edges l.edges) l.images
