use Rattle.std.proofs.Common.{rules}
use Rattle.hs_expr.specs.Equality.{lists_exact}
use Rattle.hs_types.proofs.reachability.are_same.Goals as goal

pub returns : goal.returns
returns c = rw c.eq.ensures (lists_exact (λ x y. search rules) c.args.left.now c.args.right.now)
