use Rattle.std.proofs.Common.{arith, get_or}
use Rattle.hs_reach.proofs.Ranges.{has-at}
use Rattle.hs_reach.proofs.reversal.add_reversed.Goals as goal

pub add_edge-requires : goal.add_edge-requires
add_edge-requires c =
    let within = c.requires (get_or c.args.edges.now c.loop-to.to-index 0) (has-at c.args.edges.now c.loop-to.to-index c.loop-to-test.true) in
    let long = c.loop-to.invariant.long in
    omega (arith, within, long)
