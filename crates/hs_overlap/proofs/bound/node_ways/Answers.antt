use Rattle.std.proofs.Common.{◌≡◌, arith, length, subst}
use Rattle.hs_overlap.specs.Overlaps.{NodesMeet}
use Rattle.hs_overlap.specs.Weights.{IsCappedProduct}
use Rattle.hs_overlap.proofs.Counts.{product_none, product_push}
use Rattle.hs_overlap.proofs.bound.node_ways.Goals as goal

pub loop-i-init : goal.loop-i-init
loop-i-init c = product_none (NodesMeet c.args.meta.now c.args.first.now c.args.second.now)

pub loop-i-preserved : goal.loop-i-preserved
loop-i-preserved c = rw c.times-ways.ensures (product_push (NodesMeet c.args.meta.now c.args.first.now c.args.second.now) c.loop-i.i c.loop-i.ways c.node_partners.result c.loop-i.invariant c.node_partners.ensures.exact)

pub returns : goal.returns
returns c =
    let all : c.loop-i.i ≡ length c.args.first.now.nodes = omega arith in
    subst (λ n. IsCappedProduct (NodesMeet c.args.meta.now c.args.first.now c.args.second.now) n c.loop-i.ways) all c.loop-i.invariant
