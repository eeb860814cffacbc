use Rattle.std.proofs.Common.{◌≡◌, arith, length, subst}
use Rattle.hs_overlap.specs.Weights.{HaveOneReference, IsCappedProduct}
use Rattle.hs_overlap.proofs.Counts.{product_none, product_push}
use Rattle.hs_overlap.proofs.bound.edge_ways.Goals as goal

pub loop-x-init : goal.loop-x-init
loop-x-init c = product_none (HaveOneReference c.args.first.now c.args.second.now)

pub loop-x-preserved : goal.loop-x-preserved
loop-x-preserved c = rw c.times-ways.ensures (product_push (HaveOneReference c.args.first.now c.args.second.now) c.loop-x.x c.loop-x.ways c.edge_partners.result c.loop-x.invariant c.edge_partners.ensures.exact)

pub returns : goal.returns
returns c =
    let all : c.loop-x.x ≡ length c.args.first.now.edges = omega arith in
    subst (λ n. IsCappedProduct (HaveOneReference c.args.first.now c.args.second.now) n c.loop-x.ways) all c.loop-x.invariant
