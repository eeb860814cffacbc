use Rattle.hs_apply.proofs.Blocks.{planned}
use Rattle.hs_apply.proofs.planning.plan.Goals as goal

pub returns : goal.returns
returns g c = planned (g.H.Host.metamodel c.args.host.now) (g.H.Host.graph c.args.host.now) c.args.rule.now c.args.args.now c.args.found.now c.new-plan.result c.add_block.new.plan c.add_all_copies.new.plan c.of_kernel-kernel.result c.new-plan.ensures c.of_kernel-kernel.ensures c.in_ok-add_block.ensures c.in_ok-add_all_copies.ensures
