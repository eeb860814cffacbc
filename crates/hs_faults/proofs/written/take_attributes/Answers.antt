use Rattle.std.proofs.Common.{None}
use Rattle.hs_faults.proofs.Slots.{updated}
use Rattle.hs_faults.proofs.written.take_attributes.Goals as goal

pub returns-in-Some-clause-left : goal.returns-in-Some-clause-left
returns-in-Some-clause-left c = updated c.args.node.now c.args.written.now c.swap_remove.new.self None c.swap_remove.ensures.updates

pub returns-in-None-clause-left : goal.returns-in-None-clause-left
returns-in-None-clause-left c = updated c.args.node.now c.args.written.now c.swap_remove.new.self None c.swap_remove.ensures.updates
