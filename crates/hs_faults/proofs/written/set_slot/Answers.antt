use Rattle.hs_faults.proofs.Slots.{on_ok, slot_more}
use Rattle.hs_faults.proofs.written.set_slot.Goals as goal

pub returns : goal.returns
returns c = λ slots has. on_ok c.add_attribute.result (slot_more c.args.node.now c.args.attribute c.args.written.now c.add_attribute.new.written slots has) c.add_attribute.ensures
