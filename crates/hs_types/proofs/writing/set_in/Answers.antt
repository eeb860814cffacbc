use Rattle.std.proofs.Common.{rules, sym}
use Rattle.hs_types.proofs.Writes.{slot_set, slot_unchanged}
use Rattle.hs_types.proofs.writing.set_in.Goals as goal

pub returns-in-Some : goal.returns-in-Some
returns-in-Some c = slot_set c.args.attribute c.args.value c.args.row.now.items c.in-Some.place c.index_mut.result.now c.requires (search rules) (search rules) (search rules)

pub returns-in_default : goal.returns-in_default
returns-in_default c = sym (slot_unchanged c.args.attribute c.args.value c.args.row.now.items (search rules))
