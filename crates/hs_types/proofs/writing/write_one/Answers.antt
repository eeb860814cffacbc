use Rattle.std.proofs.Common.{rules, sym, refl}
use Rattle.hs_types.proofs.Writes.{object_set, object_unchanged, rewritten_no_attribute}
use Rattle.hs_types.proofs.writing.write_one.Goals as goal

pub returns-in-Some-clause-items : goal.returns-in-Some-clause-items
returns-in-Some-clause-items c = object_set c.args.write c.in-Attribute.attribute c.args.objects.now.items c.in-Some.place c.index_mut.result.now c.write_slot.new.slots (search rules) c.requires (search rules) (search rules) (search rules) (search rules)

pub returns-in_default-clause-items : goal.returns-in_default-clause-items
returns-in_default-clause-items c = sym (object_unchanged c.args.write c.args.objects.now.items (search rules))

pub returns-in-Link-clause-items : goal.returns-in-Link-clause-items
returns-in-Link-clause-items c = sym (rewritten_no_attribute c.args.write c.args.objects.now.items (λ a. rw c.in-Link.is refl))

pub returns-in-Container-clause-items : goal.returns-in-Container-clause-items
returns-in-Container-clause-items c = sym (rewritten_no_attribute c.args.write c.args.objects.now.items (λ a. rw c.in-Container.is refl))
