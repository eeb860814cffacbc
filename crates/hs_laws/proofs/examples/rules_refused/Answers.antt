use Rattle.std.proofs.Common.{ℕ, false, refl, lit<}
use Rattle.std.proofs.lemmas.Bool.{both_ways}
use Rattle.hs_types.specs.declared.rule.Mark.TheVariants.{Keep}
use Rattle.hs_types.specs.declared.rule.SlotKind.TheVariants.{Attribute}
use Rattle.hs_types.specs.RuleForm.{NodeSlot}
use Rattle.hs_laws.specs.Bank.{arrow}
use Rattle.hs_laws.proofs.examples.rules_refused.Goals as goal

pub returns-clause-no_hanging : goal.returns-clause-no_hanging
returns-clause-no_hanging c h = both_ways false refl (h.kernel.form.edges_fit 0 (arrow 0 0 0 Keep) (lit< tt)).0.0

abbrev slot_of : ℕ → NodeSlot
slot_of n = record { node = n; kind = Attribute 1 }

pub returns-clause-no_missing_slot : goal.returns-clause-no_missing_slot
returns-clause-no_missing_slot c h = both_ways false refl (h.kernel.slots.all_written 0 (slot_of 0) (lit< tt) refl)
