use Rattle.std.proofs.Common.{refl, lit<}
use Rattle.hs_expr.proofs.Evaluations.{values}
use Rattle.hs_types.specs.declared.rule.SlotKind.TheVariants.{Attribute}
use Rattle.hs_types.specs.Copies.{Copy}
use Rattle.hs_laws.specs.Bank.{copy, purge}
use Rattle.hs_laws.proofs.refusals.copies_tried.Goals as goal

pub returns-clause-balances : goal.returns-clause-balances
returns-clause-balances c = simp values refl

pub returns-clause-one_slot : goal.returns-clause-one_slot
returns-clause-one_slot c h = (h.0 0 any (lit< tt)).0.slots 0 (record { object = 1; slot = Attribute 1 }) (lit< tt) 0 (record { object = 1; slot = Attribute 1 }) (lit< tt) refl
  where
    any : Copy
    any = record { multi = record { shape = purge.shape; wheres = purge.wheres; sets = purge.sets }; found = copy 1 1 }
