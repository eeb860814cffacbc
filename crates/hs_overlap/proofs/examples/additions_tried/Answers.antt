use Rattle.std.proofs.Common.{[], ◌∷◌}
use Rattle.hs_laws.specs.Bank.{add, model}
use Rattle.hs_overlap.specs.declared.pair.Pair.TheVariants.{Node, Slot}
use Rattle.hs_overlap.proofs.Additions.{add_occurs, balance_reason, no_account, no_balance, not_there, out_of_order, overlaps, twice}
use Rattle.hs_overlap.proofs.examples.additions_tried.Goals as goal

pub returns-clause-balance : goal.returns-clause-balance
returns-clause-balance c = balance_reason ((c.glue.ensures model add.shape add.shape c.metamodels.ensures.is_meta add_occurs add_occurs (Node 0 0 ∷ Slot 0 0 ∷ [])).1 overlaps)

pub returns-clause-no_balance : goal.returns-clause-no_balance
returns-clause-no_balance c = no_balance

pub returns-clause-no_account : goal.returns-clause-no_account
returns-clause-no_account c = λ h. no_account h (c.reasons_are_spans.ensures model add.shape add.shape c.metamodels.ensures.is_meta add_occurs add_occurs (Slot 0 0 ∷ []) h)

pub returns-clause-out_of_order : goal.returns-clause-out_of_order
returns-clause-out_of_order c = out_of_order

pub returns-clause-twice : goal.returns-clause-twice
returns-clause-twice c = twice

pub returns-clause-not_there : goal.returns-clause-not_there
returns-clause-not_there c = not_there
