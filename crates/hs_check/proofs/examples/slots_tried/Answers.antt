use Rattle.std.proofs.Common.{refl}
use Rattle.hs_expr.proofs.Evaluations.{nestings, reads}
use Rattle.hs_check.proofs.examples.slots_tried.Goals as goal

pub returns-clause-wheres : goal.returns-clause-wheres
returns-clause-wheres c = simp nestings refl

pub returns-clause-sets : goal.returns-clause-sets
returns-clause-sets c = simp nestings refl

pub returns-clause-multi_sets : goal.returns-clause-multi_sets
returns-clause-multi_sets c = simp nestings refl

pub returns-clause-slots : goal.returns-clause-slots
returns-clause-slots c = simp (nestings, reads) refl

pub returns-clause-multi_slots : goal.returns-clause-multi_slots
returns-clause-multi_slots c = simp (nestings, reads) refl
