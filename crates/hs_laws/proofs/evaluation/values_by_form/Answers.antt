use Rattle.hs_expr.proofs.Evaluations.{value_of-Binary, value_of-Literal, value_of-Minus, value_of-Not, value_of-Param, value_of-Slot}
use Rattle.hs_laws.proofs.evaluation.values_by_form.Goals as goal

pub returns-clause-literal : goal.returns-clause-literal
returns-clause-literal c = value_of-Literal

pub returns-clause-slot : goal.returns-clause-slot
returns-clause-slot c = value_of-Slot

pub returns-clause-parameter : goal.returns-clause-parameter
returns-clause-parameter c = value_of-Param

pub returns-clause-negation : goal.returns-clause-negation
returns-clause-negation c = value_of-Not

pub returns-clause-minus : goal.returns-clause-minus
returns-clause-minus c = value_of-Minus

pub returns-clause-binary : goal.returns-clause-binary
returns-clause-binary c = value_of-Binary
