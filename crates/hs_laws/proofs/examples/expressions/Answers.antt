use Rattle.std.proofs.Common.{refl}
use Rattle.hs_expr.proofs.Evaluations.{values}
use Rattle.hs_laws.proofs.examples.expressions.Goals as goal

pub returns-clause-strict_or : goal.returns-clause-strict_or
returns-clause-strict_or c env e = simp (values, e) refl

pub returns-clause-strict_not : goal.returns-clause-strict_not
returns-clause-strict_not c env e = simp (values, e) refl

pub returns-clause-within : goal.returns-clause-within
returns-clause-within c env e = simp (values, e) refl

pub returns-clause-least_negated : goal.returns-clause-least_negated
returns-clause-least_negated c env = simp values refl
