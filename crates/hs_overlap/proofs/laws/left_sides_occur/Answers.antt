use Rattle.hs_overlap.proofs.CanOccur.{inverse_occurs, kernel_occurs, whole_occurs}
use Rattle.hs_overlap.proofs.laws.left_sides_occur.Goals as goal

pub returns-clause-kernel : goal.returns-clause-kernel
returns-clause-kernel c = kernel_occurs

pub returns-clause-inverted : goal.returns-clause-inverted
returns-clause-inverted c = inverse_occurs

pub returns-clause-with_part : goal.returns-clause-with_part
returns-clause-with_part c = whole_occurs
