use Rattle.hs_laws.proofs.Overflow.{leaves-none, none-leaves}
use Rattle.hs_laws.proofs.evaluation.no_value_means_overflow.Goals as goal

pub returns-clause-leaves : goal.returns-clause-leaves
returns-clause-leaves c = none-leaves

pub returns-clause-only : goal.returns-clause-only
returns-clause-only c = leaves-none
