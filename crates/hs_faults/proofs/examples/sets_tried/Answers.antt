use Rattle.std.proofs.Common.{refl}
use Rattle.hs_faults.specs.StatementFaults.{set_checked}
use Rattle.hs_faults.proofs.examples.sets_tried.Goals as goal

pub returns : goal.returns
unfolding set_checked
returns c = record { fine = refl; again = refl; deleted = refl; unknown = refl }
