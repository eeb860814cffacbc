use Rattle.std.proofs.Common.{refl}
use Rattle.hs_faults.specs.StatementFaults.{edge_checked}
use Rattle.hs_faults.proofs.examples.edges_tried.Goals as goal

pub returns : goal.returns
unfolding edge_checked
returns c = record { fine = refl; classes = refl; marks = refl }
