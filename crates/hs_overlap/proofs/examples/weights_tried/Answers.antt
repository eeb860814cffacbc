use Rattle.hs_overlap.proofs.Additions.{add_weight}
use Rattle.hs_overlap.proofs.examples.weights_tried.Goals as goal

pub returns : goal.returns
returns c = record { accounts = add_weight }
