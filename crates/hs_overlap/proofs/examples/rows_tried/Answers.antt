use Rattle.hs_overlap.proofs.Additions.{no_row}
use Rattle.hs_overlap.proofs.examples.rows_tried.Goals as goal

pub returns : goal.returns
returns c = no_row
