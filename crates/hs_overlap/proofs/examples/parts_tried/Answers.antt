use Rattle.hs_overlap.proofs.Additions.{no_atom, no_part}
use Rattle.hs_overlap.proofs.examples.parts_tried.Goals as goal

pub returns : goal.returns
returns c = record { no_part = no_part; no_atom = no_atom }
