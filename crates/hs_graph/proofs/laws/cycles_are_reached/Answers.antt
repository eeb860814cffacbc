use Rattle.hs_graph.proofs.Inside.{inside_says}
use Rattle.hs_graph.proofs.laws.cycles_are_reached.Goals as goal

pub returns : goal.returns
returns c = inside_says
