use Rattle.hs_graph.proofs.Opening.{opening}
use Rattle.hs_graph.proofs.laws.graphs_are_opening.Goals as goal

pub returns-clause-opening : goal.returns-clause-opening
returns-clause-opening c = opening

pub returns-clause-typed : goal.returns-clause-typed
returns-clause-typed c = λ m objects is e. (opening m objects is e).typed
