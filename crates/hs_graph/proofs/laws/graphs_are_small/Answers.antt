use Rattle.hs_graph.proofs.Opening.{few-edges, few-objects, low-names}
use Rattle.hs_graph.proofs.laws.graphs_are_small.Goals as goal

pub returns-clause-objects : goal.returns-clause-objects
returns-clause-objects c = few-objects

pub returns-clause-edges : goal.returns-clause-edges
returns-clause-edges c = few-edges

pub returns-clause-names : goal.returns-clause-names
returns-clause-names c = low-names
