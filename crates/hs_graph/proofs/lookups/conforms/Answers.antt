use Rattle.hs_types.proofs.Conforming.{conforms_test}
use Rattle.hs_graph.proofs.lookups.conforms.Goals as goal

pub returns : goal.returns
returns c = conforms_test _ _ _ _ c.conforms.ensures
