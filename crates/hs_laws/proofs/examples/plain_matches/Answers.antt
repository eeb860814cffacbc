use Rattle.std.proofs.Common.{refl, rules}
use Rattle.hs_types.specs.Metamodel.{itself}
use Rattle.hs_laws.proofs.examples.plain_matches.Goals as goal

pub returns-clause-two_edges : goal.returns-clause-two_edges
returns-clause-two_edges c = record {
  nodes_fit = (itself 0, (itself 1, tt));
  edges_fit = (refl, (refl, tt));
  nodes_differ = search rules;
  edges_differ = search rules;
}
