use Rattle.hs_graph.proofs.Hash.{name-of_hash, number-of_hash}
use Rattle.hs_graph.proofs.laws.hash_names_are_numbers.Goals as goal

pub returns-clause-number : goal.returns-clause-number
returns-clause-number c = number-of_hash

pub returns-clause-name : goal.returns-clause-name
returns-clause-name c = name-of_hash
