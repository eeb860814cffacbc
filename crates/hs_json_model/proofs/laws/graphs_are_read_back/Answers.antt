use Rattle.hs_json_model.proofs.GraphBack.{graph_back}
use Rattle.hs_json_model.proofs.Opened.{opening_same}
use Rattle.hs_json_model.proofs.TextBack.{text_back}
use Rattle.hs_json_model.proofs.laws.graphs_are_read_back.Goals as goal

pub returns-clause-numbered : goal.returns-clause-numbered
returns-clause-numbered c = graph_back

pub returns-clause-text : goal.returns-clause-text
returns-clause-text c = text_back

pub returns-clause-itself : goal.returns-clause-itself
returns-clause-itself c = opening_same c.hash_names_are_numbers.ensures.name c.hash_names_are_numbers.ensures.number
