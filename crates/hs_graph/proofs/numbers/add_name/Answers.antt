use Rattle.std.proofs.lemmas.Map.Text.{hash_map_updates_str}
use Rattle.hs_graph.proofs.numbers.add_name.Goals as goal

pub returns-clause-added : goal.returns-clause-added
returns-clause-added c = λ other. hash_map_updates_str c.args.name.now c.args.numbers.now c.insert.new.self _ c.in_ok-insert.ensures.updates other
