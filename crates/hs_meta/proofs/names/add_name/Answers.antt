use Rattle.std.proofs.Common.{◌∙◌, ap, is_some}
use Rattle.std.proofs.lemmas.Map.Text.{hash_map_updates_str}
use Rattle.hs_meta.proofs.Repeats.{seen_more}
use Rattle.hs_meta.proofs.names.add_name.Goals as goal

pub returns-clause-added : goal.returns-clause-added
returns-clause-added c = λ other. ap is_some (hash_map_updates_str c.args.name.now c.args.seen.now c.insert.new.self _ c.in_ok-insert.ensures.updates other) ∙ seen_more _ _ _
