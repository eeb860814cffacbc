use Rattle.std.proofs.Common.{◌∙◌, ap}
use Rattle.serde_json.specs.Written.{has_float}
use Rattle.hs_json.proofs.Floats.{count_none}
use Rattle.hs_json.proofs.problem_lines.add_count.Goals as goal

pub add_line-requires : goal.add_line-requires
add_line-requires c = ap has_float c.in_ok-line.ensures ∙ count_none c.args.count
