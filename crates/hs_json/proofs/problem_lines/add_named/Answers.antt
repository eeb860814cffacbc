use Rattle.std.proofs.Common.{◌∙◌, ap}
use Rattle.serde_json.specs.Written.{has_float}
use Rattle.hs_json.proofs.Floats.{problem_none}
use Rattle.hs_json.proofs.problem_lines.add_named.Goals as goal

pub add_line-requires : goal.add_line-requires
add_line-requires c = ap has_float c.in_ok-line.ensures ∙ problem_none c.args.meta.now c.args.object.now c.args.kind
