use Rattle.std.proofs.Common.{◌∙◌, ap}
use Rattle.serde_json.specs.Written.{has_float}
use Rattle.henshin.proofs.Floats.{entry_none}
use Rattle.henshin.proofs.lines.add_entries.Goals as goal

pub add_line-requires : goal.add_line-requires
add_line-requires c = ap has_float c.in_ok-line.ensures ∙ entry_none c.args.rules.now c.loop-place.place c.index-entries-place.result
