use Rattle.std.proofs.Common.{◌≡◌, ◌++◌, drop, reverse, string_bytes}
use Rattle.std.specs.List.{flat_map}
use Rattle.hs_json_form.specs.PathText.{step_text}
use Rattle.hs_json_form.proofs.path.steps_text.Given as goal

abbrev pub invariant-loop-i : goal.invariant-loop-i
invariant-loop-i l = string_bytes l.text ++ flat_map step_text (drop l.i (reverse l.reversed)) ≡ flat_map step_text (reverse l.reversed)
