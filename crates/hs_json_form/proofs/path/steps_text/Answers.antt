use Rattle.std.proofs.Common.{◌++◌, ◌+◌, ◌∙◌, drop, reverse, string_bytes, append_assoc, ap, sym}
use Rattle.std.specs.List.{flat_map}
use Rattle.hs_json_form.specs.PathText.{step_text}
use Rattle.hs_json_form.proofs.PathText.{next_step}
use Rattle.hs_json_form.proofs.path.steps_text.Goals as goal

pub loop-i-preserved : goal.loop-i-preserved
loop-i-preserved c =
    let steps = c.args.reversed.now in
    let i = c.loop-i.i in
    let before = string_bytes c.loop-i.text in
    let step = c.index-reversed-reversed.result in
    let rest = flat_map step_text (drop (i + 1) (reverse steps)) in
    ap (λ text. text ++ rest) c.in_ok-add_step.ensures
    ∙ append_assoc before (step_text step) rest
    ∙ ap (λ text. before ++ text) (sym (next_step steps i step c.loop-i-test.true c.index-reversed-reversed.is))
    ∙ c.loop-i.invariant
