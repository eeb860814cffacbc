use Rattle.std.proofs.Common.{◌≡◌, ap, ◌∙◌, subst, sym}
use Rattle.hs_types.specs.RuleForm.{inverse}
use Rattle.hs_tests_text.specs.Sides.{IsSide}
use Rattle.hs_tests_text.proofs.Sides.{side_from}
use Rattle.hs_tests_text.proofs.reasons.shape_at.Goals as goal

pub returns-in_ok-inverse-in-Some-2 : goal.returns-in_ok-inverse-in-Some-2
returns-in_ok-inverse-in-Some-2 c =
    let rule = c.in-Some.rule.now in
    let h = c.in-Some.ensures in
    let same : c.in_ok-inverse-in-Some-2.field-0 ≡ rule.shape =
    c.in_ok-inverse-in-Some-2.ensures ∙ ap inverse c.in_ok-inverse-in-Some.ensures ∙ c.inverse_is_an_involution.ensures rule.shape in
    subst (IsSide c.args.set.now.meta) (sym same) (side_from c.args.set.now.meta rule.shape h.1.kernel.few_nodes h.1.kernel.few_edges (c.left_sides_occur.ensures.kernel c.args.set.now.meta rule h.0))
