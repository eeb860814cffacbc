use Rattle.std.proofs.Common.{subst, sym}
use Rattle.hs_tests_text.specs.Sides.{IsSide}
use Rattle.hs_tests_text.proofs.Sides.{inverse_side}
use Rattle.hs_tests_text.proofs.reasons.inverse_at.Goals as goal

pub returns-in_ok-inverse-in-Some : goal.returns-in_ok-inverse-in-Some
returns-in_ok-inverse-in-Some c =
    let rule = c.in-Some.rule.now in
    let h = c.in-Some.ensures in
    subst (IsSide c.args.set.now.meta) (sym c.in_ok-inverse-in-Some.ensures) (inverse_side c.args.set.now.meta rule h.1 (c.left_sides_occur.ensures.inverted c.args.set.now.meta rule h.0))
