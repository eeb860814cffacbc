use Rattle.std.proofs.Common.{IfOk, ◌≡◌}
use Rattle.hs_check.specs.Rules.{rule_with}
use Rattle.hs_check.proofs.rules.rule_around.Goals as goal

pub returns : goal.returns
returns c =
    let made : IfOk c.rule_with.result (λ meant. meant ≡ rule_with c.args.meta.now c.args.contents.now c.args.kernel c.in_ok-multis.multis) = c.rule_with.ensures in
    rw (c.in_ok-multis.ensures, c.as_slice.ensures) at made
