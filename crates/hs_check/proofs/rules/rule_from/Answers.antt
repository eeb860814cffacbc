use Rattle.hs_check.proofs.rules.rule_from.Goals as goal

pub returns : goal.returns
returns c = rw c.in_ok-kernel.ensures at c.rule_around.ensures
