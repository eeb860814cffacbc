use Rattle.std.proofs.Common.{refl}
use Rattle.hs_types.proofs.Adding.{only_adds-is}
use Rattle.hs_types.proofs.rule.Rule.only_adds.Goals as goal

pub returns-then-keeps_all-clause-test : goal.returns-then-keeps_all-clause-test
returns-then-keeps_all-clause-test c =
    only_adds-is c.args.self.now c.keeps_all.result c.is_unconditional.result c.is_unconditional.result c.keeps_all.ensures c.is_unconditional.ensures (rw c.if-keeps_all.true refl)
