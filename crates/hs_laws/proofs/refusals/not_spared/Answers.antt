use Rattle.std.proofs.Common.{true, refl, lit<}
use Rattle.std.proofs.lemmas.Bool.{both_ways}
use Rattle.hs_laws.specs.Bank.{balance_of}
use Rattle.hs_laws.proofs.refusals.not_spared.Goals as goal

pub returns-clause-written : goal.returns-clause-written
returns-clause-written c h = both_ways true (h.slots 0 (balance_of 0) (lit< tt)) refl
