use Rattle.std.proofs.Common.{codes, false, pos, refl, lit<}
use Rattle.std.proofs.lemmas.Bool.{both_ways}
use Rattle.hs_expr.specs.declared.value.Value.TheVariants as value
use Rattle.hs_laws.specs.Bank.{account, link}
use Rattle.hs_laws.proofs.refusals.graphs_refused.Goals as goal

pub returns-clause-too_great : goal.returns-clause-too_great
returns-clause-too_great c h = both_ways false refl ((h.objects_fit 0 (account 0 (codes "a1") (pos 0)) (lit< tt)).2 0 (record { attribute = 1; value = value.Int (pos 0) }) (lit< tt))

pub returns-clause-foreign : goal.returns-clause-foreign
returns-clause-foreign c h = both_ways false refl (h.edges_fit 0 (link 0 1 0 0) (lit< tt)).0
