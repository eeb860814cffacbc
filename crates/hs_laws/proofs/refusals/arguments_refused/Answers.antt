use Rattle.std.proofs.Common.{codes, inl, inr, arith, lit<}
use Rattle.hs_laws.specs.Bank.{object_arg}
use Rattle.hs_laws.proofs.refusals.arguments_refused.Goals as goal

pub returns-clause-out_of_order : goal.returns-clause-out_of_order
returns-clause-out_of_order c h = elim (h.names_rise.0 0 (object_arg (codes "from") (codes "a1")) (lit< tt)) [
  | inl l ↦ absurd (omega (arith, l))
  | inr e ↦ let same = e.0 in absurd (omega (arith, same))
]
