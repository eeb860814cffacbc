use Rattle.std.proofs.Common.{◌<◌, ◌≤◌, refl, lit<, arith}
use Rattle.hs_types.specs.declared.entry.What.TheVariants.{One}
use Rattle.hs_session.specs.Samples.{entry_of, missed}
use Rattle.hs_session.proofs.examples.full_tried.Goals as goal

pub returns-clause-too_early : goal.returns-clause-too_early
returns-clause-too_early c = λ h. let low : 1 < 0 = h.all_earlier 0 (entry_of 0 0 (One missed)) (lit< tt) refl in absurd (omega (arith, low))

pub returns-clause-too_late : goal.returns-clause-too_late
returns-clause-too_late c = λ h. let low : 2 ≤ 1 = h.none_later 2 (entry_of 0 2 (One missed)) (lit< tt) refl in absurd (omega (arith, low))
