use Rattle.std.proofs.Common.{take}
use Rattle.hs_meta.specs.Numbered.{KnowsClasses}
use Rattle.hs_meta.proofs.numbers.numbers_of.Given as goal

abbrev pub invariant-loop-c : goal.invariant-loop-c
invariant-loop-c l = KnowsClasses l.numbers (take l.c l.classes)
