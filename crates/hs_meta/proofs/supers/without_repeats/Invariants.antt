use Rattle.std.proofs.Common.{◌≡◌, ◌++◌, drop, map}
use Rattle.hs_expr.specs.Lists as lists
use Rattle.hs_meta.proofs.supers.without_repeats.Given as goal

abbrev pub invariant-loop-numbers : goal.invariant-loop-numbers
invariant-loop-numbers l = l.once ++ map lists.each_once (drop l.numbers-index l.supers) ≡ map lists.each_once l.supers
