use Rattle.std.proofs.Common.{◌≡◌, drop}
use Rattle.hs_expr.specs.Lists as lists
use Rattle.hs_meta.specs.Inheriting.{with_further}
use Rattle.hs_meta.proofs.supers.each_once.Given as goal

abbrev pub invariant-loop-number : goal.invariant-loop-number
invariant-loop-number l = with_further l.once (drop l.number-index l.numbers) ≡ lists.each_once l.numbers
