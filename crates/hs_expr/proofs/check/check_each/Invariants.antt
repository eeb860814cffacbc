use Rattle.std.proofs.Common.{◌≡◌, ℕ, List, drop, Bor, slice_get, Some}
use Rattle.hs_expr.specs.Verdict.{verdict, each_from, each}
use Rattle.hs_expr.specs.contracts.check.check_each.F-Fn.{words}
use Rattle.hs_expr.proofs.check.check_each.Given as goal

abbrev pub invariant-loop-i : goal.invariant-loop-i
invariant-loop-i g l = (finds : ℕ → g.row.T.Denot → List g.row.E.Denot) →
    ((i : ℕ) (x : Bor g.row.T.Denot) (r : _) → slice_get l.items i ≡ Some x.now → (words g.row.T g.row.E g.row.F g.F.Fn).post l.check i x r → r ≡ verdict (finds i x.now)) →
    verdict (each_from finds l.i (drop l.i l.items)) ≡ verdict (each finds l.items)
