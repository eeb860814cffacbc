use Rattle.std.proofs.Common.{ℕ, ◌≡◌, List, drop, length}
use Rattle.hs_expr.specs.Verdict.{each, each_from, verdict}
use Rattle.hs_types.specs.Reachability.{reach_rows}
use Rattle.hs_faults.specs.UnitFaults.{cycle_fault}
use Rattle.hs_faults.proofs.cycles.none_below_itself.Given as goal

abbrev pub invariant-loop-i : goal.invariant-loop-i
invariant-loop-i l = (called : List (List ℕ)) → l.rows ≡ reach_rows called → length called ≡ length l.units → verdict (each_from (cycle_fault called) l.i (drop l.i l.units)) ≡ verdict (each (cycle_fault called) l.units)
