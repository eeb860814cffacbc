use Rattle.std.proofs.Common.{ℕ, ◌<◌, ◌≤◌, Contains}
use Rattle.hs_tests_engine.proofs.searches.VariedChoice.next.Given as goal

abbrev pub invariant-loop-x : goal.invariant-loop-x
invariant-loop-x l = (y : ℕ) → l.from ≤ y → y < l.x-counter → Contains l.front y
