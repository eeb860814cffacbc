use Rattle.std.proofs.Common.{ℕ, ◌<◌}
use Rattle.hs_overlap.specs.Completions.{IsForced}
use Rattle.hs_overlap.proofs.search.forced_edge.Given as goal

abbrev pub invariant-loop-x : goal.invariant-loop-x
invariant-loop-x l = (x : ℕ) → x < l.x → IsForced l.first l.second l.partners x → ⊥
