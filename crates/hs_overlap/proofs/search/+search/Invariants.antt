use Rattle.std.proofs.Common.{ℕ, ◌<◌, List, Contains}
use Rattle.hs_overlap.specs.declared.pair.Pair.{Pair}
use Rattle.hs_overlap.specs.declared.pair.Pair.TheVariants.{Edge}
use Rattle.hs_overlap.specs.Completions.{IsNearlyClosed, Completes, free_count}
use Rattle.hs_overlap.proofs.search.+search.Given as goal

abbrev pub decreases-search : goal.decreases-search
decreases-search l = free_count l.partners.now.edges

abbrev pub invariant-loop-y : goal.invariant-loop-y
invariant-loop-y l = (y : ℕ) → y < l.y → (span overlap : List Pair) → IsNearlyClosed l.meta l.first l.second span l.partners → Completes l.meta l.first l.second span l.partners overlap → Contains overlap (Edge l.x y) → ⊥
