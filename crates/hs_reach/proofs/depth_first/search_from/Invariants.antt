use Rattle.std.proofs.Common.{ℕ, List, true, ◌≡◌}
use Rattle.hs_reach.specs.Searching as spec
use Rattle.hs_reach.proofs.depth_first.search_from.Given as goal

abbrev pub invariant-loop-vertex : goal.invariant-loop-vertex
invariant-loop-vertex l = record {
  goes : spec.IsSearchState l.graph l.search;
  comes : (before : List ℕ) → spec.AreFirst l.graph before l.fn.search.starts.items → spec.IsSearchFrom l.graph before l.start l.search;
  found : spec.is_found l.search.starts.items l.start ≡ true;
}

abbrev pub decreases-loop-vertex : goal.decreases-loop-vertex
decreases-loop-vertex l = spec.work l.graph l.search
