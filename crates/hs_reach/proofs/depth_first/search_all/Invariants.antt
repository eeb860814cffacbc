use Rattle.std.proofs.Common.{[], ◌≡◌, take}
use Rattle.hs_reach.specs.Searching as spec
use Rattle.hs_reach.proofs.depth_first.search_all.Given as goal

abbrev pub invariant-loop-start : goal.invariant-loop-start
invariant-loop-start l = record {
  goes : spec.IsSearchState l.graph l.search;
  at_end : l.search.path ≡ [];
  first : spec.AreFirst l.graph (take l.start-index l.from) l.search.starts.items;
}
