use Rattle.std.proofs.Common.{subst}
use Rattle.hs_reach.specs.Searching.{StartedFrom, IsSearchOf}
use Rattle.hs_reach.proofs.Searches.{comes-ends}
use Rattle.hs_reach.proofs.depth_first.search_from.Goals as goal

pub loop-vertex-preserved : goal.loop-vertex-preserved
loop-vertex-preserved c = record {
  goes = c.in_ok-advance.ensures.goes;
  comes = λ before first. c.in_ok-advance.ensures.comes before (c.loop-vertex.invariant.comes before first);
  found = c.in_ok-advance.ensures.kept c.loop-vertex.invariant.found;
}

pub returns-clause-first : goal.returns-clause-first
returns-clause-first c = λ before first.
    let search = c.loop-vertex.search in
    comes-ends c.args.graph.now before c.args.start search.tried.items search.starts.items search.finished
    (subst (λ path. IsSearchOf c.args.graph.now search.tried.items search.starts.items path search.finished) c.in_default.ensures c.loop-vertex.invariant.goes)
    (subst (StartedFrom c.args.graph.now before c.args.start search.starts.items) c.in_default.ensures (c.loop-vertex.invariant.comes before first))
    c.loop-vertex.invariant.found
