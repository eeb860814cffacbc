use Rattle.std.proofs.Common.{refl, sym, subst, take}
use Rattle.std.proofs.lemmas.List.{take_more, take_all}
use Rattle.hs_reach.specs.Searching.{AreFirst}
use Rattle.hs_reach.proofs.Ranges.{finished-within}
use Rattle.hs_reach.proofs.depth_first.search_all.Goals as goal

pub loop-start-init : goal.loop-start-init
loop-start-init c = record {
  goes = c.in_ok-search.ensures.goes c.args.graph.now refl;
  at_end = c.in_ok-search.ensures.at_end;
  first = c.in_ok-search.ensures.first c.args.graph.now;
}

pub loop-start-preserved : goal.loop-start-preserved
loop-start-preserved c = record {
  goes = c.in_ok-search_from.ensures.goes;
  at_end = c.in_ok-search_from.ensures.at_end;
  first = subst (λ from. AreFirst c.args.graph.now from c.search_from.new.search.starts.items) (sym (take_more c.args.from.now c.loop-start.start-index 0 c.loop-start-test.true))
      (c.in_ok-search_from.ensures.first (take c.loop-start.start-index c.args.from.now) c.loop-start.invariant.first);
}

pub returns-clause-first : goal.returns-clause-first
returns-clause-first c = subst (λ from. AreFirst c.args.graph.now from c.loop-start.search.starts.items) (take_all c.loop-start.start-index c.args.from.now c.loop-start-test.false) c.loop-start.invariant.first

pub returns-clause-inside : goal.returns-clause-inside
returns-clause-inside c =
    let search = c.loop-start.search in
    finished-within c.args.graph.now search.tried.items search.starts.items search.path search.finished c.loop-start.invariant.goes
