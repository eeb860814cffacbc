use Rattle.std.proofs.Common.{ap, length, arith}
use Rattle.hs_reach.proofs.Searches.{advances-at, comes-back, end-within, less-at, edge-leads, edge-taken}
use Rattle.hs_reach.proofs.depth_first.advance.Goals as goal

pub visit-requires : goal.visit-requires
visit-requires c =
    let within = c.requires.whole c.args.vertex c.in-Some.to.now (edge-leads c.args.graph.now c.args.vertex c.targets_of.result.now c.tried_edges-count.result c.in-Some.to.now c.targets_of.ensures c.in-Some.ensures.lookup.0 c.in-Some.ensures.lookup.1) in
    let long = c.requires.goes.marks in
    omega (arith, within, long)

pub index_mut-requires : goal.index_mut-requires
index_mut-requires c =
    let search = c.args.search.now in
    let within = end-within c.args.graph.now search.tried.items search.starts.items search.path search.finished c.args.vertex c.requires.at.0 c.requires.goes c.requires.at.1 in
    let long = c.requires.goes.counts in
    let same = ap length c.in_ok-visit-in-Some.ensures.tried in
    omega (arith, within, long, same)

pub returns-in_ok-visit-in-Some-clause-goes : goal.returns-in_ok-visit-in-Some-clause-goes
returns-in_ok-visit-in-Some-clause-goes c =
    let search = c.args.search.now in
    let then = c.visit.new.search in
    let leads_to = edge-leads c.args.graph.now c.args.vertex c.targets_of.result.now c.tried_edges-count.result c.in-Some.to.now c.targets_of.ensures c.in-Some.ensures.lookup.0 c.in-Some.ensures.lookup.1 in
    advances-at c.args.graph.now search.tried.items then.tried.items then.starts.items then.path then.finished c.args.vertex c.in-Some.to.now c.tried_edges-count.result
    c.in_ok-visit-in-Some.ensures.tried c.tried_edges-count.ensures
    (edge-taken c.args.graph.now c.args.vertex c.targets_of.result.now c.tried_edges-count.result c.in-Some.to.now c.targets_of.ensures c.in-Some.ensures.lookup.0 c.in-Some.ensures.lookup.1)
    (end-within c.args.graph.now search.tried.items search.starts.items search.path search.finished c.args.vertex c.requires.at.0 c.requires.goes c.requires.at.1)
    c.in_ok-visit-in-Some.ensures.found
    (c.in_ok-visit-in-Some.ensures.goes c.args.graph.now c.args.vertex c.requires.at.0 c.requires.at.1 leads_to c.requires.goes)

pub returns-in_ok-visit-in-Some-clause-comes : goal.returns-in_ok-visit-in-Some-clause-comes
returns-in_ok-visit-in-Some-clause-comes c = λ before comes.
    c.in_ok-visit-in-Some.ensures.comes c.args.graph.now before c.args.vertex c.requires.at.0 c.requires.at.1
    (edge-leads c.args.graph.now c.args.vertex c.targets_of.result.now c.tried_edges-count.result c.in-Some.to.now c.targets_of.ensures c.in-Some.ensures.lookup.0 c.in-Some.ensures.lookup.1)
    comes

pub returns-in_ok-visit-in-Some-clause-less : goal.returns-in_ok-visit-in-Some-clause-less
returns-in_ok-visit-in-Some-clause-less c =
    let search = c.args.search.now in
    let within = end-within c.args.graph.now search.tried.items search.starts.items search.path search.finished c.args.vertex c.requires.at.0 c.requires.goes c.requires.at.1 in
    let long = c.requires.goes.counts in
    let same = ap length c.in_ok-visit-in-Some.ensures.tried in
    let fewer = less-at c.args.graph.now search.tried.items c.visit.new.search.tried.items c.args.vertex c.in-Some.to.now c.tried_edges-count.result
    c.in_ok-visit-in-Some.ensures.tried c.tried_edges-count.ensures
    (edge-taken c.args.graph.now c.args.vertex c.targets_of.result.now c.tried_edges-count.result c.in-Some.to.now c.targets_of.ensures c.in-Some.ensures.lookup.0 c.in-Some.ensures.lookup.1)
    (omega (arith, within, long, same)) in
    let no_more = c.in_ok-visit-in-Some.ensures.no_more c.args.graph.now in
    omega (arith, fewer, no_more)

pub returns-in_ok-finish_top-in-None-clause-comes : goal.returns-in_ok-finish_top-in-None-clause-comes
returns-in_ok-finish_top-in-None-clause-comes c = λ before comes.
    let search = c.args.search.now in
    comes-back c.args.graph.now before c.args.start search.starts.items c.finish_top.new.search.starts.items search.path c.finish_top.new.search.path c.args.vertex c.requires.at.0 c.requires.at.1
    (c.in_ok-finish_top-in-None.ensures.moved c.args.vertex c.requires.at.0 c.requires.at.1).0 c.in_ok-finish_top-in-None.ensures.starts comes
