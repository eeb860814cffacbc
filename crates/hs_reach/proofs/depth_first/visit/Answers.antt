use Rattle.std.proofs.Common.{set, ◌≡◌, ◌+◌, ap, length, sym, ◌∙◌, subst, Some, arith}
use Rattle.hs_reach.specs.Searching.{StartedFrom, IsSearchOf, vertices_left}
use Rattle.hs_reach.proofs.Searches.{comes-enters, enters, goes-on, less-vertices, start-reaches}
use Rattle.hs_reach.proofs.depth_first.visit.Goals as goal

pub returns-clause-goes : goal.returns-clause-goes
returns-clause-goes c = λ graph vertex rest at edge goes.
    let search = c.args.search.now in
    subst (λ path. IsSearchOf graph search.tried.items (set search.starts.items c.args.to (Some c.args.start)) path search.finished) (sym c.in_ok-push.ensures.ok)
    (enters graph search.tried.items search.starts.items search.path search.finished c.args.to c.args.start goes
    (goes-on graph vertex c.args.to search.path rest at goes.goes edge) (sym c.is_found.ensures ∙ c.if-is_found.false) c.requires)

pub returns-clause-comes : goal.returns-clause-comes
returns-clause-comes c = λ graph before vertex rest at edge comes.
    let search = c.args.search.now in
    subst (StartedFrom graph before c.args.start (set search.starts.items c.args.to (Some c.args.start))) (sym c.in_ok-push.ensures.ok)
    (comes-enters graph before c.args.start search.starts.items search.path c.args.to comes
    (start-reaches graph c.args.start vertex c.args.to search.path rest at comes.reached edge) (sym c.is_found.ensures ∙ c.if-is_found.false) c.requires)

pub returns-clause-no_more : goal.returns-clause-no_more
returns-clause-no_more c = λ graph.
    let search = c.args.search.now in
    let fewer : vertices_left (set search.starts.items c.args.to (Some c.args.start)) + 1 ≡ vertices_left search.starts.items = less-vertices search.starts.items c.args.to c.args.start (sym c.is_found.ensures ∙ c.if-is_found.false) c.requires in
    let longer = ap length c.in_ok-push.ensures.ok in
    omega (arith, fewer, longer)
