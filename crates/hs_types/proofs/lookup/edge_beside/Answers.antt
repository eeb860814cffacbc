use Rattle.std.proofs.Common.{rules, eqb, ◌||◌}
use Rattle.std.proofs.lemmas.Iterator.{YieldsList-from_slice}
use Rattle.std.proofs.lemmas.Iterator.Consumers.{nth_from_yields_List, YieldsList-from_filter}
use Rattle.hs_types.specs.declared.graph.Edge.{Edge}
use Rattle.hs_types.proofs.lookup.edge_beside.Goals as goal

pub returns : goal.returns
returns c =
    let found = nth_from_yields_List c.nth.result c.nth.new.self c.args.place c.nth.ensures.ran
    (YieldsList-from_filter _ (λ (edge : Edge). eqb edge.source c.args.object || eqb edge.target c.args.object) (YieldsList-from_slice c.args.edges.now (rw c.filter-beside.ensures.source c.iter.ensures.rest)) c.filter-beside.ensures.closure (λ x r q k. search rules)) in
    search rules
