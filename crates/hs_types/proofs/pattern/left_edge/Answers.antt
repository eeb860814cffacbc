use Rattle.std.proofs.Common.{rules}
use Rattle.std.proofs.lemmas.Iterator.{YieldsList-from_slice}
use Rattle.std.proofs.lemmas.Iterator.Consumers.{nth_from_yields_List, YieldsList-from_filter}
use Rattle.hs_types.specs.declared.rule.PatternEdge.{PatternEdge}
use Rattle.hs_types.specs.Pattern.{is_left}
use Rattle.hs_types.proofs.pattern.left_edge.Goals as goal

pub returns : goal.returns
returns c =
    nth_from_yields_List c.nth.result c.nth.new.self c.args.index c.nth.ensures.ran
    (YieldsList-from_filter _ (λ (edge : PatternEdge). is_left edge.mark) (YieldsList-from_slice c.args.edges.now (rw c.filter.ensures.source c.iter.ensures.rest)) c.filter.ensures.closure (λ x r q k. search rules))
