use Rattle.std.proofs.Common.{rules, not, ◌∙◌}
use Rattle.std.proofs.lemmas.Fn.{filter_same}
use Rattle.hs_types.specs.declared.graph.Edge.{Edge}
use Rattle.hs_expr.specs.Lists.{has}
use Rattle.hs_types.proofs.Sorted.{filter_alike}
use Rattle.hs_types.proofs.stepping.drop_edges.Goals as goal

pub returns-clause-items : goal.returns-clause-items
returns-clause-items c = filter_same _ (λ (x : Edge). not (has c.of-dropped.result x.number)) _ (λ x b f' k. search rules) _ _ c.retain.ensures.filtered ∙ filter_alike (λ (x : Edge). x.number) c.of-dropped.result c.args.dropped.items c.of-dropped.ensures c.args.edges.now.items
