use Rattle.std.proofs.Common.{◌∙◌, ap, eqb, rules}
use Rattle.std.proofs.lemmas.Fn.{always_returns_same}
use Rattle.std.proofs.lemmas.List.Sorted.{IsNonDecreasingBy-from_sort_by_key}
use Rattle.std.specs.List.{filter}
use Rattle.hs_graph.specs.Ends.{end_number}
use Rattle.hs_graph.proofs.Runs.{stays_filtered}
use Rattle.hs_graph.proofs.index.index_by.Goals as goal

pub invariant_of-result : goal.invariant_of-result
invariant_of-result c = IsNonDecreasingBy-from_sort_by_key (end_number c.args.by) _ c.in_ok-sort_by_key.ensures.sorted (λ a r q k. search rules)

pub returns : goal.returns
returns c = λ n.
    stays_filtered c.args.by n _ _ (c.in_ok-sort_by_key.ensures.stable (end_number c.args.by) (always_returns_same _ _ _ (λ a r f k. search rules)))
    ∙ ap (filter (λ e. eqb (end_number c.args.by e) n)) c.into_vec-edges.ensures
