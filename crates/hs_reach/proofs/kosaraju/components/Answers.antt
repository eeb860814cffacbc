use Rattle.std.proofs.Common.{◌+◌, arith, length, sym, ◌∙◌, ◌<◌, ◌≤◌, subst}
use Rattle.std.specs.List.{All}
use Rattle.hs_reach.specs.Searching.{AreFirst}
use Rattle.hs_reach.proofs.Marks.{all-finished, components-are}
use Rattle.hs_reach.proofs.Ranges.{range-below}
use Rattle.hs_reach.proofs.kosaraju.components.Goals as goal

pub search_all-requires-clause-within : goal.search_all-requires-clause-within
search_all-requires-clause-within c =
    let count = length c.args.graph.now in
    let whole : 0 + count ≤ count = omega arith in
    subst (All (λ n. n < length c.args.graph.now)) (sym (c.as_slice.ensures.value ∙ c.in_ok-vertices.ensures)) (range-below 0 count count whole)

pub returns : goal.returns
returns c =
    let graph = c.args.graph.now in
    let forward = c.in_ok-forward.forward in
    let marks = c.in_ok-backward.backward.starts.items in
    components-are graph c.in_ok-reversed.reversed.items forward.finished marks c.in_ok-forward.ensures.orderly
    (λ n within. all-finished graph forward.starts.items forward.finished n
    (subst (λ vertices. AreFirst graph vertices forward.starts.items) (c.as_slice.ensures.value ∙ c.in_ok-vertices.ensures) c.in_ok-forward.ensures.first)
    c.in_ok-forward.ensures.found within)
    c.in_ok-reversed.ensures.reversed
    (subst (λ reversed. AreFirst reversed forward.finished marks) c.as_slice-2.ensures.value
    (subst (λ order. AreFirst c.as_slice-2.result.now order marks) (c.as_slice-3.ensures.value ∙ c.into_vec-order.ensures) c.in_ok-backward.ensures.first))
