use Rattle.std.proofs.Common.{◌∙◌, List, ap, eqb, leb, rules}
use Rattle.std.proofs.lemmas.List.Sorted.{IsPartitionPoint-from_clause, IsPartitionedBy-leb}
use Rattle.std.specs.List.{filter}
use Rattle.hs_types.specs.declared.graph.Edge.{Edge}
use Rattle.hs_graph.specs.Ends.{EdgesBy, end_number}
use Rattle.hs_graph.specs.Index.{indexed_edges}
use Rattle.hs_graph.proofs.Runs.{run_taken}
use Rattle.hs_graph.proofs.index.edges_of.Goals as goal

pub returns : goal.returns
returns c =
    let by = c.index.inside.by in
    let rest = c.edges_from-edges.result.now in
    let point = IsPartitionPoint-from_clause (λ e. leb (end_number by e) c.args.number) _ _ c.partition_point.ensures.partitioned (IsPartitionedBy-leb (end_number by) rest c.args.number c.edges_from-edges.ensures.rising) (λ a r q k. search rules) in
    run_taken (end_number by) c.args.number rest c.partition_point.result c.partition_point.ensures.bound point c.edges_from-edges.ensures.from ∙ c.edges_from-edges.ensures.same
    ∙ ap (λ (es : List Edge). filter (λ (e : Edge). eqb (end_number by e) c.args.number) es) c.as_slice.ensures.value
    ∙ ap (λ (v : EdgesBy). indexed_edges v c.args.number) c.index.view_is
