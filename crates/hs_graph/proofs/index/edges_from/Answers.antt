use Rattle.std.proofs.Common.{◌≡◌, ◌≤◌, List, eqb, ltb, rules, subst, sym}
use Rattle.std.proofs.lemmas.List.{take_rest}
use Rattle.std.proofs.lemmas.List.Sorted.{IsNonDecreasingBy-drop, IsPartitionPoint-from_clause, IsPartitionedBy-ltb}
use Rattle.std.specs.List.{All, filter}
use Rattle.std.specs.List.Sorted.{IsNonDecreasingBy}
use Rattle.hs_types.specs.declared.graph.Edge.{Edge}
use Rattle.hs_graph.specs.Ends.{end_number}
use Rattle.hs_graph.proofs.Runs.{from_point, passed_over}
use Rattle.hs_graph.proofs.index.edges_from.Goals as goal

pub returns-clause-rising : goal.returns-clause-rising
returns-clause-rising c =
    subst (IsNonDecreasingBy (end_number c.args.by)) (sym (take_rest c.args.edges.now c.partition_point.result)) (IsNonDecreasingBy-drop (end_number c.args.by) c.partition_point.result c.args.edges.now c.requires)

pub returns-clause-same : goal.returns-clause-same
returns-clause-same c =
    let point = IsPartitionPoint-from_clause (λ e. ltb (end_number c.args.by e) c.args.number) _ _ c.partition_point.ensures.partitioned (IsPartitionedBy-ltb (end_number c.args.by) _ c.args.number c.requires) (λ a r q k. search rules) in
    subst (λ (es : List Edge). filter (λ (e : Edge). eqb (end_number c.args.by e) c.args.number) es ≡ filter (λ (e : Edge). eqb (end_number c.args.by e) c.args.number) c.args.edges.now) (sym (take_rest c.args.edges.now c.partition_point.result))
    (passed_over (end_number c.args.by) c.args.number c.args.edges.now c.partition_point.result point)

pub returns-clause-from : goal.returns-clause-from
returns-clause-from c =
    let point = IsPartitionPoint-from_clause (λ e. ltb (end_number c.args.by e) c.args.number) _ _ c.partition_point.ensures.partitioned (IsPartitionedBy-ltb (end_number c.args.by) _ c.args.number c.requires) (λ a r q k. search rules) in
    subst (All (λ (e : Edge). c.args.number ≤ end_number c.args.by e)) (sym (take_rest c.args.edges.now c.partition_point.result))
    (from_point (end_number c.args.by) c.args.number c.args.edges.now c.partition_point.result point)
