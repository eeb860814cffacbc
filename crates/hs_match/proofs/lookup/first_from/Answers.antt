use Rattle.std.proofs.Common.{rules}
use Rattle.std.specs.Prelude.{nat_lt}
use Rattle.std.proofs.lemmas.List.Sorted.{IsPartitionPoint-from_clause}
use Rattle.hs_types.specs.declared.graph.Object.{Object}
use Rattle.hs_match.proofs.Ordered.{Ascend-partitioned, before_place, from_place}
use Rattle.hs_match.proofs.lookup.first_from.Goals as goal

pub returns-clause-before : goal.returns-clause-before
returns-clause-before c =
    let point = IsPartitionPoint-from_clause (λ (object : Object). nat_lt object.number c.args.from) _ _ c.partition_point.ensures.partitioned (Ascend-partitioned _ _ _ c.requires) (λ a r q k. search rules) in
    before_place (λ (object : Object). object.number) _ _ _ point

pub returns-clause-from : goal.returns-clause-from
returns-clause-from c =
    let point = IsPartitionPoint-from_clause (λ (object : Object). nat_lt object.number c.args.from) _ _ c.partition_point.ensures.partitioned (Ascend-partitioned _ _ _ c.requires) (λ a r q k. search rules) in
    from_place (λ (object : Object). object.number) _ _ _ point
