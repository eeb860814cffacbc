use Rattle.std.proofs.Common.{rules, nat_lt}
use Rattle.std.proofs.lemmas.List.Sorted.{IsPartitionPoint-from_clause}
use Rattle.hs_types.specs.declared.graph.Object.{Object}
use Rattle.hs_types.proofs.Sorted.{parted}
use Rattle.hs_types.proofs.writing.first_from.Goals as goal

pub returns : goal.returns
returns c = IsPartitionPoint-from_clause (λ (o : Object). nat_lt o.number c.args.number) c.args.objects.now c.partition_point.result c.partition_point.ensures.partitioned (parted c.args.objects.now c.requires.0 c.args.number c.requires.1) (λ a r f h. search rules)
