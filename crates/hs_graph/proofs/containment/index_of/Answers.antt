use Rattle.std.proofs.Common.{◌∙◌, List, eqb, ltb, map, ap, subst, sym, rules}
use Rattle.std.proofs.lemmas.List.Sorted.{IsPartitionPoint-from_clause}
use Rattle.std.specs.List.{position}
use Rattle.hs_expr.specs.Lists.{Rise}
use Rattle.hs_types.specs.declared.graph.Object.{Object}
use Rattle.hs_graph.proofs.Numbered.{index_at, no_index, parted}
use Rattle.hs_graph.proofs.containment.index_of.Goals as goal

pub returns-then-is_at : goal.returns-then-is_at
returns-then-is_at c =
    let n = c.args.number in
    let rise = subst (λ (os : List Object). Rise 0 (map (λ (o : Object). o.number) os) c.args.graph.now.graph.next_object) (sym c.objects-objects.ensures) c.requires.typed.objects_rise in
    sym (ap (λ (os : List Object). position (λ (o : Object). eqb o.number n) os) (sym c.objects-objects.ensures)
    ∙ index_at (λ (o : Object). o.number) c.objects-objects.result.now c.args.graph.now.graph.next_object n n rise (sym c.is_at.ensures ∙ c.if-is_at.true))

pub returns-then-is_at-2 : goal.returns-then-is_at-2
returns-then-is_at-2 c =
    let n = c.args.number in
    let rise = subst (λ (os : List Object). Rise 0 (map (λ (o : Object). o.number) os) c.args.graph.now.graph.next_object) (sym c.objects-objects.ensures) c.requires.typed.objects_rise in
    sym (ap (λ (os : List Object). position (λ (o : Object). eqb o.number n) os) (sym c.objects-objects.ensures)
    ∙ index_at (λ (o : Object). o.number) c.objects-objects.result.now c.args.graph.now.graph.next_object c.partition_point-index.result n rise (sym c.is_at-2.ensures ∙ c.if-is_at-2.true))

pub returns : goal.returns
returns c =
    let n = c.args.number in
    let rise = subst (λ (os : List Object). Rise 0 (map (λ (o : Object). o.number) os) c.args.graph.now.graph.next_object) (sym c.objects-objects.ensures) c.requires.typed.objects_rise in
    let point = IsPartitionPoint-from_clause (λ (o : Object). ltb o.number n) _ _ c.partition_point-index.ensures.partitioned (parted (λ (o : Object). o.number) c.objects-objects.result.now c.args.graph.now.graph.next_object n rise) (λ a r q k. search rules) in
    sym (ap (λ (os : List Object). position (λ (o : Object). eqb o.number n) os) (sym c.objects-objects.ensures)
    ∙ no_index (λ (o : Object). o.number) c.objects-objects.result.now c.args.graph.now.graph.next_object n c.partition_point-index.result rise point (sym c.is_at-2.ensures ∙ c.if-is_at-2.false))
