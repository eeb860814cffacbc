use Rattle.std.proofs.Common.{◌∙◌, ap, sym, cond, Some, None, eqb}
use Rattle.std.specs.Option.{option_or}
use Rattle.hs_graph.proofs.Rows.{find_more}
use Rattle.hs_graph.proofs.index.objects_of.Goals as goal

pub loop-object-preserved : goal.loop-object-preserved
loop-object-preserved c = λ n.
    let item = c.object-item.result in
    let more = find_more (λ o. eqb o.number n) c.objects-object-items.result.now c.loop-object.object-index item c.loop-object-test.true in
    c.in_ok-add_object.ensures n ∙ ap (λ o. option_or o (cond (eqb item.number n) (Some item) None)) (c.loop-object.invariant n)
    ∙ sym (rw (← c.object-item.is) at more)
