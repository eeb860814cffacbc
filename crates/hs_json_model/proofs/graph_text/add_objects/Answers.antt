use Rattle.std.proofs.Common.{◌++◌, ◌∙◌, ap}
use Rattle.json.specs.Tree.{json_tokens}
use Rattle.serde_json.specs.Written.{outline}
use Rattle.hs_json_model.specs.Written.{object_line}
use Rattle.hs_json_model.proofs.Tokens.{item_more}
use Rattle.hs_json_model.proofs.graph_text.add_objects.Goals as goal

pub loop-object-preserved : goal.loop-object-preserved
loop-object-preserved c =
    let m = c.args.meta.now in
    let g = c.args.graph.now.graph in
    let old = c.loop-object.out.tokens in
    let added = c.in_ok-add_object.ensures.ok g c.in_ok-objects.ensures c.in_ok-outgoing.ensures ∙ ap (λ o. old ++ json_tokens (outline (object_line m g o))) c.object-item.is in (
      item_more (object_line m g) old c.add_object.new.out.tokens _ c.objects-object-items.result.now c.loop-object.object-index c.object-item.result c.loop-object-test.true added c.loop-object.invariant.0,
      c.in_ok-add_object.ensures.before ∙ c.loop-object.invariant.1,
    )
