use Rattle.std.proofs.Common.{◌≡◌, ◌++◌, map, drop}
use Rattle.json.specs.Tree.{items_tokens, json_tokens}
use Rattle.serde_json.specs.View.{items_of}
use Rattle.serde_json.specs.Written.{items_outline, outline}
use Rattle.hs_json_model.specs.Written.{list_data, object_line}
use Rattle.hs_json_model.proofs.graph_text.add_objects.Given as goal

-- the tokens so far, and those of the objects that are left, are all of the list
abbrev pub invariant-loop-object : goal.invariant-loop-object
invariant-loop-object l =
    (l.out.tokens ++ items_tokens (items_outline (items_of (map (object_line l.meta l.graph.graph) (drop l.object-index l.object-items))))
    ≡ l.fn.out.tokens ++ json_tokens (outline (list_data (object_line l.meta l.graph.graph) l.object-items)))
    × (l.out.before ≡ l.fn.out.before)
