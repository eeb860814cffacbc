use Rattle.std.proofs.Common.{◌≡◌, ◌++◌, drop, map}
use Rattle.json.specs.Tree.{items_tokens, json_tokens}
use Rattle.serde_json.specs.Data.{string}
use Rattle.serde_json.specs.View.{items_of}
use Rattle.serde_json.specs.Written.{items_outline, outline}
use Rattle.hs_graph.specs.Index.{indexed_name}
use Rattle.hs_json_model.specs.Written.{list_data, targets_of}
use Rattle.hs_json_model.proofs.graph_text.add_targets.Given as goal

-- the tokens so far, and those of the edges that are left, are all of the list
abbrev pub invariant-loop-edge : goal.invariant-loop-edge
invariant-loop-edge l =
    (l.out.tokens ++ items_tokens (items_outline (items_of (map string (targets_of (indexed_name l.objects) (drop l.edge-index l.edges) l.reference))))
    ≡ l.fn.out.tokens ++ json_tokens (outline (list_data string (targets_of (indexed_name l.objects) l.edges l.reference))))
    × (l.out.before ≡ l.fn.out.before)
