use Rattle.std.proofs.Common.{◌≡◌, ◌++◌}
use Rattle.json.specs.Tree.{json_tokens, members_tokens}
use Rattle.serde_json.specs.Data.{object, string}
use Rattle.serde_json.specs.Written.{members_outline, outline}
use Rattle.hs_graph.specs.Index.{indexed_name}
use Rattle.hs_json_model.specs.ByName.{entry_members}
use Rattle.hs_json_model.specs.Written.{list_data, targets_of}
use Rattle.hs_json_model.proofs.graph_text.add_references.Given as goal

-- the tokens so far, and those of the entries that are left, are all of the object
abbrev pub invariant-loop-name : goal.invariant-loop-name
invariant-loop-name l =
    (l.out.tokens ++ members_tokens (members_outline (entry_members (λ f. list_data string (targets_of (indexed_name l.objects) l.edges f)) l.name-iterator))
    ≡ l.fn.out.tokens ++ json_tokens (outline (object (entry_members (λ f. list_data string (targets_of (indexed_name l.objects) l.edges f)) l.refs.entries))))
    × (l.out.before ≡ l.fn.out.before)
