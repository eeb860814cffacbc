use Rattle.std.proofs.Common.{◌≡◌, ◌++◌}
use Rattle.json.specs.Tree.{json_tokens, members_tokens}
use Rattle.serde_json.specs.Data.{object}
use Rattle.serde_json.specs.Written.{members_outline, outline}
use Rattle.hs_json_model.specs.ByName.{entry_members}
use Rattle.hs_json_model.specs.Written.{value_data}
use Rattle.hs_json_model.proofs.graph_text.add_slots.Given as goal

-- the tokens so far, and those of the entries that are left, are all of the object
abbrev pub invariant-loop-name : goal.invariant-loop-name
invariant-loop-name l =
    (l.out.tokens ++ members_tokens (members_outline (entry_members (λ slot. value_data slot.now.value) l.name-iterator))
    ≡ l.fn.out.tokens ++ json_tokens (outline (object (entry_members (λ slot. value_data slot.now.value) l.slots.entries))))
    × (l.out.before ≡ l.fn.out.before)
