use Rattle.std.proofs.Common.{◌≡◌, drop, map}
use Rattle.serde_json.specs.Data.{no_members}
use Rattle.hs_json_model.specs.ByName.{entry_members}
use Rattle.hs_json_model.specs.Written.{feature_name, value_data, with_members}
use Rattle.hs_json_model.proofs.graph_text.slots_by_name.Given as goal

-- the members so far, with those of the slots that are left, are those of all
abbrev pub invariant-loop-slot : goal.invariant-loop-slot
invariant-loop-slot l =
    with_members (entry_members (λ slot. value_data slot.now.value) l.found.entries) (map (λ slot. (feature_name l.meta slot.attribute, value_data slot.value)) (drop l.slot-index l.slot-items))
    ≡ with_members no_members (map (λ slot. (feature_name l.meta slot.attribute, value_data slot.value)) l.slot-items)
