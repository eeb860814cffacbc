use Rattle.std.proofs.Common.{◌≡◌, map, drop}
use Rattle.serde_json.specs.Data.{no_members}
use Rattle.serde_json.specs.View.{members_view}
use Rattle.hs_json_model.specs.Written.{with_members, feature_name, value_data}
use Rattle.hs_json_model.proofs.values.attrs_value.Given as goal

-- the members so far, with those of the slots that are left, are those of all
abbrev pub invariant-loop-slot : goal.invariant-loop-slot
invariant-loop-slot l =
    with_members (members_view l.members.entries) (map (λ s. (feature_name l.meta s.attribute, value_data s.value)) (drop l.slot-index l.slot-items))
    ≡ with_members no_members (map (λ s. (feature_name l.meta s.attribute, value_data s.value)) l.slot-items)
