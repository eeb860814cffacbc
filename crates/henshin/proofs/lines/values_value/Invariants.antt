use Rattle.std.proofs.Common.{◌≡◌, map, drop}
use Rattle.serde_json.specs.Data.{no_members}
use Rattle.serde_json.specs.View.{members_view}
use Rattle.hs_json_model.specs.Written.{value_data, with_members}
use Rattle.henshin.proofs.lines.values_value.Given as goal

-- the members so far, with those of the values that are left, are those of all
abbrev pub invariant-loop-named : goal.invariant-loop-named
invariant-loop-named l =
    with_members (members_view l.members.entries) (map (λ v. (v.attribute, value_data v.value)) (drop l.named-index l.values))
    ≡ with_members no_members (map (λ v. (v.attribute, value_data v.value)) l.values)
