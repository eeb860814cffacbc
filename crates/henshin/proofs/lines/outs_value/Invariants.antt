use Rattle.std.proofs.Common.{◌≡◌, map, drop}
use Rattle.serde_json.specs.Data.{string, no_members}
use Rattle.serde_json.specs.View.{members_view}
use Rattle.hs_json_model.specs.Written.{with_members}
use Rattle.henshin.proofs.lines.outs_value.Given as goal

-- the members so far, with those of the outs that are left, are those of all
abbrev pub invariant-loop-out : goal.invariant-loop-out
invariant-loop-out l =
    with_members (members_view l.members.entries) (map (λ out. (out.parameter, string out.object)) (drop l.out-index l.out-items))
    ≡ with_members no_members (map (λ out. (out.parameter, string out.object)) l.out-items)
