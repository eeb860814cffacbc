-- How many members an object has.
use Rattle.std.proofs.Common.{◌≡◌, List, [], ◌∷◌, length, suc, refl, ap}
use Rattle.std.specs.Prelude.{String}
use Rattle.std.specs.declared.alloc.Global.{Global}
use Rattle.serde_json.specs.View.{members_view}
use Rattle.serde_json.specs.declared.value.Value.{Value}
use Rattle.hs_json_form.specs.Form.{entries}

pub count : (ms : List (String Global × Value)) → length (entries (members_view ms)) ≡ length ms
count [] = refl
count (m ∷ ms) = ap suc (count ms)
