-- What a bundle asks for: nothing, or one call of its one rule. More is not built yet.
use Rattle.std.specs.Prelude.{ℕ, List, [], ◌∷◌, Bool, true, false, not, ◌&&◌, eqb, length, is_some, codes, if◌then◌else◌, Option, Some, None}
use Rattle.std.proofs.Common.{lit≤}
use Rattle.std.specs.Option.{option_and_then, option_map, option_map_or}
use Rattle.std.specs.Borrow.{Bor}
use Rattle.serde_json.specs.declared.value.Value.{Value}
use Rattle.serde_json.specs.View.{view}
use Rattle.serde_json.specs.Data.{Data}
use Rattle.serde_json.specs.Find.{as_array, as_object, as_str, at, get}
use Rattle.hs_json_form.specs.Form.{entries}
use Rattle.hs_types.specs.declared.request.Request.{Request}
use Rattle.hs_types.specs.declared.rule.Rule.{Rule}
use Rattle.hs_types.specs.declared.unit.Unit.{Unit as RuleUnit}
use Rattle.hs_types.specs.Additions.{is_empty, only_adds}
use Rattle.hs_expr.specs.Lists.{same_text}

-- The value that is referred to, as it is seen.
abbrev pub seen : Option (Bor Value) → Option Data
seen value = option_map (λ v. view v.now) value

-- A list without a first item.
abbrev pub is_empty_list : Data → Bool
is_empty_list d = is_some (as_array d) && not (is_some (at 0 d))

-- The list is left out, or empty.
abbrev pub has_none : Option Data → Bool
has_none list = option_map_or is_empty_list list true

-- The only item of a list.
abbrev pub only_item : Data → Option Data
only_item d = if is_some (at 1 d) then None else at 0 d

abbrev pub has_one_member : Data → Bool
has_one_member d = option_map_or (λ ms. eqb (length (entries ms)) 1) (as_object d) false

-- The value at this key of an object that has no other.
abbrev pub only_member : List ℕ → Data → Option Data
only_member key d = if has_one_member d then get key d else None

-- What the one request of the one session calls, of which it says no more.
abbrev pub call_in : Data → Option (List ℕ)
call_in sessions =
    option_and_then as_str (option_and_then (only_member (codes "call"))
    (option_and_then only_item (only_item sessions)))

-- What the sessions call.
abbrev pub called : Option Data → Option (List ℕ)
called sessions = option_and_then call_in sessions

-- The one rule of a set without units.
abbrev pub only_rule : List Rule → List RuleUnit → Option Rule
only_rule (rule ∷ []) [] = Some rule
only_rule rules units = None

-- The rule only adds, and has no parameters.
abbrev pub is_built_rule : Rule → Bool
is_built_rule rule = only_adds rule && is_empty rule.params

abbrev pub is_called : Option Data → Rule → Bool
is_called sessions rule = option_map_or (same_text rule.name) (called sessions) false

-- The rule that is called, where that is built.
abbrev pub rule_called : List Rule → List RuleUnit → Option Data → Option Rule
rule_called rules units sessions =
    option_and_then (λ rule. if is_built_rule rule && is_called sessions rule then Some rule
    else None) (only_rule rules units)

-- The request that calls this, and says no more: it has no arguments, a fuel of 1,000, and isn't a
-- group.
abbrev pub plain_call : List ℕ → Request
plain_call name = record {
  call = name;
  args = record { list = [] };
  fuel = 1000;
  group = false;
  some_fuel = lit≤ tt;
  fuel_bound = lit≤ tt;
}

-- One session, whose one request calls the rule.
abbrev pub once : Rule → List (List Request)
once rule = (plain_call rule.name ∷ []) ∷ []

-- The requests of each session in a bundle with these sessions and this journal, with these rules
-- and units.
abbrev pub sessions_asked : List Rule → List RuleUnit → Option Data → Option Data
    → Option (List (List Request))
sessions_asked rules units sessions journal =
    if not (has_none journal) then None
    else if has_none sessions then Some []
    else option_map once (rule_called rules units sessions)
