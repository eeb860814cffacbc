-- Which slots are set, node by node.
use Rattle.std.specs.Prelude.{ℕ, ◌≡◌, List, []}
use Rattle.std.specs.List.{list_any}
use Rattle.std.specs.Option.{option_map_or}
use Rattle.std.specs.Str.{bytes_eq}
use denote.Ref.{Bor}
use Rattle.indexmap.specs.IndexMap.{IndexMap, get_by}
use Rattle.hs_expr.specs.Lists.{same_text}
use Rattle.hs_faults.specs.StatementFaults.{Slot, is_set_before}

-- The attributes that the map has for a node.
abbrev pub attributes_in : {S : Type 0} → IndexMap (Bor (List ℕ)) (List (Bor (List ℕ))) S → List ℕ
    → List (Bor (List ℕ))
attributes_in written node =
    option_map_or (λ attributes. attributes) (get_by (λ k. bytes_eq node k.now) written) []

-- The map has the slots and no others.
abbrev pub HasSlots : {S : Type 0} → IndexMap (Bor (List ℕ)) (List (Bor (List ℕ))) S → List Slot
    → Type 0
HasSlots written slots =
    (node attribute : List ℕ) → list_any (λ other. same_text attribute other.now)
    (attributes_in written node) ≡ is_set_before slots node attribute
