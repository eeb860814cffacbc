-- The slots of a kernel or a multi-rule.
use Rattle.std.specs.Prelude.{ℕ, List, [], map, Bool, false, ◌&&◌, ◌||◌, eqb, is_some, if◌then◌else◌}
use Rattle.std.specs.List.{filter, list_any}
use Rattle.std.specs.Option.{option_map_or}
use Rattle.hs_expr.specs.declared.SlotRead.{SlotRead}
use Rattle.hs_expr.specs.Verdict.{each_from}
use Rattle.hs_types.specs.declared.meta.Metamodel.{Metamodel}
use Rattle.hs_types.specs.declared.rule.PatternNode.{PatternNode}
use Rattle.hs_types.specs.declared.rule.PatternSlot.{PatternSlot}
use Rattle.hs_types.specs.declared.rule.SetItem.{SetItem}
use Rattle.hs_types.specs.declared.rule.SlotKind.TheVariants.{Attribute}
use Rattle.hs_types.specs.Metamodel.{features_of, type_of}
use Rattle.hs_types.specs.Pattern.{is_kind, is_left}
use Rattle.hs_faults.specs.Names.{as_number}

-- The slot is read, and it is set.
abbrev pub is_read : List SlotRead → PatternSlot → Bool
is_read reads slot =
    list_any (λ read. eqb read.node slot.node && is_kind (Attribute read.attribute) slot.kind) reads

abbrev pub is_set : List SetItem → PatternSlot → Bool
is_set sets slot =
    list_any (λ item. eqb item.node slot.node && is_kind (Attribute item.attribute) slot.kind) sets

-- The slot of attribute a at node n.
abbrev pub slot_with : ℕ → ℕ → Bool → PatternSlot
slot_with n a written = record { node = n; kind = Attribute a; written = written }

-- It is written where it is set.
abbrev pub slot_at : List SetItem → ℕ → ℕ → PatternSlot
slot_at sets n a = slot_with n a (is_set sets (slot_with n a false))

-- Attribute a of node n is read or set.
abbrev pub is_used : List SlotRead → List SetItem → ℕ → ℕ → Bool
is_used reads sets n a = is_read reads (slot_with n a false) || is_set sets (slot_with n a false)

-- The slots of node n that are read or set, of the attributes among these features.
abbrev pub slots_among : Metamodel → List SlotRead → List SetItem → ℕ → List ℕ → List PatternSlot
slots_among m reads sets n features =
    map (slot_at sets n)
    (filter (is_used reads sets n) (filter (λ f. is_some (type_of m f)) features))

-- The slots of a left node that are read or set, in the order of its class.
abbrev pub slots_at_node : Metamodel → List SlotRead → List SetItem → ℕ → PatternNode
    → List PatternSlot
slots_at_node m reads sets n node =
    if is_left node.mark then slots_among m reads sets n (features_of m node.class) else []

-- The slots of the node at this place, which is its number.
abbrev pub slots_at_place : Metamodel → List SlotRead → List SetItem → ℕ → PatternNode
    → List PatternSlot
slots_at_place m reads sets place node =
    option_map_or (λ n. slots_at_node m reads sets n node) (as_number place) []

-- The slots of these nodes, node by node; the first node has this place.
abbrev pub slots_from : Metamodel → List SlotRead → List SetItem → ℕ → List PatternNode
    → List PatternSlot
slots_from m reads sets first nodes = each_from (slots_at_place m reads sets) first nodes
