-- The elements of a pattern: what a rule uses, deletes and creates.
use Rattle.std.specs.Prelude.{ℕ, Bool, false, ◌&&◌, slice_get}
use Rattle.std.specs.Option.{option_map, unwrap_or}
use Rattle.hs_types.specs.declared.rule.Mark.{Mark}
use Rattle.hs_types.specs.declared.rule.PatternSlot.{PatternSlot}
use Rattle.hs_types.specs.declared.rule.Shape.{Shape}
use Rattle.hs_types.specs.Pattern.{is_drop, is_left, is_make, node_is}

-- A node, an edge or a slot, by its number in its shape.
pub data Element : Type 0 where
  Node : ℕ → Element
  Edge : ℕ → Element
  Slot : ℕ → Element

abbrev pub edge_is : (Mark → Bool) → Shape → ℕ → Bool
edge_is test shape n =
    unwrap_or (option_map (λ edge. test edge.mark) (slice_get shape.edges n)) false

abbrev pub slot_is : (PatternSlot → Bool) → Shape → ℕ → Bool
slot_is test shape n = unwrap_or (option_map test (slice_get shape.slots n)) false

-- The slot is on the left side, as the slots of left nodes are; and it is written.
abbrev pub left_slot : Shape → PatternSlot → Bool
left_slot shape slot = node_is is_left shape.nodes slot.node

abbrev pub written_slot : Shape → PatternSlot → Bool
written_slot shape slot = left_slot shape slot && slot.written

-- A rule uses each element of its left side: what it keeps, what it drops, and the slots of left
-- nodes.
abbrev pub uses : Shape → Element → Bool
uses shape (Node n) = node_is is_left shape.nodes n
uses shape (Edge n) = edge_is is_left shape n
uses shape (Slot n) = slot_is (left_slot shape) shape n

-- It deletes the dropped nodes, the dropped edges and the written slots: a value that is
-- overwritten is gone.
abbrev pub deletes : Shape → Element → Bool
deletes shape (Node n) = node_is is_drop shape.nodes n
deletes shape (Edge n) = edge_is is_drop shape n
deletes shape (Slot n) = slot_is (written_slot shape) shape n

-- It creates the made nodes, the made edges and, again, the written slots.
abbrev pub creates : Shape → Element → Bool
creates shape (Node n) = node_is is_make shape.nodes n
creates shape (Edge n) = edge_is is_make shape n
creates shape (Slot n) = slot_is (written_slot shape) shape n
