-- Patterns: what a rule keeps, drops and makes, and its left side.
use Rattle.std.specs.Prelude.{ℕ, List, [], Bool, true, false, slice_get, eqb}
use Rattle.std.specs.List.{filter}
use Rattle.std.specs.Option.{option_map, unwrap_or}
use Rattle.hs_types.specs.declared.rule.Mark.{Mark}
use Rattle.hs_types.specs.declared.rule.Mark.TheVariants.{Keep, Drop, Make}
use Rattle.hs_types.specs.declared.rule.Part.{Part}
use Rattle.hs_types.specs.declared.rule.PatternEdge.{PatternEdge}
use Rattle.hs_types.specs.declared.rule.PatternNode.{PatternNode}
use Rattle.hs_types.specs.declared.rule.Shape.{Shape}
use Rattle.hs_types.specs.declared.rule.SlotKind.{SlotKind}
use Rattle.hs_types.specs.declared.rule.SlotKind.TheVariants.{Attribute, Link, Container}

-- The left side has what is kept or dropped.
abbrev pub is_left : Mark → Bool
is_left Keep = true
is_left Drop = true
is_left Make = false

abbrev pub is_keep : Mark → Bool
is_keep Keep = true
is_keep Drop = false
is_keep Make = false

abbrev pub is_drop : Mark → Bool
is_drop Keep = false
is_drop Drop = true
is_drop Make = false

abbrev pub is_make : Mark → Bool
is_make Keep = false
is_make Drop = false
is_make Make = true

-- What an inverse does with an element: dropped and made change places.
abbrev pub inverse_mark : Mark → Mark
inverse_mark Keep = Keep
inverse_mark Drop = Make
inverse_mark Make = Drop

abbrev pub left_nodes : List PatternNode → List PatternNode
left_nodes nodes = filter (λ node. is_left node.mark) nodes

abbrev pub left_edges : List PatternEdge → List PatternEdge
left_edges edges = filter (λ edge. is_left edge.mark) edges

abbrev pub made_nodes : List PatternNode → List PatternNode
made_nodes nodes = filter (λ node. is_make node.mark) nodes

abbrev pub made_edges : List PatternEdge → List PatternEdge
made_edges edges = filter (λ edge. is_make edge.mark) edges

-- Whether the test passes at node n.
abbrev pub node_is : (Mark → Bool) → List PatternNode → ℕ → Bool
node_is test nodes n = unwrap_or (option_map (λ node. test node.mark) (slice_get nodes n)) false

-- A forbid or require part as a shape: it reads and writes no slot.
abbrev pub shape_of : Part → Shape
shape_of part = record { nodes = part.nodes; edges = part.edges; slots = [] }

-- The shape that nothing is in.
abbrev pub no_shape : Shape
no_shape = record { nodes = []; edges = []; slots = [] }

abbrev pub is_kind : SlotKind → SlotKind → Bool
is_kind (Attribute a) (Attribute b) = eqb a b
is_kind (Link r) (Link s) = eqb r s
is_kind Container Container = true
is_kind _ _ = false
