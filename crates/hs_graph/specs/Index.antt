-- What an index finds by number.
use Rattle.std.specs.Prelude.{ℕ, List, [], Option, eqb, slice_get}
use Rattle.std.specs.Borrow.{Bor}
use Rattle.std.specs.BTreeMap.{get}
use Rattle.std.specs.List.{filter}
use Rattle.std.specs.Option.{option_map, unwrap_or}
use Rattle.std.specs.Ordering.{nat_cmp}
use Rattle.hs_types.specs.declared.graph.Edge.{Edge}
use Rattle.hs_types.specs.declared.graph.Object.{Object}
use Rattle.hs_graph.specs.Ends.{EdgesBy, end_number}
use Rattle.hs_graph.specs.declared.index.ObjectIndex.{ObjectIndex}

-- The object of this number, among those that are found by place or else by number.
abbrev pub indexed_object : ObjectIndex → ℕ → Option (Bor Object)
indexed_object objects n = unwrap_or (slice_get objects.near.items n) (get nat_cmp objects.far n)

-- The names of objects that are found so.
abbrev pub indexed_name : ObjectIndex → ℕ → List ℕ
indexed_name objects n = unwrap_or (option_map (λ o. o.now.name) (indexed_object objects n)) []

-- The edges that have the object of this number at the end by which they are in order.
abbrev pub indexed_edges : EdgesBy → ℕ → List Edge
indexed_edges index n = filter (λ edge. eqb (end_number index.by edge) n) index.edges
