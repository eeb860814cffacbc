-- The typed graph that written objects mean over a metamodel, where they have no fault.
use Rattle.std.specs.Prelude.{ℕ, ◌+◌, List, [], ◌∷◌, length, max, Option, Some, None}
use Rattle.std.specs.List.{filter_map, find}
use Rattle.std.specs.Option.{option_and_then, option_map, unwrap_or}
use Rattle.hs_expr.specs.declared.value.Value.{Value}
use Rattle.hs_types.specs.declared.graph.Edge.{Edge}
use Rattle.hs_types.specs.declared.graph.Graph.{Graph}
use Rattle.hs_types.specs.declared.graph.Object.{Object}
use Rattle.hs_types.specs.declared.graph.Slot.{Slot}
use Rattle.hs_types.specs.declared.meta.Metamodel.{Metamodel}
use Rattle.hs_types.specs.Metamodel.{default_of, features_of}
use Rattle.hs_graph.specs.declared.edges.Link.{Link}
use Rattle.hs_graph.specs.declared.raw.RawAttr.{RawAttr}
use Rattle.hs_graph.specs.declared.raw.RawObject.{RawObject}
use Rattle.hs_graph.specs.declared.raw.RawValue.{RawValue}
use Rattle.hs_graph.specs.declared.raw.RawValue.TheVariants.{Given, NoValue}
use Rattle.hs_graph.specs.Links.{all_links}
use Rattle.hs_graph.specs.Lookups.{class_of_object, is_attribute_named, object_names}
use Rattle.hs_graph.specs.Names.{next_after}

abbrev pub value_of_raw : RawValue → Option Value
value_of_raw (Given v) = Some v
value_of_raw NoValue = None

-- The value that is written for attribute f.
abbrev pub written_value : Metamodel → List RawAttr → ℕ → Option Value
written_value m attrs f =
    option_and_then (λ attr. value_of_raw attr.value)
    (find (λ attr. is_attribute_named m attr.name f) attrs)

-- The slot for feature f, if it is an attribute: with the value that is written, or else the
-- default.
abbrev pub slot_for : Metamodel → List RawAttr → ℕ → Option Slot
slot_for m attrs f =
    option_map (λ default. record {
      attribute = f;
      value = unwrap_or (written_value m attrs f) default;
    }) (default_of m f)

-- A slot for each attribute of the class, in the class's order.
abbrev pub slots_for : Metamodel → ℕ → List RawAttr → List Slot
slots_for m class attrs = filter_map (slot_for m attrs) (features_of m class)

abbrev pub object_of_raw : Metamodel → ℕ → RawObject → Object
object_of_raw m n object = record {
  number = n;
  name = object.name;
  class = class_of_object m object;
  slots = slots_for m (class_of_object m object) object.attrs;
}

-- The objects, numbered from n on.
abbrev pub objects_from : Metamodel → ℕ → List RawObject → List Object
objects_from m n [] = []
objects_from m n (object ∷ objects) = object_of_raw m n object ∷ objects_from m (n + 1) objects

-- The edges, numbered from n on.
abbrev pub edges_of_links : ℕ → List Link → List Edge
edges_of_links n [] = []
edges_of_links n (link ∷ links) =
    record { number = n; source = link.source; reference = link.reference; target = link.target }
    ∷ edges_of_links (n + 1) links

-- One above the greatest k of all names `#k` among these, or 0 where there is none.
abbrev pub next_name_after : List (List ℕ) → ℕ
next_name_after [] = 0
next_name_after (name ∷ names) = max (next_after name) (next_name_after names)

-- Objects and edges are numbered by their places.
unfoldable pub graph_of : Metamodel → List RawObject → Graph
graph_of m objects = record {
  objects = objects_from m 0 objects;
  edges = edges_of_links 0 (all_links m objects);
  next_object = length objects;
  next_edge = length (all_links m objects);
  next_name = next_name_after (object_names objects);
}
