-- What a written graph is read as: the same objects, numbered by place, and the same edges,
-- numbered anew.
use Rattle.std.specs.Prelude.{ℕ, ◌+◌, ◌≤◌, ◌≡◌, List, [], ◌∷◌, ◌++◌, length, map, eqb, true}
use Rattle.std.specs.List.{All, filter, flat_map}
use Rattle.std.specs.Option.{unwrap_or}
use Rattle.hs_types.specs.declared.graph.Edge.{Edge}
use Rattle.hs_types.specs.declared.graph.Graph.{Graph}
use Rattle.hs_types.specs.declared.graph.Object.{Object}
use Rattle.hs_types.specs.declared.meta.Metamodel.{Metamodel}
use Rattle.hs_types.specs.declared.limits.TheConstants.{MAX_EDGES, MAX_OBJECTS}
use Rattle.hs_types.specs.Metamodel.{features_of}
use Rattle.hs_graph.specs.declared.edges.Link.{Link}
use Rattle.hs_graph.specs.Faults.{is_short}
use Rattle.hs_graph.specs.Meaning as meaning
use Rattle.hs_graph.specs.Names.{is_object_name}
use Rattle.hs_graph.specs.Problems.{edges_leaving, index_of}

-- At most 200,000 objects and 400,000 edges; names that an object can be given, and texts of at
-- most 65,536 bytes.
pub record IsWritable (g : Graph) : Type 0 where
  pub objects : length g.objects ≤ MAX_OBJECTS
  pub edges : length g.edges ≤ MAX_EDGES
  pub names : All (λ object. is_object_name object.name ≡ true) g.objects
  pub texts : All (λ object. All (λ slot. is_short slot.value ≡ true) object.slots) g.objects

-- The place of the object of this number.
abbrev pub place_in : Graph → ℕ → ℕ
place_in g n = unwrap_or (index_of g n) 0

-- The edges of a reference among these.
abbrev pub edges_by : List Edge → ℕ → List Edge
edges_by edges reference = filter (λ e. eqb e.reference reference) edges

-- The edge, between places.
abbrev pub link_between : Graph → ℕ → ℕ → Edge → Link
link_between g source reference e = record {
  source = source;
  reference = reference;
  target = place_in g e.target;
}

-- The edges that begin at an object of this place: reference by reference in the order of its
-- class, and those of one reference in their order.
abbrev pub links_at : Metamodel → Graph → ℕ → Object → List Link
links_at m g place object =
    flat_map (λ f. map (link_between g place f) (edges_by (edges_leaving g object.number) f))
    (features_of m object.class)

-- The edges that begin at these objects, object by object; the first one has this place.
abbrev pub links_by_place : Metamodel → Graph → ℕ → List Object → List Link
links_by_place m g place [] = []
links_by_place m g place (object ∷ objects) =
    links_at m g place object ++ links_by_place m g (place + 1) objects

-- The objects, numbered from n on.
abbrev pub objects_by_place : ℕ → List Object → List Object
objects_by_place n [] = []
objects_by_place n (object ∷ objects) =
    record { number = n; name = object.name; class = object.class; slots = object.slots }
    ∷ objects_by_place (n + 1) objects

-- The same graph, numbered by places.
unfoldable pub graph_by_place : Metamodel → Graph → Graph
graph_by_place m g = record {
  objects = objects_by_place 0 g.objects;
  edges = meaning.edges_of_links 0 (links_by_place m g 0 g.objects);
  next_object = length g.objects;
  next_edge = length (links_by_place m g 0 g.objects);
  next_name = meaning.next_name_after (map (λ object. object.name) g.objects);
}
