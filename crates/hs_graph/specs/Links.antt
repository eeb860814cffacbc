-- The edges that written objects mean, before they are numbered.
use Rattle.std.specs.Prelude.{ℕ, ◌+◌, List, [], ◌∷◌, ◌++◌, map}
use Rattle.std.specs.List.{find, flat_map}
use Rattle.std.specs.Option.{option_map_or, unwrap_or}
use Rattle.hs_types.specs.declared.meta.Metamodel.{Metamodel}
use Rattle.hs_types.specs.Metamodel.{features_of}
use Rattle.hs_graph.specs.declared.edges.Link.{Link}
use Rattle.hs_graph.specs.declared.raw.RawObject.{RawObject}
use Rattle.hs_graph.specs.declared.raw.RawRef.{RawRef}
use Rattle.hs_graph.specs.Lookups.{class_of_object, is_reference_named, object_names, place_of}

-- The names of the targets that are written for a feature; none where it isn't a reference.
abbrev pub targets_at : Metamodel → List RawRef → ℕ → List (List ℕ)
targets_at m refs f =
    option_map_or (λ ref. ref.targets) (find (λ ref. is_reference_named m ref.name f) refs) []

-- An edge from the source to the object of this name.
abbrev pub link_of : List (List ℕ) → ℕ → ℕ → List ℕ → Link
link_of names source f name = record {
  source = source;
  reference = f;
  target = unwrap_or (place_of names name) 0;
}

-- The edges from a source: reference by reference in the order of its class, target by target.
abbrev pub links_of : Metamodel → List (List ℕ) → ℕ → ℕ → List RawRef → List Link
links_of m names source class refs =
    flat_map (λ f. map (link_of names source f) (targets_at m refs f)) (features_of m class)

-- The same of all objects, object by object; the first one has this number.
abbrev pub links_of_objects : Metamodel → List (List ℕ) → ℕ → List RawObject → List Link
links_of_objects m names n [] = []
links_of_objects m names n (object ∷ objects) =
    links_of m names n (class_of_object m object) object.refs
    ++ links_of_objects m names (n + 1) objects

abbrev pub all_links : Metamodel → List RawObject → List Link
all_links m objects = links_of_objects m (object_names objects) 0 objects
