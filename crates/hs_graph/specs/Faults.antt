-- All faults of written objects over a metamodel, in the order in which they are reported: six
-- checks, each over the objects.
use Rattle.std.specs.Prelude.{ℕ, List, [], ◌∷◌, ◌++◌, length, take, Bool, true, false, not, nat_le, nat_lt, ◌&&◌, is_some, Option, Some, None, slice_get}
use Rattle.std.specs.Option.{option_map_or}
use Rattle.hs_expr.specs.declared.value.Value.{Value}
use Rattle.hs_expr.specs.declared.value.Value.TheVariants as value
use Rattle.hs_expr.specs.Verdict.{each, fault_if}
use Rattle.hs_types.specs.declared.meta.Metamodel.{Metamodel}
use Rattle.hs_types.specs.declared.limits.TheConstants.{MAX_EDGES, MAX_OBJECTS, MAX_TEXT_BYTES}
use Rattle.hs_types.specs.Metamodel.{class_at, fits, supers_of, target_of}
use Rattle.hs_types.specs.Metamodel.{conforms}
use Rattle.hs_graph.specs.declared.fault.GraphFault.{GraphFault}
use Rattle.hs_graph.specs.declared.fault.GraphFaultKind.{GraphFaultKind}
use Rattle.hs_graph.specs.declared.fault.GraphFaultKind.TheVariants as kind
use Rattle.hs_graph.specs.declared.fault.GraphPlace.{GraphPlace}
use Rattle.hs_graph.specs.declared.fault.GraphPlace.TheVariants as place
use Rattle.hs_graph.specs.declared.raw.RawAttr.{RawAttr}
use Rattle.hs_graph.specs.declared.raw.RawObject.{RawObject}
use Rattle.hs_graph.specs.declared.raw.RawRef.{RawRef}
use Rattle.hs_graph.specs.declared.raw.RawValue.{RawValue}
use Rattle.hs_graph.specs.declared.raw.RawValue.TheVariants.{Given, NoValue}
use Rattle.hs_graph.specs.Links.{all_links}
use Rattle.hs_types.specs.Names.{class_named}
use Rattle.hs_graph.specs.Lookups.{attribute_named, class_of_object, classes_of_objects, object_names, place_of, reference_named}
use Rattle.hs_graph.specs.Names.{is_object_name}

abbrev pub graph_fault : GraphPlace → GraphFaultKind → GraphFault
graph_fault place kind = record { place = place; kind = kind }

-- There are more than 200,000 objects.
abbrev pub many_objects : List RawObject → List GraphFault
many_objects objects =
    fault_if (nat_lt MAX_OBJECTS (length objects)) (graph_fault place.Graph kind.Limit)

abbrev pub name_faults_at : List RawObject → ℕ → RawObject → List GraphFault
name_faults_at objects i object =
    fault_if (not (is_object_name object.name)) (graph_fault (place.ObjectName i) kind.Name)
    ++ fault_if (is_some (place_of (take i (object_names objects)) object.name))
    (graph_fault (place.ObjectName i) kind.Twice)

-- A text that can't name an object, or the name of one before.
abbrev pub name_faults : List RawObject → List GraphFault
name_faults objects = each (name_faults_at objects) objects

-- The class is there, and abstract.
abbrev pub is_abstract : Metamodel → ℕ → Bool
is_abstract m c = option_map_or (λ class. class.is_abstract) (class_at m c) false

-- What is wrong with a class that may be there.
abbrev pub known_class_faults : Metamodel → ℕ → Option ℕ → List GraphFault
known_class_faults m i None = graph_fault (place.ObjectClass i) kind.UnknownClass ∷ []
known_class_faults m i (Some c) =
    fault_if (is_abstract m c) (graph_fault (place.Object i) kind.Abstract)

abbrev pub object_class_faults_at : Metamodel → ℕ → RawObject → List GraphFault
object_class_faults_at m i object = known_class_faults m i (class_named m object.class)

-- A class that isn't there, or is abstract.
abbrev pub object_class_faults : Metamodel → List RawObject → List GraphFault
object_class_faults m objects = each (object_class_faults_at m) objects

-- A text has at most 65,536 bytes.
abbrev pub is_short : Value → Bool
is_short (value.Text text) = nat_le (length text) MAX_TEXT_BYTES
is_short (value.Int n) = true
is_short (value.Bool b) = true

-- The attribute takes what is written: a value of its type, and a short one.
abbrev pub takes : Metamodel → ℕ → RawValue → Bool
takes m f (Given v) = fits m f v && is_short v
takes m f NoValue = false

-- What is wrong with what is written for an attribute that may be there.
abbrev pub value_faults : Metamodel → ℕ → ℕ → RawValue → Option ℕ → List GraphFault
value_faults m i a written None = graph_fault (place.Attr i a) kind.UnknownAttribute ∷ []
value_faults m i a written (Some f) =
    fault_if (not (takes m f written)) (graph_fault (place.Attr i a) kind.BadValue)

abbrev pub attr_faults_at : Metamodel → ℕ → ℕ → ℕ → RawAttr → List GraphFault
attr_faults_at m class i a attr = value_faults m i a attr.value (attribute_named m class attr.name)

-- An attribute that the object's class doesn't have, or that doesn't take what is written.
abbrev pub attr_faults : Metamodel → List RawObject → List GraphFault
attr_faults m objects =
    each (λ i object. each (attr_faults_at m (class_of_object m object) i) object.attrs) objects

-- Both classes are there, and the first conforms to the second.
abbrev pub both_conform : Metamodel → Option ℕ → Option ℕ → Bool
both_conform m (Some class) (Some above) = conforms (supers_of m) class above
both_conform m _ _ = false

-- Reference f can lead to object t, where these are the objects' classes: its class conforms to the
-- one that f leads to.
abbrev pub leads_to : Metamodel → List ℕ → ℕ → ℕ → Bool
leads_to m classes f t = both_conform m (slice_get classes t) (target_of m f)

-- What is wrong with a target that may be there.
abbrev pub reach_faults : Metamodel → List ℕ → ℕ → GraphPlace → Option ℕ → List GraphFault
reach_faults m classes f at None = graph_fault at kind.UnknownTarget ∷ []
reach_faults m classes f at (Some t) =
    fault_if (not (leads_to m classes f t)) (graph_fault at kind.BadTarget)

abbrev pub target_faults_at : Metamodel → List (List ℕ) → List ℕ → ℕ → ℕ → ℕ → ℕ → List ℕ
    → List GraphFault
target_faults_at m names classes f i r t name =
    reach_faults m classes f (place.Target i r t) (place_of names name)

-- What is wrong with the targets of a reference that may be there.
abbrev pub targets_faults : Metamodel → List (List ℕ) → List ℕ → ℕ → ℕ → List (List ℕ) → Option ℕ
    → List GraphFault
targets_faults m names classes i r targets None =
    graph_fault (place.Ref i r) kind.UnknownReference ∷ []
targets_faults m names classes i r targets (Some f) =
    each (target_faults_at m names classes f i r) targets

abbrev pub ref_faults_at : Metamodel → List (List ℕ) → List ℕ → ℕ → ℕ → ℕ → RawRef → List GraphFault
ref_faults_at m names classes class i r ref =
    targets_faults m names classes i r ref.targets (reference_named m class ref.name)

-- A reference that the object's class doesn't have, a target that isn't there, or one of a class
-- that the reference doesn't lead to.
abbrev pub ref_faults : Metamodel → List RawObject → List GraphFault
ref_faults m objects =
    each (λ i object. each (ref_faults_at m (object_names objects) (classes_of_objects m objects)
    (class_of_object m object) i) object.refs) objects

-- There are more than 400,000 edges.
abbrev pub many_edges : Metamodel → List RawObject → List GraphFault
many_edges m objects =
    fault_if (nat_lt MAX_EDGES (length (all_links m objects))) (graph_fault place.Graph kind.Limit)

-- All faults, in their order.
abbrev pub graph_faults : Metamodel → List RawObject → List GraphFault
graph_faults m objects =
    many_objects objects
    ++ name_faults objects
    ++ object_class_faults m objects
    ++ attr_faults m objects
    ++ ref_faults m objects
    ++ many_edges m objects
