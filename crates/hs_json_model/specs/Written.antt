-- A graph as it is written: a JSON value with its objects, and the vocabulary on members that such
-- values are said in.
use Rattle.std.specs.Prelude.{ℕ, List, [], ◌∷◌, ◌++◌, map, codes, eqb, slice_get}
use Rattle.std.specs.List.{filter, flat_map}
use Rattle.std.specs.Option.{option_map, unwrap_or}
use Rattle.serde_json.specs.Data.{Data, boolean, number, string, array, object, Members, no_members, put}
use Rattle.serde_json.specs.Find.{of_integer}
use Rattle.serde_json.specs.View.{items_of}
use Rattle.serde_json.specs.Written.{compact_text}
use Rattle.hs_expr.specs.declared.value.Value.{Value}
use Rattle.hs_expr.specs.declared.value.Value.TheVariants as value
use Rattle.hs_types.specs.declared.graph.Edge.{Edge}
use Rattle.hs_types.specs.declared.graph.Graph.{Graph}
use Rattle.hs_types.specs.declared.graph.Object.{Object}
use Rattle.hs_types.specs.declared.graph.Slot.{Slot}
use Rattle.hs_types.specs.declared.meta.Metamodel.{Metamodel}
use Rattle.hs_types.specs.Metamodel.{features_of}
use Rattle.hs_types.specs.TypedGraph.{name_at}
use Rattle.hs_graph.specs.Problems.{edges_leaving}

-- A member of an object: its key and its value.
abbrev pub Member : Type 0
Member = List ℕ × Data

-- The members, with these put among them: an object's keys are in byte order, each once.
abbrev pub with_members : Members → List Member → Members
with_members ms [] = ms
with_members ms (m ∷ more) = with_members (put m.0 m.1 ms) more

abbrev pub object_data : List Member → Data
object_data ms = object (with_members no_members ms)

abbrev pub list_data : {A : Type 0} → (A → Data) → List A → Data
list_data one xs = array (items_of (map one xs))

abbrev pub value_data : Value → Data
value_data (value.Int n) = number (of_integer n)
value_data (value.Bool b) = boolean b
value_data (value.Text t) = string t

-- The names of a class and a feature.
abbrev pub class_name : Metamodel → ℕ → List ℕ
class_name m c = unwrap_or (option_map (λ class. class.name) (slice_get m.classes c)) []

abbrev pub feature_name : Metamodel → ℕ → List ℕ
feature_name m f = unwrap_or (option_map (λ feature. feature.name) (slice_get m.features f)) []

abbrev pub attrs_data : Metamodel → List Slot → Data
attrs_data m slots =
    object_data (map (λ slot. (feature_name m slot.attribute, value_data slot.value)) slots)

-- The name of the object of this number.
abbrev pub name_in : Graph → ℕ → List ℕ
name_in g n = unwrap_or (name_at g n) []

-- The names of the targets at a reference, among an object's edges.
abbrev pub targets_of : (ℕ → List ℕ) → List Edge → ℕ → List (List ℕ)
targets_of names edges reference =
    map (λ e. names e.target) (filter (λ e. eqb e.reference reference) edges)

-- A reference that has no target is left out.
abbrev pub reference_member : List ℕ → List (List ℕ) → List Member
reference_member name [] = []
reference_member name (target ∷ targets) = (name, list_data string (target ∷ targets)) ∷ []

abbrev pub refs_members : Metamodel → (ℕ → List ℕ) → List Edge → List ℕ → List Member
refs_members m names edges features =
    flat_map (λ f. reference_member (feature_name m f) (targets_of names edges f)) features

abbrev pub object_members : Metamodel → (ℕ → List ℕ) → List Edge → Object → List Member
object_members m names edges o =
    (codes "attrs", attrs_data m o.slots) ∷ (codes "class", string (class_name m o.class))
    ∷ (codes "name", string o.name)
    ∷ (codes "refs", object_data (refs_members m names edges (features_of m o.class))) ∷ []

abbrev pub object_line : Metamodel → Graph → Object → Data
object_line m g o = object_data (object_members m (name_in g) (edges_leaving g o.number) o)

-- A graph: its objects by number, each with its values and, by edge number, its targets.
abbrev pub objects_data : Metamodel → Graph → Data
objects_data m g = list_data (object_line m g) g.objects

abbrev pub graph_members : Metamodel → Graph → List Member
graph_members m g = (codes "graph", objects_data m g) ∷ []

abbrev pub graph_data : Metamodel → Graph → Data
graph_data m g = object_data (graph_members m g)

-- A value's compact text, and the line feed that ends its line.
abbrev pub line_of : Data → List ℕ
line_of d = compact_text d ++ 10 ∷ []

abbrev pub lines_of : List Data → List ℕ
lines_of ds = flat_map line_of ds
