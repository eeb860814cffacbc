-- The typed graph that a JSON value is over a metamodel, or its first fault.
use Rattle.std.specs.Prelude.{ℕ, List, [], ◌∷◌, Result, codes, slice_get}
use Rattle.std.specs.Option.{option_and_then, option_map, unwrap_or}
use Rattle.serde_json.specs.Data.{Data}
use Rattle.hs_expr.specs.Steps.{◌>>=◌, fault_as}
use Rattle.hs_json_form.specs.declared.path.Step.{Step}
use Rattle.hs_json_form.specs.declared.path.Step.TheVariants.{Key, Place}
use Rattle.hs_graph.specs.declared.fault.GraphFault.{GraphFault}
use Rattle.hs_graph.specs.declared.fault.GraphFaultKind.{GraphFaultKind}
use Rattle.hs_graph.specs.declared.fault.GraphPlace.{GraphPlace}
use Rattle.hs_graph.specs.declared.fault.GraphPlace.TheVariants as place
use Rattle.hs_graph.specs.declared.raw.RawObject.{RawObject}
use Rattle.hs_expr.specs.Verdict.{unless}
use Rattle.hs_graph.specs.Faults.{graph_faults}
use Rattle.hs_graph.specs.Meaning.{graph_of}
use Rattle.hs_types.specs.declared.graph.Graph.{Graph}
use Rattle.hs_types.specs.declared.meta.Metamodel.{Metamodel}
use Rattle.hs_json_model.specs.declared.fault.Fault.{Fault}
use Rattle.hs_json_model.specs.declared.fault.Wrong.TheVariants.{Meaning}
use Rattle.hs_json_model.specs.GraphForm.{raw_objects}
use Rattle.hs_json_model.specs.Meta.{form_fault}

-- The name of an object's attribute, and of its reference, by their places in what is written.
abbrev pub attr_name : List RawObject → ℕ → ℕ → List ℕ
attr_name objects i n =
    unwrap_or (option_and_then (λ object. option_map (λ attr. attr.name) (slice_get object.attrs n))
    (slice_get objects i)) []

abbrev pub ref_name : List RawObject → ℕ → ℕ → List ℕ
ref_name objects i n =
    unwrap_or (option_and_then (λ object. option_map (λ ref. ref.name) (slice_get object.refs n))
    (slice_get objects i)) []

abbrev pub in_ref : List RawObject → ℕ → ℕ → List Step → List Step
in_ref objects i n inner = Place i ∷ Key (codes "refs") ∷ Key (ref_name objects i n) ∷ inner

-- The path of a place in a graph.
abbrev pub graph_path : List RawObject → GraphPlace → List Step
graph_path objects place.Graph = []
graph_path objects (place.Object i) = Place i ∷ []
graph_path objects (place.ObjectName i) = Place i ∷ Key (codes "name") ∷ []
graph_path objects (place.ObjectClass i) = Place i ∷ Key (codes "class") ∷ []
graph_path objects (place.Attr i n) =
    Place i ∷ Key (codes "attrs") ∷ Key (attr_name objects i n) ∷ []
graph_path objects (place.Ref i n) = in_ref objects i n []
graph_path objects (place.Target i n t) = in_ref objects i n (Place t ∷ [])

-- A fault at its path.
abbrev pub graph_fault_at : List RawObject → GraphFault → Fault GraphFaultKind
graph_fault_at objects fault = record {
  path = graph_path objects fault.place;
  wrong = Meaning fault.kind;
}

-- The graph that a value is: of its form, and then of its meaning.
unfoldable pub graph_at : Metamodel → Data → Result Graph (Fault GraphFaultKind)
graph_at m d = do
  objects ← fault_as form_fault (raw_objects d)
  fault_as (graph_fault_at objects) (unless (graph_faults m objects) (graph_of m objects))
