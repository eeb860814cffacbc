-- What is read of a model is sound, by the laws of its parts.
use Rattle.std.proofs.Common.{◌≡◌, List, [], Ok, subst}
use Rattle.serde_json.specs.Data.{Data}
use Rattle.hs_expr.specs.Steps.{fault_as}
use Rattle.hs_expr.proofs.Chains.{both_give, none-from_wide}
use Rattle.hs_graph.specs.declared.raw.RawObject.{RawObject}
use Rattle.hs_graph.specs.Faults.{graph_faults}
use Rattle.hs_graph.specs.Meaning.{graph_of}
use Rattle.hs_meta.specs.declared.raw.RawMeta.{RawMeta}
use Rattle.hs_meta.specs.Faults.{model_faults}
use Rattle.hs_meta.specs.Meaning.{metamodel_of}
use Rattle.hs_json_model.specs.Graph.{graph_at, graph_fault_at}
use Rattle.hs_json_model.specs.GraphForm.{raw_objects}
use Rattle.hs_json_model.specs.Meta.{form_fault, meta_at, model_fault_at}
use Rattle.hs_json_model.specs.MetaForm.{raw_meta}
use Rattle.hs_types.specs.declared.graph.Graph.{Graph}
use Rattle.hs_types.specs.declared.meta.Metamodel.{Metamodel}

-- A metamodel that is read has what all metamodels of written classes without a fault have.
pub meta_sound : (P : Metamodel → Type 0) → ((raw : RawMeta) → model_faults raw.classes ≡ [] → P (metamodel_of raw)) → (d : Data) (m : Metamodel) → meta_at d ≡ Ok m → P m
unfolding meta_at
meta_sound P law d m e =
    let a = both_give _ (fault_as form_fault (raw_meta d)) m e in
    let b = none-from_wide model_fault_at (model_faults (a.0).classes) (metamodel_of a.0) m a.2 in
    subst P b.1 (law a.0 b.0)

-- The same of a graph.
pub graph_sound : (P : Graph → Type 0) (m : Metamodel) → ((objects : List RawObject) → graph_faults m objects ≡ [] → P (graph_of m objects)) → (d : Data) (g : Graph) → graph_at m d ≡ Ok g → P g
unfolding graph_at
graph_sound P m law d g e =
    let a = both_give _ (fault_as form_fault (raw_objects d)) g e in
    let b = none-from_wide (graph_fault_at a.0) (graph_faults m a.0) (graph_of m a.0) g a.2 in
    subst P b.1 (law a.0 b.0)
