-- A written graph is read back.
use Rattle.std.proofs.Common.{◌≡◌, List, map, Ok, ap, ◌∙◌}
use Rattle.hs_expr.specs.Steps.{◌>>=◌, fault_as}
use Rattle.hs_json_form.specs.Form.{Read}
use Rattle.hs_types.specs.declared.graph.Graph.{Graph}
use Rattle.hs_types.specs.declared.meta.Metamodel.{Metamodel}
use Rattle.hs_types.specs.Metamodel.{IsMeta}
use Rattle.hs_types.specs.TypedGraph.{IsTyped}
use Rattle.hs_graph.specs.declared.fault.GraphFault.{GraphFault}
use Rattle.hs_graph.specs.declared.raw.RawObject.{RawObject}
use Rattle.hs_expr.specs.Verdict.{unless}
use Rattle.hs_graph.specs.Faults.{graph_faults}
use Rattle.hs_graph.specs.Meaning.{graph_of}
use Rattle.hs_json_model.specs.Graph.{graph_at, graph_fault_at}
use Rattle.hs_json_model.specs.Meta.{form_fault}
use Rattle.hs_json_model.specs.Renumbered.{IsWritable, graph_by_place}
use Rattle.hs_json_model.specs.Written.{objects_data}
use Rattle.hs_json_model.proofs.FormBack.{object_written, objects_back}
use Rattle.hs_json_model.proofs.Held.{values_held}
use Rattle.hs_json_model.proofs.MeantBack.{meant_back}
use Rattle.hs_json_model.proofs.NoFaults.{no_faults}

pub graph_back : (m : Metamodel) (g : Graph) → IsMeta m → IsTyped m g → IsWritable g → graph_at m (objects_data m g) ≡ Ok (graph_by_place m g)
unfolding graph_at
graph_back m g is typed writable =
    let ws = map (object_written m g) g.objects in
    ap (λ (read : Read (List RawObject)). fault_as form_fault read >>= λ ws. fault_as (graph_fault_at ws) (unless (graph_faults m ws) (graph_of m ws))) (objects_back m g (values_held m g typed))
    ∙ ap (λ (fs : List GraphFault). fault_as (graph_fault_at ws) (unless fs (graph_of m ws))) (no_faults m g is typed writable)
    ∙ ap (λ (x : Graph). Ok x) (meant_back m g is typed)
