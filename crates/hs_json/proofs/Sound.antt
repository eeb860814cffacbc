-- What bundles hold is sound.
use Rattle.std.proofs.Common.{◌≡◌, [], Option, Some, None, Result, Ok, Err, refl, subst, codes, IfOk, arith}
use Rattle.serde_json.specs.Data.{Data}
use Rattle.serde_json.specs.Find.{get}
use Rattle.hs_expr.specs.declared.failure.Failure.{Failure}
use Rattle.hs_expr.specs.Steps.{Gives, GivesBy, fault_as}
use Rattle.hs_expr.proofs.Chains.{both_give, same_ok, value-from_wide}
use Rattle.hs_graph.specs.Meaning.{graph_of}
use Rattle.hs_json_model.specs.Graph.{graph_at}
use Rattle.hs_json_model.specs.Meta.{meta_at}
use Rattle.hs_json_model.specs.Sound.{IsSound}
use Rattle.hs_types.specs.declared.graph.Graph.{Graph}
use Rattle.hs_types.specs.declared.meta.Metamodel.{Metamodel}
use Rattle.hs_types.specs.Metamodel.{IsMeta}
use Rattle.hs_types.specs.Limits.{IsSmallMeta}
use Rattle.hs_types.specs.Host.{HasNearNames}
use Rattle.hs_types.specs.TypedGraph.{IsTyped}
use Rattle.hs_json.specs.declared.fault.BundleFault.{BundleFault}
use Rattle.hs_json.specs.declared.fault.BundleFault.TheVariants.{BadBundle}
use Rattle.hs_json.specs.declared.reading.Bundle.{Bundle}
use Rattle.hs_json.specs.Reading as bundle

-- The laws on what is read of a metamodel and of a graph.
abbrev pub MetaLaw : (Metamodel → Type 0) → Type 0
MetaLaw P = (d : Data) (m : Metamodel) → meta_at d ≡ Ok m → P m

abbrev pub EmptyLaw : Type 0
EmptyLaw = (m : Metamodel) → IsMeta m → IsSmallMeta m → IsSound m (graph_of m [])

abbrev pub GraphLaw : Type 0
GraphLaw = (m : Metamodel) (d : Data) (g : Graph) → IsMeta m → IsSmallMeta m → graph_at m d ≡ Ok g → IsSound m g

part_sound : EmptyLaw → GraphLaw → (m : Metamodel) (d : Option Data) (g : Graph) → IsMeta m → IsSmallMeta m → bundle.graph_or_empty m d ≡ Ok g → IsSound m g
part_sound empty graphs m None g is small e = subst (IsSound m) (same_ok (graph_of m []) g (bundle.graph_or_empty m None) refl e) (empty m is small)
part_sound empty graphs m (Some d) g is small e = graphs m d g is small e

pub contents_sound : MetaLaw IsMeta → MetaLaw IsSmallMeta → EmptyLaw → GraphLaw → (d : Data) (held : bundle.Contents) → bundle.contents_of d ≡ Ok held → IsSound held.meta held.graph
unfolding bundle.contents_of
contents_sound whole small empty graphs d held e =
    let a = both_give _ (fault_as BadBundle (bundle.top_of d)) held e in
    let b = both_give _ (fault_as bundle.in_model (meta_at (a.0).0)) held a.2 in
    let c = both_give _ (fault_as bundle.in_graph (bundle.graph_or_empty b.0 (get (codes "graph") d))) held b.2 in
    let read = value-from_wide bundle.in_model (meta_at (a.0).0) b.0 b.1 in
    let graph = part_sound empty graphs b.0 (get (codes "graph") d) c.0 (whole (a.0).0 b.0 read) (small (a.0).0 b.0 read) (value-from_wide bundle.in_graph (bundle.graph_or_empty b.0 (get (codes "graph") d)) c.0 c.1) in
    let contents : bundle.Contents = record { meta = b.0; graph = c.0; rules = (a.0).1; sessions = get (codes "sessions") d; journal = get (codes "journal") d } in
    let made : Result bundle.Contents BundleFault = Ok contents in
    subst (λ (x : bundle.Contents). IsSound x.meta x.graph) (same_ok contents held made refl c.2) graph

pub given_sound : MetaLaw IsMeta → MetaLaw IsSmallMeta → EmptyLaw → GraphLaw → (d : Data) (result : Result Bundle (Failure BundleFault)) → GivesBy bundle.contents result (bundle.contents_of d) →
    IfOk result (λ held. IsSound held.graph.meta held.graph.graph)
given_sound whole small empty graphs d (Ok held) e = contents_sound whole small empty graphs d (bundle.contents held) e
given_sound whole small empty graphs d (Err failure) e = tt

-- A graph that is read is typed, and its names are near.
pub graph_typed : EmptyLaw → GraphLaw → (m : Metamodel) (d : Option Data) (result : Result Graph (Failure BundleFault)) → IsMeta m → IsSmallMeta m → Gives result (fault_as bundle.in_graph (bundle.graph_or_empty m d)) →
    IfOk result (λ g. IsTyped m g × HasNearNames g)
graph_typed empty graphs m d (Ok g) is small e =
    let sound = part_sound empty graphs m d g is small (value-from_wide bundle.in_graph (bundle.graph_or_empty m d) g e) in
    (sound.is_opening.typed, omega (arith, sound.low_names))
graph_typed empty graphs m d (Err failure) is small e = tt
