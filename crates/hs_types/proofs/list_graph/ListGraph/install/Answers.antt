use Rattle.std.proofs.Common.{rules, ◌≡◌, List, sym, subst, ◌∙◌}
use Rattle.std.specs.Arc.{arc_value}
use Rattle.std.specs.List.{All}
use Rattle.hs_types.specs.declared.graph.Graph.{Graph}
use Rattle.hs_types.specs.declared.meta.Metamodel.{Metamodel}
use Rattle.hs_types.specs.declared.plan.MadeEdge.{MadeEdge}
use Rattle.hs_types.specs.Host.{CanInstall, HasNearNames, RoomyGraph}
use Rattle.hs_types.specs.Metamodel.{IsMeta}
use Rattle.hs_types.specs.TypedGraph.{IsTyped}
use Rattle.hs_types.specs.Writing.{AreKeyed, IsWithin}
use Rattle.hs_types.proofs.Installed.{ends_within, keyed_objects, near_after, stepped, stepped_edges, stepped_objects, typed_after}
use Rattle.hs_types.proofs.list_graph.ListGraph.install.Goals as goal

pub step_objects-requires-clause-keyed : goal.step_objects-requires-clause-keyed
step_objects-requires-clause-keyed c =
    let m : Metamodel = arc_value c.self.inside.meta in
    let g : Graph = record { objects = c.self.inside.objects.items; edges = c.self.inside.edges.items; next_object = c.self.inside.next_object; next_edge = c.self.inside.next_edge; next_name = c.self.inside.next_name } in
    let is : IsMeta m = search rules in
    subst AreKeyed (sym c.reserve.ensures.items) (keyed_objects m g is c.self.invariant.0)

pub step_edges-requires-clause-ends : goal.step_edges-requires-clause-ends
step_edges-requires-clause-ends c =
    let m : Metamodel = arc_value c.self.inside.meta in
    let g : Graph = record { objects = c.self.inside.objects.items; edges = c.self.inside.edges.items; next_object = c.self.inside.next_object; next_edge = c.self.inside.next_edge; next_name = c.self.inside.next_name } in
    let can : CanInstall m g c.args.plan.now = subst (λ (h : RoomyGraph). CanInstall h.meta h.graph c.args.plan.now) (sym c.self.view_is) c.requires in
    let e : c.as_slice.result.now ≡ c.args.plan.now.make_edges = search rules in
    subst (λ (es : List MadeEdge). All (λ edge. IsWithin g.next_object edge.source × IsWithin g.next_object edge.target) es) (sym e) (ends_within m g c.args.plan.now c.self.invariant.0 can)

pub invariant_of-self-2 : goal.invariant_of-self-2
invariant_of-self-2 c =
    let m : Metamodel = arc_value c.self.inside.meta in
    let g : Graph = record { objects = c.self.inside.objects.items; edges = c.self.inside.edges.items; next_object = c.self.inside.next_object; next_edge = c.self.inside.next_edge; next_name = c.self.inside.next_name } in
    let can : CanInstall m g c.args.plan.now = subst (λ (h : RoomyGraph). CanInstall h.meta h.graph c.args.plan.now) (sym c.self.view_is) c.requires in
    let objects = c.step_objects.ensures.items ∙ stepped_objects g c.args.plan.now c.into_vec-2.result.items c.into_vec.result.items c.into_vec-3.result.items c.reserve.new.self.items (search rules) (search rules) (search rules) c.reserve.ensures.items in
    let edges = c.step_edges.ensures.items ∙ stepped_edges g c.args.plan.now c.into_vec-4.result.items c.as_slice.result.now c.reserve-2.new.self.items (search rules) (search rules) c.reserve-2.ensures.items in
    let whole = stepped g c.args.plan.now c.step_objects.new.objects.items c.step_edges.new.edges.items c.len-objects.result c.len-edges.result objects edges (search rules) (search rules) in (
      subst (λ (h : Graph). IsTyped m h) (sym whole) (typed_after m g c.args.plan.now c.self.invariant.0 can),
      subst (λ (h : Graph). HasNearNames h) (sym whole) (near_after g c.args.plan.now c.self.invariant.1),
      search rules,
      search rules,
    )
