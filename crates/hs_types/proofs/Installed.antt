-- The graph after a plan is carried out.
use Rattle.std.proofs.Common.{ℕ, zero, suc, true, ◌+◌, ◌<◌, ◌^◌, ◌≡◌, List, [], ◌∷◌, ◌++◌, not, map, length, Option, Some, None, IsSomeAnd, slice_get, refl, sym, ap, ◌∙◌, subst, arith}
use Rattle.std.proofs.lemmas.List.Elements.{All-weaker}
use Rattle.std.specs.List.{All, filter}
use Rattle.std.specs.Option.{is_some}
use Rattle.hs_expr.proofs.Lists.{EachPair-filter, Rise-found}
use Rattle.hs_expr.specs.Lists.{Differ, has}
use Rattle.hs_types.proofs.ClassFeatures.{features_differ}
use Rattle.hs_types.proofs.TypedStep.{IsTyped-step}
use Rattle.hs_types.specs.Host.{CanInstall, HasNearNames}
use Rattle.hs_types.specs.Metamodel.{Conforms, IsMeta, features_of, target_of, type_of}
use Rattle.hs_types.specs.Plan.{CanBeMade, EndIs, MadeObject, Plan}
use Rattle.hs_types.specs.Step.{new_edges, new_objects, object_after, step}
use Rattle.hs_types.specs.TypedGraph.{AreSlotsOf, IsTyped, object_numbered}
use Rattle.hs_types.specs.Writing.{AreKeyed, IsWithin}
use Rattle.hs_types.specs.declared.graph.Edge.{Edge}
use Rattle.hs_types.specs.declared.graph.Graph.{Graph}
use Rattle.hs_types.specs.declared.graph.Object.{Object}
use Rattle.hs_types.specs.declared.meta.Metamodel.{Metamodel}
use Rattle.hs_types.specs.declared.plan.End.TheVariants.{Old, New}
use Rattle.hs_types.specs.declared.plan.End.{End}
use Rattle.hs_types.specs.declared.plan.MadeEdge.{MadeEdge}
use Rattle.hs_types.specs.declared.plan.Write.{Write}

pub typed_after : (m : Metamodel) (g : Graph) (plan : Plan) → IsTyped m g → CanInstall m g plan → IsTyped m (step g plan)
typed_after m g plan typed can = IsTyped-step m g plan typed (record { none_dangle = can.fits.none_dangle; values_fit = can.fits.values_fit; objects_fit = can.fits.objects_fit; edges_fit = can.fits.edges_fit })

pub near_after : (g : Graph) (plan : Plan) → HasNearNames g → HasNearNames (step g plan)
near_after g plan near = omega (arith, near)

inside : {A : Type 0} (xs : List A) (i : ℕ) (Q : A → Type 0) → IsSomeAnd (slice_get xs i) Q → i < length xs
inside [] i Q s = absurd s
inside (x ∷ xs) zero Q s = omega arith
inside (x ∷ xs) (suc i) Q s = omega (arith, inside xs i Q s)

-- The ends of made edges have numbers.
end_within : (m : Metamodel) (g : Graph) (plan : Plan) (P : ℕ → Type 0) → IsTyped m g → CanInstall m g plan → (end : End) → EndIs g plan P end → IsWithin g.next_object end
end_within m g plan P typed can (Old n) h = go (object_numbered g n) refl h.0
  where
    go : (o : Option Object) → object_numbered g n ≡ o → IsSomeAnd o (λ x. P x.class) → n < 2 ^ 32
    go None e s = absurd s
    go (Some x) e s = omega (arith, Rise-found (λ (o : Object). o.number) 0 g.objects g.next_object n x typed.objects_rise e, can.objects_drawn)
end_within m g plan P typed can (New i) h = omega (arith, inside plan.make_objects i (λ x. P x.class) h, can.objects_drawn)

pub ends_within : (m : Metamodel) (g : Graph) (plan : Plan) → IsTyped m g → CanInstall m g plan → All (λ edge. IsWithin g.next_object edge.source × IsWithin g.next_object edge.target) plan.make_edges
ends_within m g plan typed can = All-weaker (CanBeMade m g plan) (λ edge. IsWithin g.next_object edge.source × IsWithin g.next_object edge.target) (λ edge h. (end_within m g plan (λ c. has (features_of m c) edge.reference ≡ true) typed can edge.source h.0, go edge (target_of m edge.reference) h.1)) plan.make_edges can.fits.edges_fit
  where
    go : (edge : MadeEdge) (o : Option ℕ) → IsSomeAnd o (λ class. EndIs g plan (λ c. Conforms m c class) edge.target) → IsWithin g.next_object edge.target
    go edge None h = absurd h
    go edge (Some class) h = end_within m g plan (λ c. Conforms m c class) typed can edge.target h

pub keyed_objects : (m : Metamodel) (g : Graph) → IsMeta m → IsTyped m g → AreKeyed g.objects
keyed_objects m g is typed = record {
  rise = (g.next_object, typed.objects_rise);
  slots_differ = All-weaker (λ o. AreSlotsOf m o.class o.slots) (λ o. Differ (map (λ s. s.attribute) o.slots)) (λ o h. subst Differ (sym h.1) (EachPair-filter (λ a b. a ≡ b → ⊥) (λ f. is_some (type_of m f)) (features_of m o.class) (features_differ m is o.class))) g.objects typed.objects_fit;
}

-- What the two halves of a step make is the step.
pub stepped_objects : (g : Graph) (plan : Plan) (ws : List Write) (gone : List ℕ) (made : List MadeObject) (os : List Object) → ws ≡ plan.writes → gone ≡ plan.drop_objects → made ≡ plan.make_objects → os ≡ g.objects → map (object_after ws) (filter (λ o. not (has gone o.number)) os) ++ new_objects g.next_object g.next_name made ≡ (step g plan).objects
stepped_objects g plan ws gone made os w d k o = ap (λ (x : List Write). map (object_after x) (filter (λ o. not (has gone o.number)) os) ++ new_objects g.next_object g.next_name made) w
    ∙ (ap (λ (x : List ℕ). map (object_after plan.writes) (filter (λ o. not (has x o.number)) os) ++ new_objects g.next_object g.next_name made) d
    ∙ (ap (λ (x : List MadeObject). map (object_after plan.writes) (filter (λ o. not (has plan.drop_objects o.number)) os) ++ new_objects g.next_object g.next_name x) k
    ∙ ap (λ (x : List Object). map (object_after plan.writes) (filter (λ o. not (has plan.drop_objects o.number)) x) ++ new_objects g.next_object g.next_name plan.make_objects) o))

pub stepped_edges : (g : Graph) (plan : Plan) (gone : List ℕ) (made : List MadeEdge) (es : List Edge) → gone ≡ plan.drop_edges → made ≡ plan.make_edges → es ≡ g.edges → filter (λ e. not (has gone e.number)) es ++ new_edges g.next_object g.next_edge made ≡ (step g plan).edges
stepped_edges g plan gone made es d k o = ap (λ (x : List ℕ). filter (λ e. not (has x e.number)) es ++ new_edges g.next_object g.next_edge made) d
    ∙ (ap (λ (x : List MadeEdge). filter (λ e. not (has plan.drop_edges e.number)) es ++ new_edges g.next_object g.next_edge x) k
    ∙ ap (λ (x : List Edge). filter (λ e. not (has plan.drop_edges e.number)) x ++ new_edges g.next_object g.next_edge plan.make_edges) o)

pub stepped : (g : Graph) (plan : Plan) (os : List Object) (es : List Edge) (a b : ℕ) → os ≡ (step g plan).objects → es ≡ (step g plan).edges → a ≡ length plan.make_objects → b ≡ length plan.make_edges → ◌≡◌ {A = Graph} (record { objects = os; edges = es; next_object = g.next_object + a; next_edge = g.next_edge + b; next_name = g.next_name + a }) (step g plan)
stepped g plan os es a b p q r s = λ i. record { objects = p i; edges = q i; next_object = g.next_object + r i; next_edge = g.next_edge + s i; next_name = g.next_name + r i }
