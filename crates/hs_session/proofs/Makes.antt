-- The step of a plan that only makes.
use Rattle.std.proofs.Common.{◌+◌, ◌≤◌, ◌≡◌, List, [], ◌∷◌, ◌++◌, true, map, length, drop, refl, sym, ap, ◌∙◌, subst, arith}
use Rattle.std.specs.List.{filter}
use Rattle.std.proofs.lemmas.List.{length-append}
use Rattle.hs_types.specs.declared.graph.Graph.{Graph}
use Rattle.hs_types.specs.declared.graph.Object.{Object}
use Rattle.hs_types.specs.Journal.{new_names}
use Rattle.hs_types.specs.Plan.{Plan}
use Rattle.hs_types.specs.Step.{new_edges, new_objects, step}
use Rattle.hs_types.proofs.Writes.{rewritten_none}
use Rattle.hs_apply.specs.Additions.{OnlyMakes}

all_kept : {A : Type 0} (xs : List A) → filter (λ x. true) xs ≡ xs
all_kept [] = refl
all_kept (x ∷ xs) = ap (λ rest. x ∷ rest) (all_kept xs)

-- The step of a plan that only makes.
step_makes : (g : Graph) (plan : Plan) → OnlyMakes plan → ◌≡◌ {A = Graph} (step g plan) record {
  objects = g.objects ++ new_objects g.next_object g.next_name plan.make_objects;
  edges = g.edges ++ new_edges g.next_object g.next_edge plan.make_edges;
  next_object = g.next_object + length plan.make_objects;
  next_edge = g.next_edge + length plan.make_edges;
  next_name = g.next_name + length plan.make_objects;
}
step_makes g plan only = rw (only.objects_stay, only.edges_stay, only.slots_stay) (rw (all_kept g.objects, all_kept g.edges, rewritten_none g.objects) refl)

-- Its new objects stand behind the others.
behind : {A : Type 0} (xs ys : List A) → drop (length xs) (xs ++ ys) ≡ ys
behind [] ys = refl
behind (x ∷ xs) ys = behind xs ys

pub names_made : (g : Graph) (plan : Plan) → OnlyMakes plan → map (λ object. object.name) (drop (length g.objects) (step g plan).objects) ≡ new_names g plan
names_made g plan only = ap (λ (h : Graph). map (λ object. object.name) (drop (length g.objects) h.objects)) (step_makes g plan only) ∙ ap (map (λ (object : Object). object.name)) (behind g.objects (new_objects g.next_object g.next_name plan.make_objects))

pub within_made : (g : Graph) (plan : Plan) → OnlyMakes plan → length g.objects ≤ length (step g plan).objects
within_made g plan only = subst (λ (h : Graph). length g.objects ≤ length h.objects) (sym (step_makes g plan only)) (rw (length-append g.objects (new_objects g.next_object g.next_name plan.make_objects)) (omega arith))
