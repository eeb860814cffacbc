-- What is made, item by item, and the plan of a rule that only adds.
use Rattle.std.proofs.Common.{ℕ, ◌+◌, ◌≤◌, ◌≡◌, List, [], ◌∷◌, Bool, false, map, length, Option, None, refl, ap, sym, subst, inl, inr, append-nil}
use Rattle.std.specs.List.{filter, filter_map}
use Rattle.std.specs.Option.{is_some, option_map}
use Rattle.std.proofs.lemmas.Bool.{cases_Bool}
use Rattle.std.proofs.lemmas.List.{length-map}
use Rattle.std.proofs.lemmas.List.Elements.{All-filter}
use Rattle.hs_expr.specs.Evaluation.{Env}
use Rattle.hs_types.specs.declared.graph.Graph.{Graph}
use Rattle.hs_types.specs.declared.graph.Slot.{Slot}
use Rattle.hs_types.specs.declared.matching.Match.{Match}
use Rattle.hs_types.specs.declared.meta.Metamodel.{Metamodel}
use Rattle.hs_types.specs.declared.plan.End.{End}
use Rattle.hs_types.specs.declared.rule.PatternEdge.{PatternEdge}
use Rattle.hs_types.specs.declared.rule.PatternNode.{PatternNode}
use Rattle.hs_types.specs.declared.rule.Rule.{Rule}
use Rattle.hs_types.specs.Dangling.{dropped_nodes, dropped_edges}
use Rattle.hs_types.specs.Metamodel.{default_of, features_of, type_of}
use Rattle.hs_types.specs.Pattern.{is_drop, is_left, is_make, left_nodes, left_edges, made_edges, made_nodes}
use Rattle.hs_types.specs.Plan.{MadeObject, Plan, edges_for, end_of, made_slots, objects_for, plan_of}
use Rattle.hs_types.specs.PlainMatch.{kernel_of}
use Rattle.hs_types.specs.Arguments.{no_args}
use Rattle.hs_types.specs.Additions.{OnlyAdds}
use Rattle.hs_expr.proofs.Lists.{beside_none, length-filter-le}
use Rattle.hs_types.proofs.Defaults.{no_type-no_default}
use Rattle.hs_apply.specs.Additions.{AdditionsOnlyMake, OnlyMakes}

-- The slot of an attribute with its default.
abbrev pub default_slot : Metamodel → ℕ → Option Slot
default_slot m a = option_map (λ v. record { attribute = a; value = v }) (default_of m a)

-- A slot for each attribute of the class, with its default.
abbrev pub default_slots : Metamodel → ℕ → List Slot
default_slots m class = filter_map (default_slot m) (features_of m class)

abbrev pub made_object : Metamodel → PatternNode → MadeObject
made_object m node = record { class = node.class; slots = default_slots m node.class }

-- What gives nothing where the test fails needs no test.
filter_map-filter : {A B : Type 0} (f : A → Option B) (q : A → Bool) (xs : List A) → ((x : A) → q x ≡ false → f x ≡ None) → filter_map f (filter q xs) ≡ filter_map f xs
filter_map-filter f q [] none = refl
filter_map-filter f q (x ∷ xs) none = elim (cases_Bool (q x)) [
  | inl e ↦ rw (e, filter_map-filter f q xs none) refl
  | inr e ↦ rw (e, none x e, filter_map-filter f q xs none) refl
]

made_slots-default : (m : Metamodel) (env : Env) (n class : ℕ) → made_slots m env [] n class ≡ default_slots m class
made_slots-default m env n class = filter_map-filter (default_slot m) (λ f. is_some (type_of m f)) (features_of m class) (λ f e. ap (option_map (λ v. record { attribute = f; value = v })) (no_type-no_default m f e))

objects_for-default : (m : Metamodel) (env : Env) (n : ℕ) (nodes : List PatternNode) → objects_for m env [] n nodes ≡ map (made_object m) (made_nodes nodes)
objects_for-default m env n [] = refl
objects_for-default m env n (node ∷ nodes) = elim (cases_Bool (is_make node.mark)) [
  | inl e ↦ rw (e, made_slots-default m env n node.class, objects_for-default m env (n + 1) nodes) refl
  | inr e ↦ rw (e, objects_for-default m env (n + 1) nodes) refl
]

-- No more is made than is written.
pub few_objects : (m : Metamodel) (nodes : List PatternNode) → length (map (made_object m) (made_nodes nodes)) ≤ length nodes
few_objects m nodes = rw (length-map (made_nodes nodes) (made_object m)) (length-filter-le (λ (node : PatternNode). is_make node.mark) nodes)

pub few_edges : (end : ℕ → End) (edges : List PatternEdge) → length (edges_for end edges) ≤ length edges
few_edges end edges = rw (length-map (made_edges edges) _) (length-filter-le (λ (edge : PatternEdge). is_make edge.mark) edges)

-- What a rule that only adds does at a match.
abbrev pub additions : (m : Metamodel) (rule : Rule) (f : Match) → Plan
additions m rule f = record { drop_objects = []; drop_edges = []; writes = []; make_objects = map (made_object m) (made_nodes rule.shape.nodes); make_edges = edges_for (end_of rule.shape.nodes f.nodes) rule.shape.edges }

pub plan_adds : (m : Metamodel) (g : Graph) (rule : Rule) (f : Match) → OnlyAdds rule → plan_of m g rule no_args f ≡ additions m rule f
plan_adds m g rule f adds =
    let nodes : dropped_nodes rule.shape (kernel_of f) ≡ [] =
    beside_none (λ (node : PatternNode). is_drop node.mark) (left_nodes rule.shape.nodes) f.nodes (All-filter (λ (node : PatternNode). is_left node.mark) (λ (node : PatternNode). is_drop node.mark ≡ false) rule.shape.nodes adds.keeps_nodes) in
    let edges : dropped_edges rule.shape (kernel_of f) ≡ [] =
    beside_none (λ (edge : PatternEdge). is_drop edge.mark) (left_edges rule.shape.edges) f.edges (All-filter (λ (edge : PatternEdge). is_left edge.mark) (λ (edge : PatternEdge). is_drop edge.mark ≡ false) rule.shape.edges adds.keeps_edges) in
    rw (nodes, edges, adds.is_unconditional.multis, adds.is_unconditional.sets) (rw (objects_for-default m _ 0 rule.shape.nodes, append-nil (map (made_object m) (made_nodes rule.shape.nodes)), append-nil (edges_for (end_of rule.shape.nodes f.nodes) rule.shape.edges)) refl)

pub additions-only_make : AdditionsOnlyMake
additions-only_make m g rule f adds =
    subst (λ (p : Plan). OnlyMakes p × (length p.make_objects ≤ length rule.shape.nodes) × (length p.make_edges ≤ length rule.shape.edges)) (sym (plan_adds m g rule f adds))
    (record { objects_stay = refl; edges_stay = refl; slots_stay = refl }, few_objects m rule.shape.nodes, few_edges (end_of rule.shape.nodes f.nodes) rule.shape.edges)
