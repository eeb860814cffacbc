-- The problems of a typed graph: references with too few or too many targets, objects with more
-- than one container, and objects that contain themselves.
use Rattle.std.specs.Prelude.{ℕ, ◌≡◌, List, [], ◌++◌, map, length, Bool, true, false, eqb, nat_lt, if◌then◌else◌, Option, Some, None}
use Rattle.std.specs.List.{filter, filter_map, flat_map, position}
use Rattle.std.specs.Option.{option_map_or}
use Rattle.hs_expr.specs.Verdict.{fault_if}
use Rattle.hs_types.specs.declared.graph.Edge.{Edge}
use Rattle.hs_types.specs.declared.graph.Graph.{Graph}
use Rattle.hs_types.specs.declared.graph.Object.{Object}
use Rattle.hs_types.specs.declared.meta.FeatureKind.{FeatureKind}
use Rattle.hs_types.specs.declared.meta.FeatureKind.TheVariants.{Attribute, Reference}
use Rattle.hs_types.specs.declared.meta.Metamodel.{Metamodel}
use Rattle.hs_expr.specs.Lists.{has}
use Rattle.hs_types.specs.Metamodel.{feature_at, features_of}
use Rattle.hs_types.specs.Reachability.{reaches}
use Rattle.hs_graph.specs.declared.problem.Problem.{Problem}
use Rattle.hs_graph.specs.declared.problem.ProblemKind.{ProblemKind}
use Rattle.hs_graph.specs.declared.problem.ProblemKind.TheVariants as kind

abbrev pub problem : ℕ → ProblemKind → Problem
problem n kind = record { object = n; kind = kind }

-- The edges that leave object n, and those that lead to it.
abbrev pub edges_leaving : Graph → ℕ → List Edge
edges_leaving g n = filter (λ edge. eqb edge.source n) g.edges

abbrev pub edges_entering : Graph → ℕ → List Edge
edges_entering g n = filter (λ edge. eqb edge.target n) g.edges

-- How many of these edges are of reference f.
abbrev pub targets_count : List Edge → ℕ → ℕ
targets_count outgoing f = length (filter (λ edge. eqb edge.reference f) outgoing)

abbrev pub is_above : ℕ → Option ℕ → Bool
is_above count None = false
is_above count (Some most) = nat_lt most count

-- What is wrong with `count` targets of object n at a feature of this kind.
abbrev pub count_problems : ℕ → ℕ → ℕ → FeatureKind → List Problem
count_problems n f count (Attribute data_type default) = []
count_problems n f count (Reference target containment lower upper) =
    fault_if (nat_lt count lower) (problem n (kind.Lower f))
    ++ fault_if (is_above count upper) (problem n (kind.Upper f))

-- What is wrong at feature f with an object n that these edges leave.
abbrev pub feature_problems_by : Metamodel → List Edge → ℕ → ℕ → List Problem
feature_problems_by m outgoing n f =
    option_map_or (λ feature. count_problems n f (targets_count outgoing f) feature.kind)
    (feature_at m f) []

abbrev pub contains_by : FeatureKind → Bool
contains_by (Attribute data_type default) = false
contains_by (Reference target containment lower upper) = containment

-- A source of feature f contains its target.
abbrev pub is_containment : Metamodel → ℕ → Bool
is_containment m f = option_map_or (λ feature. contains_by feature.kind) (feature_at m f) false

-- How many edges contain object n.
abbrev pub containers_count : Metamodel → Graph → ℕ → ℕ
containers_count m g n =
    length (filter (λ edge. is_containment m edge.reference) (edges_entering g n))

-- The objects that object n contains.
abbrev pub contained_objects : Metamodel → Graph → ℕ → List ℕ
contained_objects m g n =
    map (λ edge. edge.target) (filter (λ edge. is_containment m edge.reference) (edges_leaving g n))

-- The index of object n among the graph's objects.
abbrev pub index_of : Graph → ℕ → Option ℕ
index_of g n = position (λ object. eqb object.number n) g.objects

-- The index of the object that an edge contains, if it contains one.
abbrev pub contained_index : Metamodel → Graph → Edge → Option ℕ
contained_index m g edge = if is_containment m edge.reference then index_of g edge.target else None

-- Of each object, by index, the indices of the objects that it contains.
abbrev pub containment_lists : Metamodel → Graph → List (List ℕ)
containment_lists m g =
    map (λ object. filter_map (contained_index m g) (edges_leaving g object.number)) g.objects

-- Object n contains itself, by one step or more.
abbrev pub is_in_itself : Metamodel → Graph → ℕ → Bool
is_in_itself m g n = option_map_or (λ i. reaches (containment_lists m g) i i) (index_of g n) false

-- What is wrong with an object that these edges leave, and that has this number of containers:
-- reference by reference in the order of its class, then its containers, then that it contains
-- itself.
abbrev pub problems_by : Metamodel → List Edge → ℕ → Bool → Object → List Problem
problems_by m outgoing containers in_itself object =
    flat_map (feature_problems_by m outgoing object.number) (features_of m object.class)
    ++ (fault_if (nat_lt 1 containers) (problem object.number kind.Containers)
    ++ fault_if in_itself (problem object.number kind.Cycle))

abbrev pub problems_at : Metamodel → Graph → Object → List Problem
problems_at m g object =
    problems_by m (edges_leaving g object.number) (containers_count m g object.number)
    (is_in_itself m g object.number) object

-- The problems of all objects, object by object.
abbrev pub problems_of : Metamodel → Graph → List Problem
problems_of m g = flat_map (problems_at m g) g.objects

-- Object n contains object k.
abbrev pub Contains : Metamodel → Graph → ℕ → ℕ → Type 0
Contains m g n k = has (contained_objects m g n) k ≡ true

-- Object k is inside object n: it is contained by n, or by an object inside n.
pub data IsInside (m : Metamodel) (g : Graph) : ℕ → ℕ → Type 0 where
  direct : (n k : ℕ) → Contains m g n k → IsInside m g n k
  by_way_of : (n k l : ℕ) → Contains m g n k → IsInside m g k l → IsInside m g n l
