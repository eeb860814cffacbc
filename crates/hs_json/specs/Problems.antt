-- The problems of a graph as they are printed: a line of compact JSON for each, and a last one that
-- counts them.
use Rattle.std.specs.Prelude.{ℕ, List, [], ◌∷◌, ◌++◌, codes, length}
use Rattle.std.specs.List.{flat_map}
use Rattle.std.specs.Option.{option_map, unwrap_or}
use Rattle.serde_json.specs.Data.{Data, number, unsigned, string}
use Rattle.hs_types.specs.declared.graph.Graph.{Graph}
use Rattle.hs_types.specs.declared.meta.Metamodel.{Metamodel}
use Rattle.hs_types.specs.Metamodel.{feature_at}
use Rattle.hs_graph.specs.declared.problem.Problem.{Problem}
use Rattle.hs_graph.specs.declared.problem.ProblemKind.{ProblemKind}
use Rattle.hs_graph.specs.declared.problem.ProblemKind.TheVariants.{Lower, Upper, Containers, Cycle}
use Rattle.hs_graph.specs.Problems.{problems_of}
use Rattle.hs_json_model.specs.Written.{Member, class_name, line_of, name_in, object_data}

-- The name of a feature, after that of the class that owns it.
abbrev pub owned_name : Metamodel → ℕ → List ℕ
owned_name m f =
    unwrap_or (option_map (λ feature. class_name m feature.owner ++ (codes "." ++ feature.name))
    (feature_at m f)) []

-- What is reported of the object of this name: too few or too many targets of a reference.
abbrev pub bound_members : Metamodel → List ℕ → List ℕ → ℕ → List Member
bound_members m object word f =
    (codes "object", string object) ∷ (codes "problem", string word)
    ∷ (codes "reference", string (owned_name m f)) ∷ []

-- What is reported of how the object of this name is contained.
abbrev pub containment_members : List ℕ → List ℕ → List Member
containment_members object word =
    (codes "object", string object) ∷ (codes "problem", string word) ∷ []

abbrev pub problem_members : Metamodel → List ℕ → ProblemKind → List Member
problem_members m object (Lower f) = bound_members m object (codes "lower") f
problem_members m object (Upper f) = bound_members m object (codes "upper") f
problem_members m object Containers = containment_members object (codes "containers")
problem_members m object Cycle = containment_members object (codes "cycle")

-- A problem, with the names of the objects by their numbers.
abbrev pub problem_data : Metamodel → (ℕ → List ℕ) → Problem → Data
problem_data m names problem = object_data (problem_members m (names problem.object) problem.kind)

abbrev pub count_members : ℕ → List Member
count_members n = (codes "problems", number (unsigned n)) ∷ []

abbrev pub count_data : ℕ → Data
count_data n = object_data (count_members n)

abbrev pub problem_lines : Metamodel → (ℕ → List ℕ) → List Problem → List ℕ
problem_lines m names problems =
    flat_map (λ problem. line_of (problem_data m names problem)) problems

-- The problems of the graph, and then how many there are.
abbrev pub problems_text : Metamodel → Graph → List ℕ
problems_text m g =
    problem_lines m (name_in g) (problems_of m g) ++ line_of (count_data (length (problems_of m g)))
