-- No line of a problem has a float.
use Rattle.std.proofs.Common.{ℕ, ◌≡◌, List, false, refl}
use Rattle.serde_json.specs.Written.{has_float}
use Rattle.hs_graph.specs.declared.problem.ProblemKind.{ProblemKind}
use Rattle.hs_graph.specs.declared.problem.ProblemKind.TheVariants.{Lower, Upper, Containers, Cycle}
use Rattle.hs_types.specs.declared.meta.Metamodel.{Metamodel}
use Rattle.hs_json_model.specs.Written.{object_data}
use Rattle.hs_json.specs.Problems.{count_data, problem_members}

pub problem_none : (m : Metamodel) (object : List ℕ) (kind : ProblemKind) → has_float (object_data (problem_members m object kind)) ≡ false
problem_none m object (Lower f) = refl
problem_none m object (Upper f) = refl
problem_none m object Containers = refl
problem_none m object Cycle = refl

pub count_none : (n : ℕ) → has_float (count_data n) ≡ false
count_none n = refl
