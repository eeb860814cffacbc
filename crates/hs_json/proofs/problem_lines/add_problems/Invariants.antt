use Rattle.std.proofs.Common.{◌≡◌, ◌++◌, ℕ, List, drop, string_bytes}
use Rattle.hs_graph.specs.Index.{indexed_name}
use Rattle.hs_json.specs.Problems.{problem_lines}
use Rattle.hs_json.proofs.problem_lines.add_problems.Given as goal

-- the text so far, with the lines of the problems that are left, is all
abbrev pub invariant-loop-problem : goal.invariant-loop-problem
invariant-loop-problem l =
    (names : ℕ → List ℕ) → ((n : ℕ) → names n ≡ indexed_name l.objects n) →
    string_bytes l.text ++ problem_lines l.meta names (drop l.problem-index l.problems) ≡ string_bytes l.fn.text ++ problem_lines l.meta names l.problems
