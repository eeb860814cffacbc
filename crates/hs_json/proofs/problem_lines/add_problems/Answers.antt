use Rattle.hs_json.specs.Problems.{problem_data}
use Rattle.hs_json_model.specs.Written.{line_of}
use Rattle.hs_json.proofs.Lines.{one_line_more}
use Rattle.hs_json.proofs.problem_lines.add_problems.Goals as goal

pub loop-problem-preserved : goal.loop-problem-preserved
loop-problem-preserved c = λ names knows.
    one_line_more (λ problem. line_of (problem_data c.args.meta.now names problem)) _ _ _ c.args.problems.now c.loop-problem.problem-index _ c.loop-problem-test.true
    (c.in_ok-add_problem.ensures names knows) (c.loop-problem.invariant names knows)
