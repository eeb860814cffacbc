use Rattle.std.proofs.Common.{◌≡◌, drop, take}
use Rattle.hs_expr.specs.Verdict.{each_from, verdict}
use Rattle.hs_faults.specs.Declarations.{faults_of_params, param_faults}
use Rattle.hs_faults.specs.Named.{Knows}
use Rattle.hs_faults.proofs.declarations.check_params.Given as goal

abbrev pub invariant-loop-param : goal.invariant-loop-param
invariant-loop-param l = record {
  known : Knows (λ other. other.name) l.known (take l.param-index l.params);
  rest : verdict (each_from (λ i param. param_faults l.meta (take i l.params) param) l.param-index (drop l.param-index l.params)) ≡ verdict (faults_of_params l.meta l.params);
}
