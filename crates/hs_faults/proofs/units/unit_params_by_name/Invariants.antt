use Rattle.std.proofs.Common.{◌≡◌, drop, take}
use Rattle.hs_expr.specs.Verdict.{each_from, verdict}
use Rattle.hs_faults.specs.UnitFaults.{faults_of_unit_params, unit_param_faults}
use Rattle.hs_faults.specs.Named.{Knows}
use Rattle.hs_faults.proofs.units.unit_params_by_name.Given as goal

abbrev pub invariant-loop-param : goal.invariant-loop-param
invariant-loop-param l = record {
  known : Knows (λ other. other.name) l.known (take l.param-index l.params);
  rest : verdict (each_from (λ i param. unit_param_faults l.meta (take i l.params) param) l.param-index (drop l.param-index l.params)) ≡ verdict (faults_of_unit_params l.meta l.params);
}
