use Rattle.std.proofs.Common.{◌≡◌, ◌++◌, [], ◌∷◌, drop, take, if◌then◌else◌}
use Rattle.hs_expr.specs.Verdict.{each_from}
use Rattle.hs_faults.specs.Declarations.{is_again}
use Rattle.hs_faults.specs.Named.{Knows}
use Rattle.hs_faults.specs.UnitFaults.{meant_params}
use Rattle.hs_faults.proofs.signature.add_params.Given as goal

abbrev pub invariant-loop-param : goal.invariant-loop-param
invariant-loop-param l = record {
  known : Knows (λ other. other.name) l.known (take l.param-index l.params);
  meant : l.meant ++ each_from (λ i param. if is_again (λ other. other.name) (take i l.params) param.name then [] else param ∷ []) l.param-index (drop l.param-index l.params) ≡ meant_params l.params;
}
