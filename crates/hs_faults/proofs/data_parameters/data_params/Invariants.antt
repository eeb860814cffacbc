use Rattle.std.proofs.Common.{◌≡◌, ◌++◌, drop}
use Rattle.hs_expr.specs.Verdict.{each_from}
use Rattle.hs_faults.specs.Numbers.{data_param, data_params}
use Rattle.hs_faults.proofs.data_parameters.data_params.Given as goal

abbrev pub invariant-loop-i : goal.invariant-loop-i
invariant-loop-i l = l.all ++ each_from data_param l.i (drop l.i l.params) ≡ data_params l.params
