use Rattle.std.proofs.Common.{◌≡◌, ◌++◌, drop}
use Rattle.hs_check.specs.Parameters.{params_meant}
use Rattle.hs_check.proofs.parameters.params_meant.Given as goal

abbrev pub invariant-loop-param : goal.invariant-loop-param
invariant-loop-param l = l.meant ++ params_meant l.meta (drop l.param-index l.params) ≡ params_meant l.meta l.params
