use Rattle.std.proofs.Common.{◌≡◌, ◌++◌, drop}
use Rattle.std.specs.List.{filter}
use Rattle.hs_faults.specs.UnitFaults.{takes_value}
use Rattle.hs_faults.proofs.signature.needed.Given as goal

abbrev pub invariant-loop-meant : goal.invariant-loop-meant
invariant-loop-meant l = l.needed ++ filter takes_value (drop l.meant-index l.meant) ≡ filter takes_value l.meant
