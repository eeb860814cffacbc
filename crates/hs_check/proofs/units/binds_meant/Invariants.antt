use Rattle.std.proofs.Common.{◌≡◌, ◌++◌, drop, map}
use Rattle.hs_check.specs.Units.{bind_meant}
use Rattle.hs_check.proofs.units.binds_meant.Given as goal

abbrev pub invariant-loop-bind : goal.invariant-loop-bind
invariant-loop-bind l = l.meant ++ map bind_meant (drop l.bind-index l.binds) ≡ map bind_meant l.binds
