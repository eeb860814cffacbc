use Rattle.std.proofs.Common.{◌≡◌, ◌++◌, drop, map}
use Rattle.hs_check.specs.Units.{call_meant}
use Rattle.hs_check.proofs.units.calls_meant.Given as goal

abbrev pub invariant-loop-call : goal.invariant-loop-call
invariant-loop-call l = l.meant ++ map (call_meant l.known) (drop l.call-index l.calls) ≡ map (call_meant l.known) l.calls
