use Rattle.std.proofs.Common.{◌≡◌}
use Rattle.hs_types.specs.Reachability as spec
use Rattle.hs_types.proofs.reachability.below.Given as goal

abbrev pub invariant-loop-step : goal.invariant-loop-step
invariant-loop-step l = l.marks ≡ spec.reaching_within l.supers l.d l._step
