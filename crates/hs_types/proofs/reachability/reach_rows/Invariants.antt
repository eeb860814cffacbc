use Rattle.std.proofs.Common.{◌≡◌, map, length}
use Rattle.std.specs.List.{range_with_len}
use Rattle.hs_types.specs.Reachability as spec
use Rattle.hs_types.proofs.reachability.reach_rows.Given as goal

abbrev pub invariant-loop-d : goal.invariant-loop-d
invariant-loop-d l = l.rows ≡ map (λ d. spec.reaching_within l.supers d (length l.supers)) (range_with_len 0 l.d)
