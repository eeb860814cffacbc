use Rattle.std.proofs.Common.{◌≡◌, ◌++◌, drop, map}
use Rattle.std.specs.List.{list_any}
use Rattle.hs_types.specs.Reachability as spec
use Rattle.hs_types.proofs.reachability.one_step_more.Given as goal

abbrev pub invariant-loop-numbers : goal.invariant-loop-numbers
invariant-loop-numbers l = l.more ++ map (list_any (spec.is_or_reaches l.d l.marks)) (drop l.numbers-index l.supers) ≡ map (list_any (spec.is_or_reaches l.d l.marks)) l.supers
