use Rattle.std.proofs.Common.{◌≡◌, ◌++◌, drop, map, false}
use Rattle.hs_types.proofs.reachability.no_marks.Given as goal

abbrev pub invariant-loop : goal.invariant-loop
invariant-loop l = l.marks ++ map (λ numbers. false) (drop l.index l.supers) ≡ map (λ numbers. false) l.supers
