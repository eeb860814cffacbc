use Rattle.std.proofs.Common.{◌≡◌, ◌++◌, drop, map}
use Rattle.hs_check.specs.Rules.{multi_meant}
use Rattle.hs_check.proofs.rules.multis_at.Given as goal

abbrev pub invariant-loop-home : goal.invariant-loop-home
invariant-loop-home l = l.multis ++ map (multi_meant l.meta l.contents l.kernel) (drop l.home-index l.homes) ≡ map (multi_meant l.meta l.contents l.kernel) l.homes
