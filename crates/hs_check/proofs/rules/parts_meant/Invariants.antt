use Rattle.std.proofs.Common.{◌≡◌, ◌++◌, drop, map}
use Rattle.hs_check.specs.Rules.{part_meant}
use Rattle.hs_check.proofs.rules.parts_meant.Given as goal

abbrev pub invariant-loop-home : goal.invariant-loop-home
invariant-loop-home l = l.parts ++ map (part_meant l.meta l.contents) (drop l.home-index l.homes) ≡ map (part_meant l.meta l.contents) l.homes
