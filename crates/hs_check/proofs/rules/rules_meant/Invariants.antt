use Rattle.std.proofs.Common.{◌≡◌, map, take}
use Rattle.hs_check.specs.Rules.{rule_from}
use Rattle.hs_check.proofs.rules.rules_meant.Given as goal

abbrev pub invariant-loop-contents : goal.invariant-loop-contents
invariant-loop-contents l = l.rules ≡ map (rule_from l.meta) (take l.contents-index l.all)
