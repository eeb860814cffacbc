use Rattle.std.proofs.Common.{◌≡◌, ◌++◌, drop}
use Rattle.std.specs.List.{flat_map}
use Rattle.hs_faults.specs.NamedParams.{rule_params}
use Rattle.hs_faults.proofs.signature.add_rules.Given as goal

abbrev pub invariant-loop-definition : goal.invariant-loop-definition
invariant-loop-definition l = l.signatures ++ flat_map rule_params (drop l.definition-index l.definitions) ≡ l.fn.signatures ++ flat_map rule_params l.definitions
