use Rattle.std.proofs.Common.{◌≡◌, ◌++◌, drop}
use Rattle.std.specs.List.{flat_map}
use Rattle.hs_faults.specs.NamedParams.{unit_params}
use Rattle.hs_faults.proofs.signature.add_units.Given as goal

abbrev pub invariant-loop-definition : goal.invariant-loop-definition
invariant-loop-definition l = l.signatures ++ flat_map unit_params (drop l.definition-index l.definitions) ≡ l.fn.signatures ++ flat_map unit_params l.definitions
