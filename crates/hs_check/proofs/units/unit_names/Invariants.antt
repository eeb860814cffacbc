use Rattle.std.proofs.Common.{ℕ, List, ◌≡◌, ◌++◌, drop, map}
use Rattle.hs_text.specs.declared.syntax.Definition.{Definition}
use Rattle.hs_faults.specs.UnitFaults.{units_of}
use Rattle.hs_check.proofs.units.unit_names.Given as goal

abbrev pub invariant-loop-definition : goal.invariant-loop-definition
invariant-loop-definition l = l.names ++ names_of (drop l.definition-index l.definitions) ≡ names_of l.definitions
  where
    names_of : List Definition → List (List ℕ)
    names_of definitions = map (λ unit. unit.name.text) (units_of definitions)
