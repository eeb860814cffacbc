use Rattle.std.proofs.Common.{◌≡◌, ◌++◌, drop, map}
use Rattle.hs_meta.proofs.inherited.add_reference_names.Given as goal

abbrev pub invariant-loop-reference : goal.invariant-loop-reference
invariant-loop-reference l = l.names ++ map (λ reference. reference.name) (drop l.reference-index l.references) ≡ l.fn.names ++ map (λ reference. reference.name) l.references
