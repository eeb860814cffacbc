use Rattle.std.proofs.Common.{◌≡◌, ◌++◌, drop, string_bytes, codes}
use Rattle.std.specs.List.{flat_map}
use Rattle.hs_text.specs.Canonical.{definition_text}
use Rattle.hs_text.proofs.printing.write_more_definitions.Given as goal

abbrev pub invariant-loop-definition : goal.invariant-loop-definition
invariant-loop-definition l = string_bytes l.out ++ flat_map (λ next. codes "\n" ++ definition_text next) (drop l.definition-index l.definitions) ≡ string_bytes l.initial.out ++ flat_map (λ next. codes "\n" ++ definition_text next) l.definitions
