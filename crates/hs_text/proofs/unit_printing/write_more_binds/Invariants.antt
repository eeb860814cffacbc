use Rattle.std.proofs.Common.{◌≡◌, ◌++◌, drop, string_bytes, map, codes}
use Rattle.std.specs.List.{flat_map}
use Rattle.hs_text.specs.Canonical.{bind_text}
use Rattle.hs_text.proofs.unit_printing.write_more_binds.Given as goal

abbrev pub invariant-loop-bind : goal.invariant-loop-bind
invariant-loop-bind l = string_bytes l.out ++ flat_map (λ next. codes ", " ++ next) (map bind_text (drop l.bind-index l.binds)) ≡ string_bytes l.initial.out ++ flat_map (λ next. codes ", " ++ next) (map bind_text l.binds)
