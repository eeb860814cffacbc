use Rattle.std.proofs.Common.{◌≡◌, ◌++◌, drop, string_bytes, map, codes}
use Rattle.std.specs.List.{flat_map}
use Rattle.hs_text.specs.Canonical.{param_text}
use Rattle.hs_text.proofs.unit_printing.write_more_params.Given as goal

abbrev pub invariant-loop-param : goal.invariant-loop-param
invariant-loop-param l = string_bytes l.out ++ flat_map (λ next. codes ", " ++ next) (map param_text (drop l.param-index l.params)) ≡ string_bytes l.initial.out ++ flat_map (λ next. codes ", " ++ next) (map param_text l.params)
