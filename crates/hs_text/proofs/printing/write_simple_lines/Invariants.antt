use Rattle.std.proofs.Common.{◌≡◌, ◌++◌, drop, string_bytes}
use Rattle.std.specs.List.{flat_map}
use Rattle.hs_text.specs.Canonical.{simple_line}
use Rattle.hs_text.proofs.printing.write_simple_lines.Given as goal

abbrev pub invariant-loop-simple : goal.invariant-loop-simple
invariant-loop-simple l = string_bytes l.out ++ flat_map simple_line (drop l.simple-index l.simples) ≡ string_bytes l.initial.out ++ flat_map simple_line l.simples
