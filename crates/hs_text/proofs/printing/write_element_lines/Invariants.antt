use Rattle.std.proofs.Common.{◌≡◌, ◌++◌, drop, string_bytes}
use Rattle.std.specs.List.{flat_map}
use Rattle.hs_text.specs.Canonical.{element_line}
use Rattle.hs_text.proofs.printing.write_element_lines.Given as goal

abbrev pub invariant-loop-element : goal.invariant-loop-element
invariant-loop-element l = string_bytes l.out ++ flat_map element_line (drop l.element-index l.elements) ≡ string_bytes l.initial.out ++ flat_map element_line l.elements
