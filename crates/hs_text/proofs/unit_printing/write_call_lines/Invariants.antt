use Rattle.std.proofs.Common.{◌≡◌, ◌++◌, drop, string_bytes, []}
use Rattle.std.specs.List.{flat_map}
use Rattle.hs_text.specs.Canonical.{call_line}
use Rattle.hs_text.proofs.unit_printing.write_call_lines.Given as goal

abbrev pub invariant-loop-call : goal.invariant-loop-call
invariant-loop-call l = string_bytes l.out ++ flat_map (call_line []) (drop l.call-index l.calls) ≡ string_bytes l.initial.out ++ flat_map (call_line []) l.calls
