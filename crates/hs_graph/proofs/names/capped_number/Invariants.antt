use Rattle.std.proofs.Common.{◌≡◌, ◌≤◌, min, drop}
use Rattle.hs_graph.specs.Names as spec
use Rattle.hs_graph.proofs.names.capped_number.Given as goal

abbrev pub invariant-loop-digit : goal.invariant-loop-digit
invariant-loop-digit l = record {
  low : l.number ≤ 3000000001;
  left : min 3000000001 (spec.number_after l.number (drop l.digit-index l.digits)) ≡ min 3000000001 (spec.number_after 0 l.digits);
}
