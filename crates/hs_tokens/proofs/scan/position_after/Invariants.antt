use Rattle.std.proofs.Common.{◌≡◌, ◌≤◌, ◌+◌, drop}
use Rattle.hs_tokens.specs.Tokens.{after}
use Rattle.hs_tokens.proofs.scan.position_after.Given as goal

abbrev pub invariant-loop-c : goal.invariant-loop-c
invariant-loop-c l = record {
  index : l.position.index ≤ l.initial.position.index + l.c-index;
  line : l.position.line ≤ l.initial.position.line + l.c-index;
  column : l.position.column ≤ l.initial.position.column + l.c-index;
  so_far : after l.position (drop l.c-index l.chars) ≡ after l.initial.position l.chars;
}
