use Rattle.std.proofs.Common.{◌≡◌, ◌≤◌, ◌++◌, length}
use Rattle.hs_text.specs.Machine.{right_side}
use Rattle.hs_text.proofs.expand.expand.Given as goal

abbrev pub invariant-loop-symbols : goal.invariant-loop-symbols
invariant-loop-symbols l = record {
  few : length l.symbols ≤ 16;
  done : l.symbols ++ l.stack ≡ right_side l.fn.production ++ l.initial.stack;
}

abbrev pub decreases-loop-symbols : goal.decreases-loop-symbols
decreases-loop-symbols l = length l.symbols
