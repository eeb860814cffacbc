use Rattle.std.proofs.Common.{◌≡◌, ◌<◌, ◌^◌, drop}
use Rattle.hs_tokens.specs.Tokens.{decimal_from, decimal}
use Rattle.hs_tokens.proofs.scan.number.Given as goal

abbrev pub invariant-loop-c : goal.invariant-loop-c
invariant-loop-c l = record {
  small : l.n < 2 ^ 63;
  so_far : decimal_from l.n (drop l.c-index l.digits) ≡ decimal l.digits;
}
