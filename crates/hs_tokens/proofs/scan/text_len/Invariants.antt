use Rattle.std.proofs.Common.{◌≡◌, drop, false}
use Rattle.hs_tokens.specs.Scanning.{closing_len, farther}
use Rattle.hs_tokens.proofs.scan.text_len.Given as goal

abbrev pub invariant-loop-i : goal.invariant-loop-i
invariant-loop-i l = farther l.i (closing_len l.escaped (drop l.i l.chars)) ≡ closing_len false l.chars
