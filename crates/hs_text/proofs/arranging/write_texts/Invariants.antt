use Rattle.std.proofs.Common.{◌≡◌, ◌++◌, length, string_bytes}
use Rattle.std.specs.List.{concat}
use Rattle.hs_text.proofs.arranging.write_texts.Given as goal

abbrev pub invariant-texts : goal.invariant-texts
invariant-texts l = string_bytes l.out ++ concat l.texts ≡ string_bytes l.initial.out ++ concat l.initial.texts

abbrev pub decreases-texts : goal.decreases-texts
decreases-texts l = length l.texts
