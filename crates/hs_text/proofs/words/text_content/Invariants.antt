use Rattle.std.proofs.Common.{◌≡◌, ◌++◌, drop, false, encode_utf8_all, string_bytes}
use Rattle.hs_text.specs.Words.{content}
use Rattle.hs_text.proofs.words.text_content.Given as goal

abbrev pub invariant-loop-c : goal.invariant-loop-c
invariant-loop-c l = string_bytes l.text ++ encode_utf8_all (content l.escaped (drop l.c-index l.chars)) ≡ encode_utf8_all (content false l.chars)
