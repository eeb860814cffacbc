use Rattle.std.proofs.Common.{◌≡◌, ◌++◌, drop, string_bytes, encode_utf8_all}
use Rattle.std.specs.List.{flat_map}
use Rattle.hs_text.specs.Canonical.{escape}
use Rattle.hs_text.proofs.spelling.write_characters.Given as goal

abbrev pub invariant-loop-c : goal.invariant-loop-c
invariant-loop-c l = string_bytes l.out ++ flat_map escape (encode_utf8_all (drop l.c-index l.chars)) ≡ string_bytes l.initial.out ++ flat_map escape (encode_utf8_all l.chars)
