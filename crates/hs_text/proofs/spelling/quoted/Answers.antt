use Rattle.std.proofs.Common.{◌≡◌, ◌++◌, ◌∙◌, ap, codes, encode_utf8_all}
use Rattle.std.specs.List.{flat_map}
use Rattle.std.specs.Str.{chars}
use Rattle.std.proofs.lemmas.Str.{encodes-chars}
use Rattle.hs_text.specs.Canonical.{escape}
use Rattle.hs_text.proofs.spelling.quoted.Goals as goal

pub returns : goal.returns
returns c =
    let same : encode_utf8_all (chars c.as_str.result.now) ≡ c.as_str.result.now = encodes-chars c.as_str.result.now c.as_str.utf8 in
    let meant : encode_utf8_all c.as_slice.result.now ≡ c.args.value.now = ap encode_utf8_all (c.as_slice.ensures.value ∙ c.in_ok-chars.ensures) ∙ same ∙ c.as_str.ensures in
    c.from_string.ensures ∙ c.in_ok-push_str.ensures.bytes
    ∙ ap (λ x. x ++ codes "\"") (c.in_ok-write_characters.ensures
    ∙ ap (λ x. x ++ flat_map escape (encode_utf8_all c.as_slice.result.now)) c.in_ok-out.ensures.ok
    ∙ ap (λ x. codes "\"" ++ flat_map escape x) meant)
