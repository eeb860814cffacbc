use Rattle.std.proofs.Common.{◌≡◌, take, refl, sym, ap, subst, ◌∙◌, arith, Some, ℤ, ◌+◌, pos, w64, to_z, of_z}
use Rattle.std.proofs.lemmas.Int.{to_z_pos}
use Rattle.hs_tokens.specs.Tokens.{decimal}
use Rattle.hs_tokens.specs.declared.token.Kind.TheVariants as kind
use Rattle.std.proofs.lemmas.List.{length-take-le}
use Rattle.hs_tokens.specs.declared.token.Token.{Token}
use Rattle.hs_tokens.specs.Scanning.{Advances}
use Rattle.hs_tokens.proofs.Elements.{headed, skipped-read, number-within, number-read, other-read, large-read, strange-read}
use Rattle.hs_tokens.proofs.scan.read.Goals as goal

pub slice_bounds-number-end : goal.slice_bounds-number-end
slice_bounds-number-end c =
    let w = headed c.args.chars.now c.index-chars-0.result c.index-chars-0.is c.requires.some in
    sym (length-take-le c.in-Integer.len c.args.chars.now (number-within c.args.position c.args.chars.now c.index-chars-0.result c.element_in_front.result w c.element_in_front.ensures c.in-Integer.len c.in-Integer.is))

pub make_token-requires : goal.make_token-requires
make_token-requires c =
    let w = headed c.args.chars.now c.index-chars-0.result c.index-chars-0.is c.requires.some in
    omega (arith, number-within c.args.position c.args.chars.now c.index-chars-0.result c.element_in_front.result w c.element_in_front.ensures c.in-Integer.len c.in-Integer.is)

pub make_token-requires-in-Lexeme : goal.make_token-requires-in-Lexeme
make_token-requires-in-Lexeme c =
    let w = headed c.args.chars.now c.index-chars-0.result c.index-chars-0.is c.requires.some in
    omega (arith, (other-read c.args.position c.args.chars.now c.index-chars-0.result c.element_in_front.result w c.element_in_front.ensures c.in-Lexeme.kind c.in-Lexeme.len c.in-Lexeme.is).within)

pub returns-in-Skipped-clause-ok : goal.returns-in-Skipped-clause-ok
returns-in-Skipped-clause-ok c =
    let w = headed c.args.chars.now c.index-chars-0.result c.index-chars-0.is c.requires.some in
    skipped-read c.args.position c.args.chars.now c.index-chars-0.result c.element_in_front.result w c.element_in_front.ensures c.in-Skipped.len c.in-Skipped.is

pub returns-in-Some-clause-ok : goal.returns-in-Some-clause-ok
returns-in-Some-clause-ok c =
    let w = headed c.args.chars.now c.index-chars-0.result c.index-chars-0.is c.requires.some in
    let made : ℤ → Token = λ v. record { kind = kind.Int; number = v; span = record { start = c.args.position.index; end = c.args.position.index + c.in-Integer.len; line = c.args.position.line; column = c.args.position.column } } in
    let is : c.in-Some.value ≡ pos (decimal (take c.in-Integer.len c.args.chars.now)) = c.in-Some.ensures.0 in
    let n = decimal (take c.in-Integer.len c.args.chars.now) in
    let token : c.make_token.result ≡ made (to_z w64 (of_z w64 c.in-Some.value)) = c.make_token.ensures in
    let same : c.make_token.result ≡ made (to_z w64 n) = token ∙ ap (λ v. made (to_z w64 (of_z w64 v))) is in
    subst (λ (t : Token). Advances c.args.position c.args.chars.now c.in-Integer.len (Some t)) (sym (same ∙ ap made (to_z_pos w64 n c.in-Some.ensures.1)))
    (number-read c.args.position c.args.chars.now c.index-chars-0.result c.element_in_front.result w c.element_in_front.ensures c.in-Integer.len n c.in-Integer.is refl c.in-Some.ensures.1)

pub returns-in-None-clause-err : goal.returns-in-None-clause-err
returns-in-None-clause-err c =
    let w = headed c.args.chars.now c.index-chars-0.result c.index-chars-0.is c.requires.some in
    large-read c.args.position c.args.chars.now c.index-chars-0.result c.element_in_front.result w c.element_in_front.ensures c.in-Integer.len c.in-Integer.is c.in-None.ensures

pub returns-in-Lexeme-clause-ok : goal.returns-in-Lexeme-clause-ok
returns-in-Lexeme-clause-ok c =
    let w = headed c.args.chars.now c.index-chars-0.result c.index-chars-0.is c.requires.some in
    subst (λ (t : Token). Advances c.args.position c.args.chars.now c.in-Lexeme.len (Some t)) (sym c.make_token-in-Lexeme.ensures)
    (other-read c.args.position c.args.chars.now c.index-chars-0.result c.element_in_front.result w c.element_in_front.ensures c.in-Lexeme.kind c.in-Lexeme.len c.in-Lexeme.is)

pub returns-in-Unknown-clause-err : goal.returns-in-Unknown-clause-err
returns-in-Unknown-clause-err c =
    let w = headed c.args.chars.now c.index-chars-0.result c.index-chars-0.is c.requires.some in
    strange-read c.args.position c.args.chars.now c.index-chars-0.result c.element_in_front.result w c.element_in_front.ensures c.in-Unknown.is
