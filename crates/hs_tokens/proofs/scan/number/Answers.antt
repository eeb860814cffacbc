use Rattle.std.proofs.Common.{◌≡◌, ◌+◌, ◌*◌, ◌-◌, ◌∷◌, drop, sym, ◌∙◌, ap, arith}
use Rattle.std.proofs.lemmas.List.{drop_more}
use Rattle.hs_tokens.specs.Tokens.{decimal_from, decimal}
use Rattle.hs_tokens.proofs.Letters.{decimal_from-grows}
use Rattle.hs_tokens.proofs.scan.number.Goals as goal

pub returns-then-n-digit : goal.returns-then-n-digit
returns-then-n-digit c =
    let item = c.c-item.result in
    let more = drop (c.loop-c.c-index + 1) c.args.digits.now in
    let rest : drop c.loop-c.c-index c.args.digits.now ≡ item ∷ more = drop_more c.args.digits.now c.loop-c.c-index item c.loop-c-test.true ∙ ap (λ x. x ∷ more) (sym c.c-item.is) in
    let so_far : decimal_from (10 * c.loop-c.n + (item - 48)) more ≡ decimal c.args.digits.now = sym (ap (decimal_from c.loop-c.n) rest) ∙ c.loop-c.invariant.so_far in
    omega (arith, decimal_from-grows (10 * c.loop-c.n + (item - 48)) more)
