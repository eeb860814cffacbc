-- Kinds of characters exclude each other.
use Rattle.std.proofs.Common.{ℕ, ◌≡◌, ◌==◌, true, false, arith}
use Rattle.std.proofs.lemmas.Bool.Decides.{nat_tests}
use Rattle.hs_expr.specs.Characters.{is_letter, is_digit}

-- A letter is no digit and no quote.
pub letter-only : (c : ℕ) → is_letter c ≡ true → (is_digit c ≡ false) × ((c == 34) ≡ false)
letter-only c h = (grind (arith, nat_tests), grind (arith, nat_tests))
