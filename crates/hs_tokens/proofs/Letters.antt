use Rattle.std.proofs.Common.{◌≤◌, ◌+◌, ◌*◌, ◌-◌, ℕ, List, [], ◌∷◌, arith}
use Rattle.hs_tokens.specs.Tokens.{decimal_from}

-- more digits denote no smaller number
pub decimal_from-grows : (n : ℕ) (cs : List ℕ) → n ≤ decimal_from n cs
decimal_from-grows n [] = omega arith
decimal_from-grows n (c ∷ cs) = omega (arith, decimal_from-grows (10 * n + (c - 48)) cs)
