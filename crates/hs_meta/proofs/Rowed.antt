-- Numbers in a row.
use Rattle.std.proofs.Common.{ℕ, ◌+◌, ◌≡◌, ◌++◌, [], ◌∷◌, add-one}
use Rattle.std.specs.List.{range_with_len}
use Rattle.hs_expr.proofs.Items.{range-more}

-- One more number is after the others.
pub one_number_more : (first n : ℕ) → range_with_len first (n + 1) ≡ range_with_len first n ++ (first + n) ∷ []
one_number_more first n = rw add-one (range-more first n)
