-- Characters of names, by their code points.
use Rattle.std.specs.Prelude.{ℕ, Bool, nat_le, ◌==◌, ◌||◌, ◌&&◌}

-- An ASCII letter or `_`.
abbrev pub is_letter : ℕ → Bool
is_letter c = (nat_le 65 c && nat_le c 90) || (nat_le 97 c && nat_le c 122) || c == 95

abbrev pub is_digit : ℕ → Bool
is_digit c = nat_le 48 c && nat_le c 57

abbrev pub is_word_part : ℕ → Bool
is_word_part c = is_letter c || is_digit c
