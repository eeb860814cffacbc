-- Names of objects, and the numbers that names like `#7` count.
use Rattle.std.specs.Prelude.{ℕ, ◌+◌, ◌*◌, ◌-◌, List, [], ◌∷◌, length, Bool, true, false, not, nat_le, nat_lt, ◌&&◌, ◌==◌, Option, Some, None, if◌then◌else◌}
use Rattle.hs_types.specs.declared.limits.TheConstants.{MAX_NAME_BYTES, MAX_NAME_NUMBER}
use Rattle.std.specs.List.{list_all}
use Rattle.std.specs.Option.{option_map_or}

abbrev pub is_decimal_digit : ℕ → Bool
is_decimal_digit b = nat_le 48 b && nat_le b 57

-- There is a digit, and the first is 0 only where it is the only one.
abbrev pub begins_decimal : List ℕ → Bool
begins_decimal [] = false
begins_decimal (b ∷ []) = true
begins_decimal (b ∷ c ∷ bs) = not (b == 48)

-- The decimal digits of a number, without leading zeros.
abbrev pub is_decimal : List ℕ → Bool
is_decimal digits = begins_decimal digits && list_all is_decimal_digit digits

-- The number that these digits write after those of n.
abbrev pub number_after : ℕ → List ℕ → ℕ
number_after n [] = n
number_after n (b ∷ bs) = number_after (n * 10 + (b - 48)) bs

-- The number k of a name that is `#` and the decimal digits of k.
abbrev pub hash_number : List ℕ → Option ℕ
hash_number [] = None
hash_number (b ∷ digits) =
    if b == 35 && is_decimal digits then Some (number_after 0 digits) else None

-- The name is `#` and a number above 3,000,000,000.
abbrev pub is_far : List ℕ → Bool
is_far name = option_map_or (nat_lt MAX_NAME_NUMBER) (hash_number name) false

-- An object is named by a text of 1 to 128 bytes that isn't `#` and a number above 3,000,000,000.
abbrev pub is_object_name : List ℕ → Bool
is_object_name name =
    nat_le 1 (length name) && nat_le (length name) MAX_NAME_BYTES && not (is_far name)

-- One above the number k of a name `#k`; 0 of another name.
abbrev pub next_after : List ℕ → ℕ
next_after name = option_map_or (λ k. k + 1) (hash_number name) 0
