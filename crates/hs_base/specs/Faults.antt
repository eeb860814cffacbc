-- Counts of faults.
use Rattle.std.specs.Prelude.{ℕ, ◌+◌, ◌-◌, ◌^◌, min, Result, Ok, Err}

-- One more, up to the greatest number of 64 bits, at which a count stays.
abbrev pub one_more : ℕ → ℕ
one_more n = min (n + 1) (2 ^ 64 - 1)

-- The count of faults after a call: one more where it failed.
abbrev pub faults_after : {A E : Type 0} → Result A E → ℕ → ℕ
faults_after (Ok x) n = n
faults_after (Err e) n = one_more n
