-- Sources and sinks in memory.
use Rattle.std.specs.Prelude.{ℕ, ◌+◌, ◌-◌, ◌^◌, Bool, List, ◌==◌, false, min, if◌then◌else◌}
use Rattle.std.specs.List.{list_any}
use Rattle.hs_base.specs.declared.calls.Calls.{Calls}
use Rattle.hs_base.specs.Faults.{one_more}

-- No call yet; those of these numbers are to fail.
abbrev pub no_calls : List ℕ → Calls
no_calls fails = record { fails = fails; made = 0; faults = 0; failed = false }

-- Whether the call of this number is to fail.
abbrev pub is_due : List ℕ → ℕ → Bool
is_due fails call = list_any (λ n. n == call) fails

-- The calls, with one more that failed or not. Their number stays at 2^32 - 1.
abbrev pub calls_after : Bool → Calls → Calls
calls_after failed calls = record {
  fails = calls.fails;
  made = min (calls.made + 1) (2 ^ 32 - 1);
  faults = if failed then one_more calls.faults else calls.faults;
  failed = failed;
}

-- A source in memory: the bytes that are left, the most that one read moves, and its calls.
pub record Supply : Type 0 where
  pub left : List ℕ
  pub piece : ℕ
  pub calls : Calls

-- A sink in memory: the bytes written, the most that it holds, the most that one write takes, and
-- its calls.
pub record Store : Type 0 where
  pub written : List ℕ
  pub room : ℕ
  pub piece : ℕ
  pub calls : Calls
