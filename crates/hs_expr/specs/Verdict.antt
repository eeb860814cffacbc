-- The first fault of a list of faults, and lists of faults that are made item by item.
use Rattle.std.specs.Prelude.{ℕ, ◌+◌, List, [], ◌∷◌, ◌++◌, Result, Ok, Err, Bool, if◌then◌else◌}

-- No fault, or the first of them.
abbrev pub verdict : {E : Type 0} → List E → Result (Unit {0}) E
verdict [] = Ok tt
verdict (fault ∷ faults) = Err fault

-- The value where there is no fault; else the first fault.
abbrev pub unless : {A F : Type 0} → List F → A → Result A F
unless [] x = Ok x
unless (fault ∷ faults) x = Err fault

-- What `finds` finds at each item, item by item; the first item's number is i.
abbrev pub each_from : {X E : Type 0} → (ℕ → X → List E) → ℕ → List X → List E
each_from finds i [] = []
each_from finds i (x ∷ xs) = finds i x ++ each_from finds (i + 1) xs

-- What `finds` finds at each item with its number, item by item.
abbrev pub each : {X E : Type 0} → (ℕ → X → List E) → List X → List E
each finds xs = each_from finds 0 xs

-- This fault where the test is true.
abbrev pub fault_if : {E : Type 0} → Bool → E → List E
fault_if test fault = if test then fault ∷ [] else []
