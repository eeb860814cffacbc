-- Definitions in steps, each of which gives a value or the first fault, and answers by them.
use Rattle.std.specs.Prelude.{◌≡◌, Bool, true, false, Option, Some, None, Result, Ok, Err}
use Rattle.hs_expr.specs.declared.failure.Failure.{Failure}
use Rattle.hs_expr.specs.declared.failure.Failure.TheVariants.{Fault, NoMemory}

infixl 10 ◌>>=◌
-- Two steps in order: the second's answer, where the first gives a value; else the first one's
-- fault.
abbrev pub ◌>>=◌ : {A B F : Type 0} → Result A F → (A → Result B F) → Result B F
(Ok x) >>= next = next x
(Err fault) >>= next = Err fault

-- Nothing more where the test is true; else this fault.
abbrev pub demand : {F : Type 0} → Bool → F → Result (Unit {0}) F
demand true fault = Ok tt
demand false fault = Err fault

-- Goes on with the value, where there is one; else there is this fault.
abbrev pub needed : {A F : Type 0} → Option A → F → Result A F
needed (Some x) fault = Ok x
needed None fault = Err fault

-- The fault, where there is one, as one of a wider type.
abbrev pub fault_as : {A F G : Type 0} → (F → G) → Result A F → Result A G
fault_as wrap (Ok x) = Ok x
fault_as wrap (Err fault) = Err (wrap fault)

-- The same of an answer that may also be out of memory.
abbrev pub failing_as : {A F G : Type 0} → (F → G) → Result A (Failure F) → Result A (Failure G)
failing_as wrap (Ok x) = Ok x
failing_as wrap (Err (Fault fault)) = Err (Fault (wrap fault))
failing_as wrap (Err NoMemory) = Err NoMemory

-- Why there is no answer: this is the first fault, or memory ran out.
abbrev pub Fails : {A F : Type 0} → Failure F → Result A F → Type 0
Fails (Fault fault) meant = meant ≡ Err fault
Fails NoMemory meant = Unit {0}

-- The answer is what the definition gives; only out of memory may come in its place.
abbrev pub Gives : {A F : Type 0} → Result A (Failure F) → Result A F → Type 0
Gives (Ok x) meant = meant ≡ Ok x
Gives (Err failure) meant = Fails failure meant

-- The same, where the answer is seen by a view.
abbrev pub GivesBy : {A B F : Type 0} → (B → A) → Result B (Failure F) → Result A F → Type 0
GivesBy view (Ok y) meant = meant ≡ Ok (view y)
GivesBy view (Err failure) meant = Fails failure meant

-- The same of a value that is left in a place.
abbrev pub Leaves : {A F : Type 0} → Result (Unit {0}) (Failure F) → A → Result A F → Type 0
Leaves (Ok done) left meant = meant ≡ Ok left
Leaves (Err failure) left meant = Fails failure meant

-- The fact holds of the value that is given, and the definition finds no fault; else this is its
-- fault.
abbrev pub GivesWhere : {A F : Type 0} → (A → Type 0) → Result A (Failure F) → Result (Unit {0}) F
    → Type 0
GivesWhere Holds (Ok x) meant = (meant ≡ Ok tt) × Holds x
GivesWhere Holds (Err failure) meant = Fails failure meant
