-- What is found by name.
use Rattle.std.specs.Prelude.{ℕ, List, [], ◌∷◌}
use Rattle.std.specs.Borrow.{Bor}
use Rattle.serde_json.specs.Data.{Data, Members, no_members, member}

-- The members of a map's entries, in their order.
abbrev pub entry_members : {X : Type 0} → (X → Data) → List (Bor (List ℕ) × X) → Members
entry_members data_of [] = no_members
entry_members data_of (entry ∷ entries) =
    member entry.0.now (data_of entry.1) (entry_members data_of entries)
