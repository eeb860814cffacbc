-- The forms of JSON values. What is read, or the path of the value that is at fault.
use Rattle.std.specs.Prelude.{ℕ, ◌+◌, ℤ, List, [], ◌∷◌, map, Bool, not, Option, Some, None, option_and_then, find, Result, Ok, Err}
use Rattle.std.specs.List.{list_any}
use Rattle.serde_json.specs.Data.{Data, Items, no_items, item, Members, no_members, member}
use Rattle.serde_json.specs.Find.{get, as_array, as_bool, as_i64, as_number, as_object, as_str}
use Rattle.hs_expr.specs.Steps.{◌>>=◌, fault_as, needed as there}
use Rattle.hs_json_form.specs.declared.path.Step.{Step}
use Rattle.hs_json_form.specs.declared.path.Step.TheVariants.{Key, Place}
use Rattle.hs_expr.specs.Lists.{same_text}

-- What is read of a value, or the path within it to what is at fault.
abbrev pub Read : Type 0 → Type 0
Read X = Result X (List Step)

-- What is read one step further in: a fault of it is reported from here.
abbrev pub at_step : {X : Type 0} → Step → Read X → Read X
at_step step read = fault_as (λ path. step ∷ path) read

-- The items of a list, and the members of an object, each key with its value.
abbrev pub items : Items → List Data
items no_items = []
items (item d ds) = d ∷ items ds

abbrev pub entries : Members → List (List ℕ × Data)
entries no_members = []
entries (member key d ms) = (key, d) ∷ entries ms

-- The least key of an object that isn't one of these.
abbrev pub unknown_key : List (List ℕ) → Members → Option (List ℕ)
unknown_key known ms =
    find (λ key. not (list_any (same_text key) known)) (map (λ entry. entry.0) (entries ms))

abbrev pub no_unknown_key : Option (List ℕ) → Read (Unit {0})
no_unknown_key None = Ok tt
no_unknown_key (Some key) = Err (Key key ∷ [])

-- The value is an object that has no other keys than these.
abbrev pub only_known : List (List ℕ) → Data → Read (Unit {0})
only_known known d = there (as_object d) [] >>= λ ms. no_unknown_key (unknown_key known ms)

-- The value at a key that has to be there.
abbrev pub member_at : List ℕ → Data → Read Data
member_at key d = there (get key d) (Key key ∷ [])

-- The value is a text, an integer of 64 bits with a sign, a truth value.
abbrev pub text_value : Data → Read (List ℕ)
text_value d = there (as_str d) []

abbrev pub integer_value : Data → Read ℤ
integer_value d = there (option_and_then as_i64 (as_number d)) []

abbrev pub truth_value : Data → Read Bool
truth_value d = there (as_bool d) []

-- A text at a key that was found there.
abbrev pub text_at : List ℕ → Data → Read (List ℕ)
text_at key d = at_step (Key key) (text_value d)

-- What is read of each item in turn; the first one's place is i.
abbrev pub each_item : {X : Type 0} → (Data → Read X) → ℕ → List Data → Read (List X)
each_item read i [] = Ok []
each_item read i (d ∷ ds) =
    at_step (Place i) (read d) >>= λ x. each_item read (i + 1) ds >>= λ xs. Ok (x ∷ xs)

-- The value is a list, and each of its items is read in turn.
abbrev pub list_of : {X : Type 0} → (Data → Read X) → Data → Read (List X)
list_of read d = there (as_array d) [] >>= λ ds. each_item read 0 (items ds)

-- What is read of each member in turn, of its key and its value.
abbrev pub each_member : {X : Type 0} → (List ℕ → Data → Read X) → List (List ℕ × Data)
    → Read (List X)
each_member read [] = Ok []
each_member read (e ∷ es) =
    at_step (Key e.0) (read e.0 e.1) >>= λ x. each_member read es >>= λ xs. Ok (x ∷ xs)

-- The value is an object, and each of its members is read in turn, by the order of their keys.
abbrev pub members_of : {X : Type 0} → (List ℕ → Data → Read X) → Data → Read (List X)
members_of read d = there (as_object d) [] >>= λ ms. each_member read (entries ms)

-- The default of a member that is left out, or what is read of it.
abbrev pub value_or : {X : Type 0} → X → (Data → Read X) → Option Data → Read X
value_or default read None = Ok default
value_or default read (Some d) = read d

-- What is read of the value at a key, or this where the key is left out.
abbrev pub at_or : {X : Type 0} → List ℕ → X → (Data → Read X) → Data → Read X
at_or key default read d = value_or default (λ v. at_step (Key key) (read v)) (get key d)
