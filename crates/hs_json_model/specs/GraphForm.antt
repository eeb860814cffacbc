-- The form of a graph: which keys its objects have, and which kinds of value.
use Rattle.std.specs.Prelude.{ℕ, List, [], ◌∷◌, Ok, codes}
use Rattle.serde_json.specs.Data.{Data, null, boolean, number, string, array, object}
use Rattle.hs_expr.specs.declared.value.Value.TheVariants as value
use Rattle.hs_expr.specs.Steps.{◌>>=◌}
use Rattle.hs_json_form.specs.Form.{Read, at_or, integer_value, list_of, members_of, member_at, only_known, text_value, text_at}
use Rattle.hs_graph.specs.declared.raw.RawAttr.{RawAttr}
use Rattle.hs_graph.specs.declared.raw.RawObject.{RawObject}
use Rattle.hs_graph.specs.declared.raw.RawRef.{RawRef}
use Rattle.hs_graph.specs.declared.raw.RawValue.{RawValue}
use Rattle.hs_graph.specs.declared.raw.RawValue.TheVariants.{Given, NoValue}

-- What is written as a value: a truth value, an integer of 64 bits or a text; a list, an object and
-- null aren't values.
abbrev pub raw_value : Data → Read RawValue
raw_value null = Ok NoValue
raw_value (boolean b) = Ok (Given (value.Bool b))
raw_value (number n) = integer_value (number n) >>= λ i. Ok (Given (value.Int i))
raw_value (string s) = Ok (Given (value.Text s))
raw_value (array ds) = Ok NoValue
raw_value (object ms) = Ok NoValue

abbrev pub raw_attr : List ℕ → Data → Read RawAttr
raw_attr name d = raw_value d >>= λ v. Ok (record { name = name; value = v })

-- The targets of a reference are names.
abbrev pub raw_ref : List ℕ → Data → Read RawRef
raw_ref name d = list_of text_value d >>= λ targets. Ok (record { name = name; targets = targets })

-- An object has a name, a class, and perhaps values of attributes and targets of references.
unfoldable pub raw_object : Data → Read RawObject
raw_object d = do
  known ← only_known (codes "name" ∷ codes "class" ∷ codes "attrs" ∷ codes "refs" ∷ []) d
  name ← member_at (codes "name") d
  class ← member_at (codes "class") d
  named ← text_at (codes "name") name
  classed ← text_at (codes "class") class
  attrs ← at_or (codes "attrs") [] (members_of raw_attr) d
  refs ← at_or (codes "refs") [] (members_of raw_ref) d
  Ok (record { name = named; class = classed; attrs = attrs; refs = refs })

-- A graph is a list of objects.
abbrev pub raw_objects : Data → Read (List RawObject)
raw_objects d = list_of raw_object d
