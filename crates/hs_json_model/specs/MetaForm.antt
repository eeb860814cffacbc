-- The form of a metamodel: which keys its parts have, and which kinds of value.
use Rattle.std.specs.Prelude.{ℕ, pos, List, [], ◌∷◌, false, Ok, Err, codes, if◌then◌else◌}
use Rattle.std.specs.Ordering.{int_eq}
use Rattle.serde_json.specs.Data.{Data, null, boolean, number, string, array, object}
use Rattle.hs_expr.specs.declared.value.Value.TheVariants as value
use Rattle.hs_expr.specs.Steps.{◌>>=◌}
use Rattle.hs_json_form.specs.declared.path.Step.TheVariants.{Key}
use Rattle.hs_json_form.specs.Form.{Read, at_or, integer_value, list_of, member_at, only_known, text_value, text_at, truth_value, at_step}
use Rattle.hs_meta.specs.declared.raw.RawAttribute.{RawAttribute}
use Rattle.hs_meta.specs.declared.raw.RawClass.{RawClass}
use Rattle.hs_meta.specs.declared.raw.RawDefault.{RawDefault}
use Rattle.hs_meta.specs.declared.raw.RawDefault.TheVariants.{LeftOut, Given, NoValue}
use Rattle.hs_meta.specs.declared.raw.RawMeta.{RawMeta}
use Rattle.hs_meta.specs.declared.raw.RawReference.{RawReference}

-- What is given as a default: a truth value, an integer of 64 bits or a text; a list, an object and
-- null aren't values.
abbrev pub raw_default : Data → Read RawDefault
raw_default null = Ok NoValue
raw_default (boolean b) = Ok (Given (value.Bool b))
raw_default (number n) = integer_value (number n) >>= λ i. Ok (Given (value.Int i))
raw_default (string s) = Ok (Given (value.Text s))
raw_default (array ds) = Ok NoValue
raw_default (object ms) = Ok NoValue

-- An attribute has a name, a type, and perhaps a default.
unfoldable pub raw_attribute : Data → Read RawAttribute
raw_attribute d = do
  known ← only_known (codes "name" ∷ codes "type" ∷ codes "default" ∷ []) d
  name ← member_at (codes "name") d
  type ← member_at (codes "type") d
  named ← text_at (codes "name") name
  typed ← text_at (codes "type") type
  default ← at_or (codes "default") LeftOut raw_default d
  Ok (record { name = named; data_type = typed; default = default })

-- A reference has a name, a target, and perhaps containment and bounds: it contains nothing, from 0
-- to 1, where they are left out.
unfoldable pub raw_reference : Data → Read RawReference
raw_reference d = do
  known ← only_known (codes "name" ∷ codes "target" ∷ codes "containment" ∷ codes "lower"
      ∷ codes "upper" ∷ []) d
  name ← member_at (codes "name") d
  target ← member_at (codes "target") d
  named ← text_at (codes "name") name
  leads ← text_at (codes "target") target
  containment ← at_or (codes "containment") false truth_value d
  lower ← at_or (codes "lower") (pos 0) integer_value d
  upper ← at_or (codes "upper") (pos 1) integer_value d
  Ok (record {
    name = named;
    target = leads;
    containment = containment;
    lower = lower;
    upper = upper;
  })

-- What a class owns: perhaps attributes, and perhaps references.
unfoldable pub raw_features : Data → Read (List RawAttribute × List RawReference)
raw_features d = do
  attributes ← at_or (codes "attributes") [] (list_of raw_attribute) d
  references ← at_or (codes "references") [] (list_of raw_reference) d
  Ok (attributes, references)

-- A class has a name, and perhaps supertypes, attributes and references; it is concrete where
-- nothing else is said.
unfoldable pub raw_class : Data → Read RawClass
raw_class d = do
  known ← only_known (codes "name" ∷ codes "abstract" ∷ codes "supers" ∷ codes "attributes"
      ∷ codes "references" ∷ []) d
  name ← member_at (codes "name") d
  named ← text_at (codes "name") name
  is_abstract ← at_or (codes "abstract") false truth_value d
  supers ← at_or (codes "supers") [] (list_of text_value) d
  features ← raw_features d
  Ok (record {
    name = named;
    is_abstract = is_abstract;
    supers = supers;
    attributes = features.0;
    references = features.1;
  })

-- The version of a metamodel's meaning is 1.
abbrev pub format_of : Data → Read ℕ
format_of d = integer_value d >>= λ n. if int_eq n (pos 1) then Ok 1 else Err []

abbrev pub format_at : Data → Read ℕ
format_at d = at_or (codes "format") 1 format_of d

abbrev pub raw_classes : Data → Read (List RawClass)
raw_classes d = list_of raw_class d

-- A metamodel has classes, and perhaps the version of its meaning.
unfoldable pub raw_meta : Data → Read RawMeta
raw_meta d = do
  known ← only_known (codes "classes" ∷ codes "format" ∷ []) d
  found ← member_at (codes "classes") d
  classes ← at_step (Key (codes "classes")) (raw_classes found)
  format ← format_at d
  Ok (record { format = format; classes = classes })
