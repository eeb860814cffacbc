-- Names as they are written, and what they denote.
use Rattle.std.specs.Prelude.{ℕ, List, [], ◌∷◌, length, Bool, true, false, not, nat_le, nat_lt, ◌&&◌, ◌||◌, ◌==◌, Option, Some, None, is_some, codes, if◌then◌else◌}
use Rattle.std.specs.Borrow.{Bor}
use Rattle.std.specs.HashMap.{HashMap, get_by}
use Rattle.std.specs.List.{list_all, list_any, position}
use Rattle.std.specs.Str.{bytes_eq}
use Rattle.hs_types.specs.declared.meta.DataType.{DataType}
use Rattle.hs_types.specs.declared.meta.DataType.TheVariants.{EInt, ELong, EBoolean, EString}
use Rattle.hs_types.specs.declared.limits.TheConstants.{MAX_IDENTIFIER_BYTES}
use Rattle.hs_expr.specs.Lists.{same_text}
use Rattle.hs_meta.specs.declared.raw.RawClass.{RawClass}

-- An ASCII letter or `_`.
abbrev pub begins_name : ℕ → Bool
begins_name b = (nat_le 65 b && nat_le b 90) || (nat_le 97 b && nat_le b 122) || b == 95

-- An ASCII letter or digit, or `_`.
abbrev pub goes_on_in_name : ℕ → Bool
goes_on_in_name b = begins_name b || (nat_le 48 b && nat_le b 57)

-- Classes, attributes and references are named by a letter or `_`, and then letters, digits and
-- `_`, at most 64 bytes in all.
abbrev pub is_identifier : List ℕ → Bool
is_identifier [] = false
is_identifier (b ∷ bs) =
    begins_name b && list_all goes_on_in_name bs && nat_lt (length bs) MAX_IDENTIFIER_BYTES

-- No text comes twice.
abbrev pub differ : List (List ℕ) → Bool
differ [] = true
differ (t ∷ ts) = not (list_any (same_text t) ts) && differ ts

-- Among the names that are the keys of a map.
abbrev pub is_seen : {X S : Type 0} → HashMap (Bor (List ℕ)) X S → List ℕ → Bool
is_seen seen name = is_some (get_by (λ k. bytes_eq name k.now) seen)

-- One of these classes has this name.
abbrev pub is_class : List RawClass → List ℕ → Bool
is_class classes name = list_any (λ class. same_text class.name name) classes

-- The number of the first class that has this name.
abbrev pub raw_class_number : List RawClass → List ℕ → Option ℕ
raw_class_number classes name = position (λ class. same_text class.name name) classes

-- The data type of this name.
abbrev pub data_type_named : List ℕ → Option DataType
data_type_named name =
    if same_text name (codes "EInt") then Some EInt
    else if same_text name (codes "ELong") then Some ELong
    else if same_text name (codes "EBoolean") then Some EBoolean
    else if same_text name (codes "EString") then Some EString
    else None
