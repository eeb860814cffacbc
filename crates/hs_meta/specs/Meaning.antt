-- The metamodel that written classes mean, where they have no fault.
use Rattle.std.specs.Prelude.{ℕ, zero, suc, ◌+◌, ℤ, pos, negsuc, List, [], ◌∷◌, ◌++◌, map, length, get_or, false, Option, Some, None}
use Rattle.std.specs.List.{flat_map, filter_map, range_with_len}
use Rattle.std.specs.Option.{unwrap_or}
use Rattle.hs_expr.specs.declared.value.Value.{Value}
use Rattle.hs_expr.specs.declared.value.Value.TheVariants as value
use Rattle.hs_expr.specs.Verdict.{each}
use Rattle.hs_types.specs.declared.meta.Class.{Class}
use Rattle.hs_types.specs.declared.meta.DataType.{DataType}
use Rattle.hs_types.specs.declared.meta.DataType.TheVariants.{EInt, ELong, EBoolean, EString}
use Rattle.hs_types.specs.declared.meta.Feature.{Feature}
use Rattle.hs_types.specs.declared.meta.FeatureKind.TheVariants.{Attribute, Reference}
use Rattle.hs_types.specs.declared.meta.Metamodel.{Metamodel}
use Rattle.hs_expr.specs.Lists.{each_once}
use Rattle.hs_meta.specs.declared.raw.RawAttribute.{RawAttribute}
use Rattle.hs_meta.specs.declared.raw.RawClass.{RawClass}
use Rattle.hs_meta.specs.declared.raw.RawDefault.{RawDefault}
use Rattle.hs_meta.specs.declared.raw.RawDefault.TheVariants.{LeftOut, Given, NoValue}
use Rattle.hs_meta.specs.declared.raw.RawMeta.{RawMeta}
use Rattle.hs_meta.specs.declared.raw.RawReference.{RawReference}
use Rattle.hs_meta.specs.Names.{raw_class_number, data_type_named}
use Rattle.hs_meta.specs.WrittenSupers.{written_supers}

-- What an attribute of this type has where nothing is given.
abbrev pub plain_value : DataType → Value
plain_value EInt = value.Int (pos 0)
plain_value ELong = value.Int (pos 0)
plain_value EBoolean = value.Bool false
plain_value EString = value.Text []

abbrev pub default_value : DataType → RawDefault → Value
default_value data_type (Given value) = value
default_value data_type LeftOut = plain_value data_type
default_value data_type NoValue = plain_value data_type

abbrev pub least : ℤ → ℕ
least (pos n) = n
least (negsuc n) = 0

-- A negative bound means: no bound.
abbrev pub most : ℤ → Option ℕ
most (pos n) = Some n
most (negsuc n) = None

abbrev pub data_type_of : RawAttribute → DataType
data_type_of attribute = unwrap_or (data_type_named attribute.data_type) EString

abbrev pub attribute_of_raw : ℕ → RawAttribute → Feature
attribute_of_raw owner attribute = record {
  owner = owner;
  name = attribute.name;
  kind = Attribute (data_type_of attribute)
      (default_value (data_type_of attribute) attribute.default);
}

abbrev pub reference_of_raw : List RawClass → ℕ → RawReference → Feature
reference_of_raw classes owner reference = record {
  owner = owner;
  name = reference.name;
  kind = Reference (unwrap_or (raw_class_number classes reference.target) 0) reference.containment
      (least reference.lower) (most reference.upper);
}

-- The features that a class owns, its attributes before its references.
abbrev pub own_features : List RawClass → ℕ → RawClass → List Feature
own_features classes c class =
    map (attribute_of_raw c) class.attributes ++ map (reference_of_raw classes c) class.references

-- How many features a class owns.
abbrev pub own_count : RawClass → ℕ
own_count class = length class.attributes + length class.references

-- The numbers of the features that each class owns: features are numbered class by class, from this
-- number on.
abbrev pub own_numbers_from : ℕ → List RawClass → List (List ℕ)
own_numbers_from first [] = []
own_numbers_from first (class ∷ classes) =
    range_with_len first (own_count class) ∷ own_numbers_from (first + own_count class) classes

abbrev pub own_numbers : List RawClass → List (List ℕ)
own_numbers classes = own_numbers_from 0 classes

-- The numbers of a class's direct supertypes.
abbrev pub direct_supers : List RawClass → RawClass → List ℕ
direct_supers classes class = filter_map (raw_class_number classes) class.supers

-- The features of class c, by the direct supertypes and the own features of each class: the
-- inherited ones, supertype by supertype, each once, and then its own. Supertypes are followed for
-- at most `steps` steps.
abbrev pub features_within : List (List ℕ) → List (List ℕ) → ℕ → ℕ → List ℕ
features_within supers own zero c = get_or own c []
features_within supers own (suc steps) c =
    each_once (flat_map (features_within supers own steps) (get_or supers c [])) ++ get_or own c []

-- No chain of supertypes is longer than there are classes.
abbrev pub features_at : List RawClass → ℕ → List ℕ
features_at classes c =
    features_within (written_supers classes) (own_numbers classes) (length classes) c

abbrev pub class_of_raw : List RawClass → ℕ → RawClass → Class
class_of_raw classes c class = record {
  name = class.name;
  is_abstract = class.is_abstract;
  supers = direct_supers classes class;
  features = features_at classes c;
}

-- Classes and features are numbered in written order.
abbrev pub metamodel_of : RawMeta → Metamodel
metamodel_of raw = record {
  format = raw.format;
  classes = each (λ c class. class_of_raw raw.classes c class ∷ []) raw.classes;
  features = each (own_features raw.classes) raw.classes;
}
