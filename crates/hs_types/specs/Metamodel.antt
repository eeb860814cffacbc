-- Metamodels, after Ecore: classes with supertypes, and the attributes and references that they
-- own.
use Rattle.std.specs.Prelude.{ℕ, ◌^◌, ◌<◌, ◌≤◌, ◌≡◌, ◌⊎◌, List, [], ◌++◌, is_some, map, length, Bool, true, false, eqb, ◌||◌, Option, Some, None, IsSomeAnd, IfSome, EachIndex, slice_get}
use Rattle.std.specs.List.{All, AllPairs, filter, flat_map}
use Rattle.std.specs.Option.{option_map, option_and_then, unwrap_or}
use Rattle.hs_expr.specs.declared.value.Kind.{Kind}
use Rattle.hs_expr.specs.declared.value.Kind.TheVariants as kind
use Rattle.hs_expr.specs.declared.value.Value.{Value}
use Rattle.hs_expr.specs.declared.value.Value.TheVariants as value
use Rattle.hs_expr.specs.Evaluation.{is_within}
use Rattle.hs_types.specs.declared.meta.Class.{Class}
use Rattle.hs_types.specs.declared.meta.DataType.{DataType}
use Rattle.hs_types.specs.declared.meta.DataType.TheVariants.{EInt, ELong, EBoolean, EString}
use Rattle.hs_types.specs.declared.meta.Feature.{Feature}
use Rattle.hs_types.specs.declared.meta.FeatureKind.{FeatureKind}
use Rattle.hs_types.specs.declared.meta.FeatureKind.TheVariants.{Attribute, Reference}
use Rattle.hs_types.specs.declared.meta.Metamodel.{Metamodel}
use Rattle.hs_expr.specs.Lists.{has, Differ, each_once, places}
use Rattle.hs_types.specs.Reachability.{reaches}

abbrev pub class_at : Metamodel → ℕ → Option Class
class_at m c = slice_get m.classes c

abbrev pub feature_at : Metamodel → ℕ → Option Feature
feature_at m f = slice_get m.features f

-- The numbers of each class's direct supertypes.
abbrev pub supers_of : Metamodel → List (List ℕ)
supers_of m = map (λ class. class.supers) m.classes

-- The class names d among its supertypes.
abbrev pub HasSuper : Metamodel → ℕ → ℕ → Type 0
HasSuper m c d = IsSomeAnd (class_at m c) (λ class. has class.supers d ≡ true)

-- A class conforms to each class that is reached from it by zero or more steps to a supertype.
pub data Conforms (m : Metamodel) : ℕ → ℕ → Type 0 where
  itself : (c : ℕ) → Conforms m c c
  above : (c d e : ℕ) → HasSuper m c d → Conforms m d e → Conforms m c e

-- Whether class c is class d or below it, by the list of each class's direct supertypes.
abbrev pub conforms : List (List ℕ) → ℕ → ℕ → Bool
conforms supers c d = eqb c d || reaches supers c d

-- A class of which there can be objects.
abbrev pub IsConcrete : Metamodel → ℕ → Type 0
IsConcrete m c = IsSomeAnd (class_at m c) (λ class. class.is_abstract ≡ false)

-- Some concrete class conforms to both.
abbrev pub HaveCommon : Metamodel → ℕ → ℕ → Type 0
HaveCommon m a b = (c : ℕ) × IsConcrete m c × Conforms m c a × Conforms m c b

-- The values that a data type has: of EInt the whole numbers of 32 bits with a sign, of ELong those
-- of 64 bits.
abbrev pub is_of_type : DataType → Value → Bool
is_of_type EInt (value.Int n) = is_within (2 ^ 31) n
is_of_type ELong (value.Int n) = is_within (2 ^ 63) n
is_of_type EBoolean (value.Bool b) = true
is_of_type EString (value.Text t) = true
is_of_type _ _ = false

abbrev pub kind_of_type : DataType → Kind
kind_of_type EInt = kind.Int
kind_of_type ELong = kind.Int
kind_of_type EBoolean = kind.Bool
kind_of_type EString = kind.Text

abbrev pub type_of_kind : FeatureKind → Option DataType
type_of_kind (Attribute data_type default) = Some data_type
type_of_kind (Reference target containment lower upper) = None

abbrev pub default_of_kind : FeatureKind → Option Value
default_of_kind (Attribute data_type default) = Some default
default_of_kind (Reference target containment lower upper) = None

abbrev pub target_of_kind : FeatureKind → Option ℕ
target_of_kind (Attribute data_type default) = None
target_of_kind (Reference target containment lower upper) = Some target

abbrev pub is_attribute : Feature → Bool
is_attribute feature = is_some (type_of_kind feature.kind)

-- The data type of an attribute, and the value that it has where none is given.
abbrev pub type_of : Metamodel → ℕ → Option DataType
type_of m f = option_and_then (λ feature. type_of_kind feature.kind) (feature_at m f)

abbrev pub default_of : Metamodel → ℕ → Option Value
default_of m f = option_and_then (λ feature. default_of_kind feature.kind) (feature_at m f)

-- The class that a reference leads to.
abbrev pub target_of : Metamodel → ℕ → Option ℕ
target_of m f = option_and_then (λ feature. target_of_kind feature.kind) (feature_at m f)

-- f is an attribute, and the value is of its data type.
abbrev pub fits : Metamodel → ℕ → Value → Bool
fits m f v = unwrap_or (option_map (λ data_type. is_of_type data_type v) (type_of m f)) false

-- The features of a class, inherited ones first, and the attributes among them.
abbrev pub features_of : Metamodel → ℕ → List ℕ
features_of m c = unwrap_or (option_map (λ class. class.features) (class_at m c)) []

abbrev pub attributes_of : Metamodel → ℕ → List ℕ
attributes_of m c = filter (λ f. is_some (type_of m f)) (features_of m c)

-- The features that a class owns.
abbrev pub owned_by : Metamodel → ℕ → List ℕ
owned_by m c = places (λ feature. eqb feature.owner c) m.features

-- Features are numbered class by class, and of one class its attributes before its references.
abbrev pub StandBefore : Feature → Feature → Type 0
StandBefore f g =
    (f.owner < g.owner) ⊎ ((f.owner ≡ g.owner) × (is_attribute g ≡ true → is_attribute f ≡ true))

-- A default is of its data type. A reference leads to a class; it has room for one target or more,
-- and for no fewer than it needs.
abbrev pub FeatureFits : Metamodel → FeatureKind → Type 0
FeatureFits m (Attribute data_type default) = is_of_type data_type default ≡ true
FeatureFits m (Reference target containment lower upper) =
    (target < length m.classes) × IfSome upper (λ most. (0 < most) × (lower ≤ most))

-- Classes and features with which objects can be typed. No class is its own supertype, by one step
-- or more. The features of a class are the inherited ones, supertype by supertype, each once, and
-- then its own; no two of them have one name.
pub record IsMeta (m : Metamodel) : Type 0 where
  pub names_differ : Differ (map (λ class. class.name) m.classes)
  pub supers_stand : All (λ class. All (λ d. d < length m.classes) class.supers) m.classes
  pub no_cycle : (c d : ℕ) → HasSuper m c d → Conforms m d c → ⊥
  pub owners_stand : All (λ feature. feature.owner < length m.classes) m.features
  pub features_sound : All (λ feature. FeatureFits m feature.kind) m.features
  pub features_in_order : AllPairs StandBefore m.features
  pub features_whole : EachIndex m.classes (λ c. IsSomeAnd (class_at m c)
      (λ class. class.features ≡ each_once (flat_map (features_of m) class.supers) ++ owned_by m c))
  pub features_differ : All (λ class. Differ
      (map (λ f. option_map (λ feature. feature.name) (feature_at m f)) class.features)) m.classes
