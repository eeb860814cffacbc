-- What names mean: classes and features of the metamodel, and nodes of the rule.
use Rattle.std.specs.Prelude.{ℕ, List, Bool, false, ◌&&◌, not, length, nat_lt, codes, if◌then◌else◌, Option, Some, None}
use Rattle.std.specs.List.{find, list_any, position, range_with_len}
use Rattle.std.specs.Option.{option_and_then, option_map, option_map_or}
use Rattle.hs_expr.specs.declared.Kind.{Kind}
use Rattle.hs_expr.specs.declared.Kind.TheVariants as kind
use Rattle.hs_types.specs.declared.meta.Metamodel.{Metamodel}
use Rattle.hs_expr.specs.Lists.{same_text}
use Rattle.hs_types.specs.Metamodel.{class_at, feature_at, features_of, kind_of_type, supers_of, target_of, type_of}
use Rattle.hs_types.specs.Metamodel.{conforms}
use Rattle.hs_faults.specs.declared.nodes.DeclaredNode.{DeclaredNode}
use Rattle.hs_faults.specs.Named.{first_named}

-- Numbers of classes go up to 65,535: a class after these has none.
abbrev pub as_number : ℕ → Option ℕ
as_number place = if nat_lt place 65536 then Some place else None

-- The first class of this name, by its as_number.
abbrev pub class_number : Metamodel → List ℕ → Option ℕ
class_number m name =
    option_and_then as_number (position (λ class. same_text class.name name) m.classes)

-- The kind of data that a parameter of this kind has; none where it takes an object.
abbrev pub data_named : List ℕ → Option Kind
data_named name =
    if same_text name (codes "int") then Some kind.Int
    else if same_text name (codes "bool") then Some kind.Bool
    else if same_text name (codes "text") then Some kind.Text
    else None

-- There can be objects of this very class.
abbrev pub is_concrete : Metamodel → ℕ → Bool
is_concrete m c = option_map_or (λ class. not class.is_abstract) (class_at m c) false

-- Some concrete class conforms to this one.
abbrev pub has_concrete : Metamodel → ℕ → Bool
has_concrete m c =
    list_any (λ d. is_concrete m d && conforms (supers_of m) d c)
    (range_with_len 0 (length m.classes))

-- The feature has this name.
abbrev pub is_named : Metamodel → List ℕ → ℕ → Bool
is_named m name f = option_map_or (λ feature. same_text feature.name name) (feature_at m f) false

-- The first of the class's features that has this name, by its as_number.
abbrev pub feature_named : Metamodel → ℕ → List ℕ → Option ℕ
feature_named m c name = find (is_named m name) (features_of m c)

-- The class that the reference of this name leads to, from this class.
abbrev pub target_named : Metamodel → ℕ → List ℕ → Option ℕ
target_named m c name = option_and_then (target_of m) (feature_named m c name)

-- The number and the kind of feature f, where it is an attribute.
abbrev pub as_attribute : Metamodel → ℕ → Option (ℕ × Kind)
as_attribute m f = option_map (λ type. (f, kind_of_type type)) (type_of m f)

-- The number and the kind of the attribute of this name, of this class.
abbrev pub class_attribute : Metamodel → ℕ → List ℕ → Option (ℕ × Kind)
class_attribute m c name = option_and_then (as_attribute m) (feature_named m c name)

-- The first node of this name.
abbrev pub node_named : List DeclaredNode → List ℕ → Option DeclaredNode
node_named nodes name = first_named (λ node. node.name) nodes name
