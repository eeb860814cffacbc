-- What the names in written objects denote: classes and features of a metamodel, and objects.
use Rattle.std.specs.Prelude.{ℕ, List, map, Bool, false, is_some, ◌&&◌, Option}
use Rattle.std.specs.Borrow.{Bor}
use Rattle.std.specs.HashMap.{HashMap, get_by}
use Rattle.std.specs.List.{find, position}
use Rattle.std.specs.Option.{option_map_or, unwrap_or}
use Rattle.std.specs.Str.{bytes_eq}
use Rattle.hs_types.specs.declared.meta.Feature.{Feature}
use Rattle.hs_types.specs.declared.meta.Metamodel.{Metamodel}
use Rattle.hs_expr.specs.Lists.{same_text}
use Rattle.hs_types.specs.Metamodel.{feature_at, features_of, is_attribute, target_of_kind}
use Rattle.hs_types.specs.Names.{class_named}
use Rattle.hs_graph.specs.declared.raw.RawObject.{RawObject}

abbrev pub object_names : List RawObject → List (List ℕ)
object_names objects = map (λ object. object.name) objects

-- The place of a name among these.
abbrev pub place_of : List (List ℕ) → List ℕ → Option ℕ
place_of names name = position (same_text name) names

-- What a map by borrowed names finds by this name.
abbrev pub number_named : {X S : Type 0} → HashMap (Bor (List ℕ)) X S → List ℕ → Option X
number_named numbers name = get_by (λ k. bytes_eq name k.now) numbers

-- The number of the object's class; 0 where there is no such class.
abbrev pub class_of_object : Metamodel → RawObject → ℕ
class_of_object m object = unwrap_or (class_named m object.class) 0

abbrev pub classes_of_objects : Metamodel → List RawObject → List ℕ
classes_of_objects m objects = map (class_of_object m) objects

abbrev pub is_reference : Feature → Bool
is_reference feature = is_some (target_of_kind feature.kind)

-- Feature f is an attribute of this name.
abbrev pub is_attribute_named : Metamodel → List ℕ → ℕ → Bool
is_attribute_named m name f =
    option_map_or (λ feature. same_text name feature.name && is_attribute feature) (feature_at m f)
    false

-- Feature f is a reference of this name.
abbrev pub is_reference_named : Metamodel → List ℕ → ℕ → Bool
is_reference_named m name f =
    option_map_or (λ feature. same_text name feature.name && is_reference feature) (feature_at m f)
    false

-- The attribute of this name among the features of a class, and the reference.
abbrev pub attribute_named : Metamodel → ℕ → List ℕ → Option ℕ
attribute_named m class name = find (is_attribute_named m name) (features_of m class)

abbrev pub reference_named : Metamodel → ℕ → List ℕ → Option ℕ
reference_named m class name = find (is_reference_named m name) (features_of m class)
