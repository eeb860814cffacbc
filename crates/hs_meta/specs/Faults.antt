-- All faults of written classes, in the order in which they are reported: ten checks, each over the
-- classes.
use Rattle.std.specs.Prelude.{ℕ, ℤ, pos, negsuc, List, [], ◌++◌, map, length, take, Bool, true, false, not, nat_le, nat_lt, eqb, ◌&&◌, is_some, if◌then◌else◌}
use Rattle.std.specs.Option.{option_map_or}
use Rattle.hs_expr.specs.Verdict.{each, fault_if}
use Rattle.hs_types.specs.declared.limits.TheConstants.{MAX_CLASSES, MAX_FEATURES}
use Rattle.hs_types.specs.Metamodel.{is_of_type}
use Rattle.hs_meta.specs.declared.fault.ModelFault.{ModelFault}
use Rattle.hs_meta.specs.declared.fault.ModelFaultKind.{ModelFaultKind}
use Rattle.hs_meta.specs.declared.fault.ModelFaultKind.TheVariants as kind
use Rattle.hs_meta.specs.declared.fault.ModelPlace.{ModelPlace}
use Rattle.hs_meta.specs.declared.fault.ModelPlace.TheVariants as place
use Rattle.hs_meta.specs.declared.raw.RawAttribute.{RawAttribute}
use Rattle.hs_meta.specs.declared.raw.RawClass.{RawClass}
use Rattle.hs_meta.specs.declared.raw.RawDefault.{RawDefault}
use Rattle.hs_meta.specs.declared.raw.RawDefault.TheVariants.{LeftOut, Given, NoValue}
use Rattle.hs_meta.specs.declared.raw.RawReference.{RawReference}
use Rattle.hs_meta.specs.Names.{data_type_named, differ, is_class, is_identifier}
use Rattle.hs_types.specs.Reachability.{reaches}
use Rattle.hs_types.specs.Metamodel.{conforms}
use Rattle.hs_meta.specs.WrittenSupers.{written_supers}

abbrev pub model_fault : ModelPlace → ModelFaultKind → ModelFault
model_fault place kind = record { place = place; kind = kind }

-- There are more than 256 classes.
abbrev pub many_classes : List RawClass → List ModelFault
many_classes classes =
    fault_if (nat_lt MAX_CLASSES (length classes)) (model_fault place.Classes kind.Limit)

abbrev pub wrong_attribute_name : ℕ → ℕ → RawAttribute → List ModelFault
wrong_attribute_name c a attribute =
    fault_if (not (is_identifier attribute.name)) (model_fault (place.AttributeName c a) kind.Name)

abbrev pub wrong_reference_name : ℕ → ℕ → RawReference → List ModelFault
wrong_reference_name c r reference =
    fault_if (not (is_identifier reference.name)) (model_fault (place.ReferenceName c r) kind.Name)

abbrev pub wrong_names_in : ℕ → RawClass → List ModelFault
wrong_names_in c class =
    fault_if (not (is_identifier class.name)) (model_fault (place.ClassName c) kind.Name) ++ (each
    (wrong_attribute_name c) class.attributes ++ each (wrong_reference_name c) class.references)

-- A class, an attribute or a reference has a name that isn't an identifier.
abbrev pub wrong_names : List RawClass → List ModelFault
wrong_names classes = each wrong_names_in classes

-- A class has the name of one before it.
abbrev pub repeated_classes : List RawClass → List ModelFault
repeated_classes classes =
    each (λ c class. fault_if (is_class (take c classes) class.name)
    (model_fault (place.ClassName c) kind.Twice)) classes

abbrev pub unknown_super : List RawClass → ℕ → ℕ → List ℕ → List ModelFault
unknown_super classes c s name =
    fault_if (not (is_class classes name)) (model_fault (place.Super c s) kind.UnknownSuper)

-- A supertype isn't a class.
abbrev pub unknown_supers : List RawClass → List ModelFault
unknown_supers classes = each (λ c class. each (unknown_super classes c) class.supers) classes

-- A class is its own supertype.
abbrev pub super_cycles : List RawClass → List ModelFault
super_cycles classes =
    each (λ c class. fault_if (reaches (written_supers classes) c c)
    (model_fault (place.Class c) kind.SuperCycle)) classes

abbrev pub unknown_type : ℕ → ℕ → RawAttribute → List ModelFault
unknown_type c a attribute =
    fault_if (not (is_some (data_type_named attribute.data_type)))
    (model_fault (place.AttributeType c a) kind.UnknownType)

abbrev pub unknown_target : List RawClass → ℕ → ℕ → RawReference → List ModelFault
unknown_target classes c r reference =
    fault_if (not (is_class classes reference.target))
    (model_fault (place.ReferenceTarget c r) kind.UnknownType)

-- An attribute's type isn't a data type, or a reference's target isn't a class.
abbrev pub unknown_types : List RawClass → List ModelFault
unknown_types classes =
    each (λ c class. each (unknown_type c) class.attributes
    ++ each (unknown_target classes c) class.references) classes

-- A default that is given is a value of its attribute's type. Of an unknown type nothing is asked
-- here.
abbrev pub default_fits : List ℕ → RawDefault → Bool
default_fits data_type LeftOut = true
default_fits data_type (Given value) =
    option_map_or (λ known. is_of_type known value) (data_type_named data_type) true
default_fits data_type NoValue = false

abbrev pub bad_default : ℕ → ℕ → RawAttribute → List ModelFault
bad_default c a attribute =
    fault_if (not (default_fits attribute.data_type attribute.default))
    (model_fault (place.AttributeDefault c a) kind.BadDefault)

-- A default isn't a value of its attribute's type.
abbrev pub bad_defaults : List RawClass → List ModelFault
bad_defaults classes = each (λ c class. each (bad_default c) class.attributes) classes

-- A reference needs no fewer targets than none. It has room for one or more and for no fewer than
-- it needs, or is unbounded, which is -1.
abbrev pub bounds_fit : ℤ → ℤ → Bool
bounds_fit (pos lower) (pos upper) = nat_lt 0 upper && nat_le lower upper
bounds_fit (pos lower) (negsuc n) = eqb n 0
bounds_fit (negsuc n) upper = false

abbrev pub bad_bound : ℕ → ℕ → RawReference → List ModelFault
bad_bound c r reference =
    fault_if (not (bounds_fit reference.lower reference.upper))
    (model_fault (place.Reference c r) kind.BadBounds)

-- A reference has bounds that leave no room for a target, or for fewer targets than it needs.
abbrev pub bad_bounds : List RawClass → List ModelFault
bad_bounds classes = each (λ c class. each (bad_bound c) class.references) classes

-- The names of the features that a class owns.
abbrev pub own_names : RawClass → List (List ℕ)
own_names class =
    map (λ attribute. attribute.name) class.attributes
    ++ map (λ reference. reference.name) class.references

-- The names of all features of class c, those of each class that it conforms to.
abbrev pub feature_names : List RawClass → ℕ → List (List ℕ)
feature_names classes c =
    each (λ d class. if conforms (written_supers classes) c d then own_names class else []) classes

abbrev pub repeated_features_at : List RawClass → ℕ → RawClass → List ModelFault
repeated_features_at classes c class =
    fault_if (not (differ (feature_names classes c))) (model_fault (place.Class c) kind.Twice)

-- A class has two features of one name, inherited ones included.
abbrev pub repeated_features : List RawClass → List ModelFault
repeated_features classes = each (repeated_features_at classes) classes

abbrev pub many_features_at : List RawClass → ℕ → RawClass → List ModelFault
many_features_at classes c class =
    fault_if (nat_lt MAX_FEATURES (length (feature_names classes c)))
    (model_fault (place.Class c) kind.Limit)

-- A class has more than 64 features, inherited ones included.
abbrev pub many_features : List RawClass → List ModelFault
many_features classes = each (many_features_at classes) classes

-- All faults, in their order.
abbrev pub model_faults : List RawClass → List ModelFault
model_faults classes =
    many_classes classes
    ++ wrong_names classes
    ++ repeated_classes classes
    ++ unknown_supers classes
    ++ super_cycles classes
    ++ unknown_types classes
    ++ bad_defaults classes
    ++ bad_bounds classes
    ++ repeated_features classes
    ++ many_features classes
