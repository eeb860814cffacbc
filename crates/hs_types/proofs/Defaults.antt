-- Features of a metamodel.
use Rattle.std.proofs.Common.{ℕ, ◌≡◌, false, Option, Some, None, is_some, refl}
use Rattle.std.specs.Option.{option_and_then}
use Rattle.hs_types.specs.declared.meta.Feature.{Feature}
use Rattle.hs_types.specs.declared.meta.FeatureKind.{FeatureKind}
use Rattle.hs_types.specs.declared.meta.FeatureKind.TheVariants.{Attribute, Reference}
use Rattle.hs_types.specs.declared.meta.Metamodel.{Metamodel}
use Rattle.hs_types.specs.Metamodel.{default_of, default_of_kind, feature_at, type_of, type_of_kind}

-- What has no data type has no default.
pub no_type-no_default : (m : Metamodel) (f : ℕ) → is_some (type_of m f) ≡ false → default_of m f ≡ None
no_type-no_default m f = go (feature_at m f)
  where
    go : (found : Option Feature) → is_some (option_and_then (λ feature. type_of_kind feature.kind) found) ≡ false → option_and_then (λ feature. default_of_kind feature.kind) found ≡ None
    go None e = refl
    go (Some feature) e = by_kind feature.kind e
      where
        by_kind : (kind : FeatureKind) → is_some (type_of_kind kind) ≡ false → default_of_kind kind ≡ None
        by_kind (Attribute data_type default) e = cc
        by_kind (Reference target containment lower upper) e = refl
