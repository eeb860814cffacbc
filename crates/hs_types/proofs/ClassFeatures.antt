-- The features of a class differ.
use Rattle.std.proofs.Common.{ℕ, ◌≡◌, List, [], ◌∷◌, map, Option, Some, None, refl, ap}
use Rattle.std.specs.List.{All}
use Rattle.std.specs.Option.{option_map, unwrap_or}
use Rattle.std.proofs.lemmas.List.Elements.{All-nil, All-cons, All-head, All-tail}
use Rattle.hs_expr.specs.Lists.{Differ}
use Rattle.hs_expr.proofs.Items.{All-at}
use Rattle.hs_types.specs.declared.meta.Class.{Class}
use Rattle.hs_types.specs.declared.meta.Metamodel.{Metamodel}
use Rattle.hs_types.specs.Metamodel.{IsMeta, class_at, feature_at, features_of}

apart_before : {A B : Type 0} (f : A → B) (x : A) (xs : List A) → All (λ b. f x ≡ b → ⊥) (map f xs) → All (λ y. x ≡ y → ⊥) xs
apart_before f x [] a = All-nil (λ y. x ≡ y → ⊥)
apart_before {A} {B} f x (y ∷ xs) a = All-cons (λ z. x ≡ z → ⊥) y xs (λ e. All-head (λ (b : B). f x ≡ b → ⊥) (f y) (map f xs) a (ap f e)) (apart_before f x xs (All-tail (λ (b : B). f x ≡ b → ⊥) (f y) (map f xs) a))

differ_before : {A B : Type 0} (f : A → B) (xs : List A) → Differ (map f xs) → Differ xs
differ_before f [] d = tt
differ_before f (x ∷ xs) d = (apart_before f x xs d.0, differ_before f xs d.1)

pub features_differ : (m : Metamodel) → IsMeta m → (c : ℕ) → Differ (features_of m c)
features_differ m is c = go (class_at m c) refl
  where
    go : (o : Option Class) → class_at m c ≡ o → Differ (unwrap_or (option_map (λ (class : Class). class.features) o) [])
    go None at = tt
    go (Some class) at = differ_before (λ f. option_map (λ feature. feature.name) (feature_at m f)) class.features
        (All-at (λ (k : Class). Differ (map (λ f. option_map (λ feature. feature.name) (feature_at m f)) k.features)) m.classes c class is.features_differ at)
