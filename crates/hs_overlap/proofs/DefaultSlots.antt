-- The slots of an object whose attributes have their defaults.
use Rattle.std.proofs.Common.{ℕ, ◌≡◌, List, [], ◌∷◌, map, false, true, Option, Some, None, IsSome, IsSomeAnd, refl, ap, ◌∙◌, subst}
use Rattle.std.specs.List.{All, cons_option, filter_map}
use Rattle.std.specs.Option.{is_some, option_and_then, option_map, unwrap_or}
use Rattle.std.proofs.lemmas.Bool.{both_ways}
use Rattle.std.proofs.lemmas.List.Elements.{All-head, All-tail, All-weaker, filter_passes}
use Rattle.hs_expr.proofs.Items.{All-at}
use Rattle.hs_expr.proofs.Lists.{All-filter_map}
use Rattle.hs_expr.specs.declared.value.Value.{Value}
use Rattle.hs_types.specs.declared.graph.Slot.{Slot}
use Rattle.hs_types.specs.declared.meta.Feature.{Feature}
use Rattle.hs_types.specs.declared.meta.FeatureKind.{FeatureKind}
use Rattle.hs_types.specs.declared.meta.FeatureKind.TheVariants as feature
use Rattle.hs_types.specs.declared.meta.Metamodel.{Metamodel}
use Rattle.hs_types.specs.Metamodel.{IsConcrete, IsMeta, FeatureFits, attributes_of, default_of, default_of_kind, feature_at, features_of, fits, is_of_type, type_of, type_of_kind}
use Rattle.hs_types.specs.TypedGraph.{AreSlotsOf}

abbrev with_value : ℕ → Value → Slot
with_value a v = record { attribute = a; value = v }

abbrev pub default_slot : Metamodel → ℕ → Option Slot
default_slot m a = option_map (with_value a) (default_of m a)

abbrev pub default_slots : Metamodel → ℕ → List Slot
default_slots m class = filter_map (default_slot m) (attributes_of m class)

pub default_slots-fit : (m : Metamodel) (class : ℕ) → IsMeta m → IsConcrete m class → AreSlotsOf m class (default_slots m class)
default_slots-fit m class w c = (c, named (attributes_of m class) typed, All-filter_map V (default_slot m) (attributes_of m class) (All-weaker T (λ a. (s : Slot) → default_slot m a ≡ Some s → V s) (λ a t s e. value a (default_of m a) (default a t) s e) (attributes_of m class) typed))
  where
    T : ℕ → Type 0
    T a = IsSome (type_of m a)

    typed : All T (attributes_of m class)
    typed = filter_passes (λ a. is_some (type_of m a)) (features_of m class)

    V : Slot → Type 0
    V s = fits m s.attribute s.value ≡ true

    Fits : ℕ → Option Value → Type 0
    Fits a o = IsSomeAnd o (λ v. fits m a v ≡ true)

    of_kind : (k : FeatureKind) → IsSome (type_of_kind k) → FeatureFits m k → IsSomeAnd (default_of_kind k) (λ v. unwrap_or (option_map (λ t. is_of_type t v) (type_of_kind k)) false ≡ true)
    of_kind (feature.Attribute t v) h s = s
    of_kind (feature.Reference target containment lower upper) h s = absurd (both_ways false refl h)

    of_feature : (a : ℕ) (o : Option Feature) → feature_at m a ≡ o → IsSome (option_and_then (λ f. type_of_kind f.kind) o) → IsSomeAnd (option_and_then (λ f. default_of_kind f.kind) o) (λ v. fits m a v ≡ true)
    of_feature a None e h = absurd (both_ways false refl h)
    of_feature a (Some f) e h = rw e (of_kind f.kind h (All-at (λ f. FeatureFits m f.kind) m.features a f w.features_sound e))

    default : (a : ℕ) → T a → Fits a (default_of m a)
    default a h = of_feature a (feature_at m a) refl h

    value : (a : ℕ) (o : Option Value) → Fits a o → (s : Slot) → option_map (with_value a) o ≡ Some s → V s
    value a None i s e = absurd i
    value a (Some v) i s e = let same : with_value a v ≡ s = cc in subst V same i

    first : (a : ℕ) (rest : List Slot) (o : Option Value) → Fits a o → map (λ s. s.attribute) (cons_option (option_map (with_value a) o) rest) ≡ a ∷ map (λ s. s.attribute) rest
    first a rest None i = absurd i
    first a rest (Some v) i = refl

    named : (as' : List ℕ) → All T as' → map (λ s. s.attribute) (filter_map (default_slot m) as') ≡ as'
    named [] t = refl
    named (a ∷ as') t = first a (filter_map (default_slot m) as') (default_of m a) (default a (All-head T a as' t)) ∙ ap (λ (l : List ℕ). a ∷ l) (named as' (All-tail T a as' t))
