-- Slots of what is written fit their attributes.
use Rattle.std.proofs.Common.{ℕ, suc, ◌≡◌, ◌&&◌, ◌||◌, List, [], ◌∷◌, Bool, true, false, cond, eqb, map, not, Option, Some, None, is_some, slice_get, refl, ap, sym, ◌∙◌, subst}
use Rattle.std.specs.List.{All, filter, filter_map, find}
use Rattle.std.specs.Option.{option_and_then, option_map, option_map_or, unwrap_or}
use Rattle.std.proofs.lemmas.Bool.{and_parts, eq-eqb, false≢true}
use Rattle.std.proofs.lemmas.List.Elements.{All-nil, All-cons}
use Rattle.std.proofs.lemmas.Option.{none-some, same_Some}
use Rattle.std.proofs.lemmas.Slice.Eq.{bytes_eq-Decides}
use Rattle.hs_expr.specs.declared.value.Value.{Value}
use Rattle.hs_types.specs.declared.graph.Slot.{Slot}
use Rattle.hs_types.specs.declared.meta.Class.{Class}
use Rattle.hs_types.specs.declared.meta.Feature.{Feature}
use Rattle.hs_types.specs.declared.meta.FeatureKind.{FeatureKind}
use Rattle.hs_types.specs.declared.meta.FeatureKind.TheVariants.{Attribute, Reference}
use Rattle.hs_types.specs.declared.meta.Metamodel.{Metamodel}
use Rattle.hs_expr.specs.Lists.{Differ, has, same_text}
use Rattle.hs_expr.proofs.Keys.{same_number}
use Rattle.hs_types.specs.Metamodel.{FeatureFits, IsMeta, attributes_of, class_at, default_of, default_of_kind, feature_at, features_of, fits, is_attribute, is_of_type, type_of, type_of_kind}
use Rattle.hs_graph.specs.declared.raw.RawAttr.{RawAttr}
use Rattle.hs_graph.specs.declared.raw.RawValue.{RawValue}
use Rattle.hs_graph.specs.declared.raw.RawValue.TheVariants.{Given, NoValue}
use Rattle.hs_graph.specs.Faults.{attr_faults_at, is_short, takes, value_faults}
use Rattle.hs_graph.specs.Lookups.{attribute_named, is_attribute_named}
use Rattle.hs_graph.specs.Meaning.{slot_for, slots_for, written_value, value_of_raw}
use Rattle.hs_graph.proofs.Clean.{not_false}
use Rattle.hs_expr.proofs.Clean.{some-not_none, no_test}
use Rattle.hs_expr.proofs.Items.{All-at, has_at}

-- ---- items of lists

-- What is found passes, and is somewhere.
pub record Found {A : Type 0} (p : A → Bool) (xs : List A) (x : A) : Type 0 where
  pub passes : p x ≡ true
  pub place : ℕ
  pub at : slice_get xs place ≡ Some x

pub found : {A : Type 0} (p : A → Bool) (xs : List A) (x : A) → find p xs ≡ Some x → Found p xs x
found p [] x e = absurd (none-some x e)
found {A} p (y ∷ ys) x e = go (found p ys x) (p y) refl e
  where
    go : (find p ys ≡ Some x → Found p ys x) → (b : Bool) → p y ≡ b → cond b (Some y) (find p ys) ≡ Some x → Found p (y ∷ ys) x
    go later true t f = let same = same_Some y x f in record { passes = ap p (sym same) ∙ t; place = 0; at = ap Some same }
    go later false t f = let rest = later f in record { passes = rest.passes; place = suc rest.place; at = rest.at }

-- ---- features by name

pub name_of : Metamodel → ℕ → Option (List ℕ)
name_of m f = option_map (λ feature. feature.name) (feature_at m f)

pub features-named : (m : Metamodel) (class : ℕ) → IsMeta m → Differ (map (λ f. option_map (λ feature. feature.name) (feature_at m f)) (features_of m class))
features-named m class is = go (class_at m class) refl
  where
    go : (o : Option Class) → class_at m class ≡ o → Differ (map (λ f. option_map (λ feature. feature.name) (feature_at m f)) (features_of m class))
    go None e = rw e tt
    go (Some c) e = rw e (All-at (λ (class : Class). Differ (map (λ f. option_map (λ feature. feature.name) (feature_at m f)) class.features)) m.classes class c is.features_differ e)

-- A feature that is found by a name has it.
pub has_name : (m : Metamodel) (test : Feature → Bool) (name : List ℕ) (f : ℕ) → option_map_or (λ feature. same_text name feature.name && test feature) (feature_at m f) false ≡ true → option_map (λ feature. feature.name) (feature_at m f) ≡ Some name
has_name m test name f e = go (feature_at m f) e
  where
    go : (o : Option Feature) → option_map_or (λ feature. same_text name feature.name && test feature) o false ≡ true → option_map (λ feature. feature.name) o ≡ Some name
    go None t = absurd (false≢true t)
    go (Some feature) t = ap Some (sym ((bytes_eq-Decides name feature.name).0 (and_parts (same_text name feature.name) (test feature) t).0))

-- Two features of one class that are found by one name are the same.
pub same_feature : (m : Metamodel) (class : ℕ) (test : Feature → Bool) (name : List ℕ) (f g : ℕ) → IsMeta m → has (features_of m class) f ≡ true → has (features_of m class) g ≡ true →
    option_map_or (λ feature. same_text name feature.name && test feature) (feature_at m f) false ≡ true → option_map_or (λ feature. same_text name feature.name && test feature) (feature_at m g) false ≡ true → f ≡ g
same_feature m class test name f g is h k s t =
    same_number (λ f. option_map (λ feature. feature.name) (feature_at m f)) (features_of m class) f g (features-named m class is) h k (has_name m test name f s ∙ sym (has_name m test name g t))

-- ---- values

-- What is written for an attribute is taken by it.
taken : (m : Metamodel) (class i : ℕ) (attrs : List RawAttr) (f : ℕ) (attr : RawAttr) → IsMeta m → has (features_of m class) f ≡ true →
    ((a : ℕ) (attr : RawAttr) → slice_get attrs a ≡ Some attr → attr_faults_at m class i a attr ≡ []) → find (λ attr. is_attribute_named m attr.name f) attrs ≡ Some attr → takes m f attr.value ≡ true
taken m class i attrs f attr is h clean e = go (attribute_named m class attr.name) refl
  where
    go : (o : Option ℕ) → attribute_named m class attr.name ≡ o → takes m f attr.value ≡ true
    go None at =
        let here = found (λ attr. is_attribute_named m attr.name f) attrs attr e in
        absurd (some-not_none _ [] (sym (ap (value_faults m i here.place attr.value) at) ∙ clean here.place attr here.at))
    go (Some g) at =
        let here = found (λ attr. is_attribute_named m attr.name f) attrs attr e in
        let there = found (is_attribute_named m attr.name) (features_of m class) g at in
        let same : g ≡ f = same_feature m class is_attribute attr.name g f is (has_at (features_of m class) there.place g there.at) h there.passes here.passes in
        let fine : takes m g attr.value ≡ true = not_false _ (no_test (not (takes m g attr.value)) _ (sym (ap (value_faults m i here.place attr.value) at) ∙ clean here.place attr here.at)) in
        subst (λ k. takes m k attr.value ≡ true) same fine

default-fits : (m : Metamodel) (f : ℕ) (v : Value) → IsMeta m → default_of m f ≡ Some v → fits m f v ≡ true
default-fits m f v is e = go (feature_at m f) refl
  where
    of_kind : (kind : FeatureKind) → FeatureFits m kind → default_of_kind kind ≡ Some v → unwrap_or (option_map (λ data_type. is_of_type data_type v) (type_of_kind kind)) false ≡ true
    of_kind (Attribute data_type default) sound d = subst (λ w. is_of_type data_type w ≡ true) (same_Some default v d) sound
    of_kind (Reference target containment lower upper) sound d = absurd (none-some v d)

    go : (o : Option Feature) → feature_at m f ≡ o → fits m f v ≡ true
    go None at = absurd (none-some v (sym (ap (option_and_then (λ (feature : Feature). default_of_kind feature.kind)) at) ∙ e))
    go (Some feature) at =
        let sound = All-at (λ (feature : Feature). FeatureFits m feature.kind) m.features f feature is.features_sound at in
        rw at (of_kind feature.kind sound (sym (ap (option_and_then (λ (feature : Feature). default_of_kind feature.kind)) at) ∙ e))

-- The value of a slot, written or default.
value-fits : (m : Metamodel) (class i : ℕ) (attrs : List RawAttr) (f : ℕ) (default : Value) → IsMeta m → has (features_of m class) f ≡ true →
    ((a : ℕ) (attr : RawAttr) → slice_get attrs a ≡ Some attr → attr_faults_at m class i a attr ≡ []) → default_of m f ≡ Some default → fits m f (unwrap_or (written_value m attrs f) default) ≡ true
value-fits m class i attrs f default is h clean d = go (find (λ attr. is_attribute_named m attr.name f) attrs) refl
  where
    given : (written : RawValue) → takes m f written ≡ true → fits m f (unwrap_or (value_of_raw written) default) ≡ true
    given (Given v) t = (and_parts (fits m f v) (is_short v) t).0
    given NoValue t = absurd (false≢true t)

    go : (o : Option RawAttr) → find (λ attr. is_attribute_named m attr.name f) attrs ≡ o → fits m f (unwrap_or (option_and_then (λ (attr : RawAttr). value_of_raw attr.value) (find (λ attr. is_attribute_named m attr.name f) attrs)) default) ≡ true
    go None at = subst (λ (o : Option RawAttr). fits m f (unwrap_or (option_and_then (λ (attr : RawAttr). value_of_raw attr.value) o) default) ≡ true) (sym at) (default-fits m f default is d)
    go (Some attr) at = subst (λ (o : Option RawAttr). fits m f (unwrap_or (option_and_then (λ (attr : RawAttr). value_of_raw attr.value) o) default) ≡ true) (sym at) (given attr.value (taken m class i attrs f attr is h clean at))

-- ---- slots

-- A feature has a default exactly where it has a type.
kinds : (m : Metamodel) (f : ℕ) → is_some (type_of m f) ≡ is_some (default_of m f)
kinds m f = go (feature_at m f)
  where
    of_kind : (kind : FeatureKind) → is_some (type_of_kind kind) ≡ is_some (default_of_kind kind)
    of_kind (Attribute data_type default) = refl
    of_kind (Reference target containment lower upper) = refl

    go : (o : Option Feature) → is_some (option_and_then (λ (feature : Feature). type_of_kind feature.kind) o) ≡ is_some (option_and_then (λ (feature : Feature). default_of_kind feature.kind) o)
    go None = refl
    go (Some feature) = of_kind feature.kind

slots-attributes : (m : Metamodel) (attrs : List RawAttr) (fs : List ℕ) → map (λ (slot : Slot). slot.attribute) (filter_map (slot_for m attrs) fs) ≡ filter (λ f. is_some (type_of m f)) fs
slots-attributes m attrs [] = refl
slots-attributes m attrs (f ∷ fs) =
    go (slots-attributes m attrs fs) (default_of m f) refl
  where
    go : map (λ (slot : Slot). slot.attribute) (filter_map (slot_for m attrs) fs) ≡ filter (λ f. is_some (type_of m f)) fs → (o : Option Value) → default_of m f ≡ o → map (λ (slot : Slot). slot.attribute) (filter_map (slot_for m attrs) (f ∷ fs)) ≡ filter (λ f. is_some (type_of m f)) (f ∷ fs)
    go rest None e = rw (kinds m f, e) rest
    go rest (Some v) e = rw (kinds m f, e) (ap (λ ns. f ∷ ns) rest)

-- Each slot fits its attribute.
slots-fit : (m : Metamodel) (class i : ℕ) (attrs : List RawAttr) (fs : List ℕ) → IsMeta m → ((f : ℕ) → has fs f ≡ true → has (features_of m class) f ≡ true) →
    ((a : ℕ) (attr : RawAttr) → slice_get attrs a ≡ Some attr → attr_faults_at m class i a attr ≡ []) → All (λ (slot : Slot). fits m slot.attribute slot.value ≡ true) (filter_map (slot_for m attrs) fs)
slots-fit m class i attrs [] is h clean = All-nil (λ slot. fits m slot.attribute slot.value ≡ true)
slots-fit m class i attrs (f ∷ fs) is h clean =
    go (slots-fit m class i attrs fs is (λ k t. h k (later k t)) clean) (default_of m f) refl
  where
    here : has (f ∷ fs) f ≡ true
    here = rw (eq-eqb f f refl) refl

    later : (k : ℕ) → has fs k ≡ true → has (f ∷ fs) k ≡ true
    later k t = or_true (eqb k f) (has fs k) t
      where
        or_true : (a b : Bool) → b ≡ true → (a || b) ≡ true
        or_true true b t = refl
        or_true false b t = t

    go : All (λ (slot : Slot). fits m slot.attribute slot.value ≡ true) (filter_map (slot_for m attrs) fs) → (o : Option Value) → default_of m f ≡ o → All (λ (slot : Slot). fits m slot.attribute slot.value ≡ true) (filter_map (slot_for m attrs) (f ∷ fs))
    go rest None e = rw e rest
    go rest (Some v) e = rw e (All-cons (λ (slot : Slot). fits m slot.attribute slot.value ≡ true) (record { attribute = f; value = unwrap_or (written_value m attrs f) v }) (filter_map (slot_for m attrs) fs) (value-fits m class i attrs f v is (h f here) clean e) rest)

pub slots-whole : (m : Metamodel) (class : ℕ) (attrs : List RawAttr) → map (λ (slot : Slot). slot.attribute) (slots_for m class attrs) ≡ attributes_of m class
slots-whole m class attrs = slots-attributes m attrs (features_of m class)

pub slots-sound : (m : Metamodel) (class i : ℕ) (attrs : List RawAttr) → IsMeta m → ((a : ℕ) (attr : RawAttr) → slice_get attrs a ≡ Some attr → attr_faults_at m class i a attr ≡ []) → All (λ (slot : Slot). fits m slot.attribute slot.value ≡ true) (slots_for m class attrs)
slots-sound m class i attrs is clean = slots-fit m class i attrs (features_of m class) is (λ f t. t) clean
