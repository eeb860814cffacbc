-- The features that written classes mean: whose they are, how they are numbered, and in which order they are.
use Rattle.std.proofs.Common.{ℕ, zero, suc, ℤ, pos, negsuc, ◌+◌, ◌<◌, ◌≤◌, ◌≡◌, ◌++◌, List, [], ◌∷◌, Bool, true, false, eqb, nat_lt, nat_le, map, length, get_or, slice_get, Option, Some, None, IfSome, is_some, refl, ap, sym, ◌∙◌, arith, inl, inr, length-append, append-nil, zero-add}
use Rattle.std.proofs.lemmas.Bool.{false≢true, and_parts, both_ways, eq-eqb, eqb-true, ltb-true, leb-true, ne_eqb}
use Rattle.std.proofs.lemmas.List.{length-map}
use Rattle.std.proofs.lemmas.List.Elements.{All-append, All-map}
use Rattle.std.proofs.lemmas.Option.{slice_get_within}
use Rattle.std.specs.List.{All, AllPairs, range_with_len}
use Rattle.std.specs.Option.{option_map_or, unwrap_or}
use Rattle.hs_expr.specs.Verdict.{each_from}
use Rattle.hs_types.specs.declared.meta.DataType.{DataType}
use Rattle.hs_types.specs.declared.meta.DataType.TheVariants.{EInt, ELong, EBoolean, EString}
use Rattle.hs_types.specs.declared.meta.Feature.{Feature}
use Rattle.hs_expr.specs.Lists.{Differ, EachPair, has, places_from, same_text}
use Rattle.hs_types.specs.Metamodel.{FeatureFits, StandBefore, feature_at, is_attribute, is_of_type, owned_by}
use Rattle.hs_meta.specs.declared.raw.RawAttribute.{RawAttribute}
use Rattle.hs_meta.specs.declared.raw.RawClass.{RawClass}
use Rattle.hs_meta.specs.declared.raw.RawDefault.{RawDefault}
use Rattle.hs_meta.specs.declared.raw.RawDefault.TheVariants.{LeftOut, Given, NoValue}
use Rattle.hs_meta.specs.declared.raw.RawMeta.{RawMeta}
use Rattle.hs_meta.specs.declared.raw.RawReference.{RawReference}
use Rattle.hs_meta.specs.Faults as spec
use Rattle.hs_meta.specs.Meaning.{attribute_of_raw, default_value, least, metamodel_of, most, own_count, own_features, own_numbers, own_numbers_from, plain_value, reference_of_raw}
use Rattle.hs_meta.specs.Names.{raw_class_number, data_type_named}
use Rattle.hs_meta.proofs.Items as items
use Rattle.hs_meta.proofs.MeantMeta.{classes_long}
use Rattle.hs_meta.proofs.Soundness.{AreSound}
use Rattle.hs_meta.proofs.Standing.{named_within}
use Rattle.hs_expr.proofs.Items.{All-across, EachPair-all, All-from, All-each_from, is_some-position}
use Rattle.hs_expr.proofs.Lists.{EachPair-append}

-- What the attributes of a class mean has a fact that each of them has, and what its references mean likewise.
All-own : (all : List RawClass) (P : Feature → Type 0) (k : ℕ) (class : RawClass) → ((a : ℕ) (attribute : RawAttribute) → slice_get class.attributes a ≡ Some attribute → P (attribute_of_raw k attribute)) →
    ((r : ℕ) (reference : RawReference) → slice_get class.references r ≡ Some reference → P (reference_of_raw all k reference)) → All P (own_features all k class)
All-own all P k class of_attributes of_references =
    All-append P (map (attribute_of_raw k) class.attributes) (map (reference_of_raw all k) class.references)
    (All-map P (attribute_of_raw k) class.attributes (All-from (λ attribute. P (attribute_of_raw k attribute)) class.attributes of_attributes))
    (All-map P (reference_of_raw all k) class.references (All-from (λ reference. P (reference_of_raw all k reference)) class.references of_references))

pub All-owned : (all : List RawClass) (P : Feature → Type 0) (k : ℕ) (class : RawClass) → ((feature : Feature) → feature.owner ≡ k → P feature) → All P (own_features all k class)
All-owned all P k class h = All-own all P k class (λ a attribute at. h (attribute_of_raw k attribute) refl) (λ r reference at. h (reference_of_raw all k reference) refl)

own_features_long : (all : List RawClass) (k : ℕ) (class : RawClass) → length (own_features all k class) ≡ own_count class
own_features_long all k class =
    length-append (map (attribute_of_raw k) class.attributes) (map (reference_of_raw all k) class.references)
    ∙ ap (λ n. n + length (map (reference_of_raw all k) class.references)) (length-map class.attributes (attribute_of_raw k))
    ∙ ap (λ n. length class.attributes + n) (length-map class.references (reference_of_raw all k))

-- ---- owners

owned_later : (all : List RawClass) (k : ℕ) (classes : List RawClass) (P : Feature → Type 0) → ((feature : Feature) → k ≤ feature.owner → feature.owner < k + length classes → P feature) → All P (each_from (own_features all) k classes)
owned_later all k classes P h = All-each_from P (own_features all) k classes
    (λ i class at. let low = slice_get_within classes i class at in All-owned all P (k + i) class (λ feature same. h feature (omega arith) (omega arith)))

pub owners_stand : (raw : RawMeta) → All (λ feature. feature.owner < length (metamodel_of raw).classes) (metamodel_of raw).features
owners_stand raw = owned_later raw.classes 0 raw.classes (λ feature. feature.owner < length (metamodel_of raw).classes) (λ feature from below. omega (arith, classes_long raw))

owned_places : (all : List RawClass) (n k j : ℕ) (classes : List RawClass) → places_from n (λ feature. eqb feature.owner (k + j)) (each_from (own_features all) k classes) ≡ get_or (own_numbers_from n classes) j []
owned_places all n k j [] = refl
owned_places all n k zero (class ∷ classes) =
    let own = own_features all k class in
    let later = each_from (own_features all) (k + 1) classes in
    let test : Feature → Bool = λ feature. eqb feature.owner (k + 0) in
    let these : places_from n test own ≡ range_with_len n (length own) = items.places-every n test own (All-owned all (λ feature. test feature ≡ true) k class (λ feature same. eq-eqb feature.owner (k + 0) (omega arith))) in
    let none : places_from (n + length own) test later ≡ [] =
    items.places-none (n + length own) test later (owned_later all (k + 1) classes (λ feature. test feature ≡ false) (λ feature from below. ne_eqb feature.owner (k + 0) (λ same. absurd (omega arith)))) in
    items.places-append n test own later ∙ ap (λ ks. ks ++ places_from (n + length own) test later) these ∙ ap (λ ks. range_with_len n (length own) ++ ks) none
    ∙ append-nil (range_with_len n (length own)) ∙ ap (range_with_len n) (own_features_long all k class)
owned_places all n k (suc j) (class ∷ classes) =
    let own = own_features all k class in
    let later = each_from (own_features all) (k + 1) classes in
    let test : Feature → Bool = λ feature. eqb feature.owner (k + suc j) in
    let none : places_from n test own ≡ [] = items.places-none n test own (All-owned all (λ feature. test feature ≡ false) k class (λ feature same. ne_eqb feature.owner (k + suc j) (λ e. absurd (omega arith)))) in
    items.places-append n test own later ∙ ap (λ ks. ks ++ places_from (n + length own) test later) none
    ∙ ap (λ i. places_from (n + i) test later) (own_features_long all k class)
    ∙ ap (λ i. places_from (n + own_count class) (λ (feature : Feature). eqb feature.owner i) later) (let e : k + suc j ≡ k + 1 + j = omega arith in e)
    ∙ owned_places all (n + own_count class) (k + 1) j classes

-- The features that a class owns go by the numbers that it owns.
pub owned_is : (raw : RawMeta) (c : ℕ) → owned_by (metamodel_of raw) c ≡ get_or (own_numbers raw.classes) c []
owned_is raw c =
    ap (λ i. places_from 0 (λ (feature : Feature). eqb feature.owner i) (metamodel_of raw).features) (sym (zero-add c)) ∙ owned_places raw.classes 0 0 c raw.classes

Differ-own_from : (first j : ℕ) (classes : List RawClass) → Differ (get_or (own_numbers_from first classes) j [])
Differ-own_from first j [] = tt
Differ-own_from first zero (class ∷ classes) = items.Differ-range first (own_count class)
Differ-own_from first (suc j) (class ∷ classes) = Differ-own_from (first + own_count class) j classes

pub Differ-own : (classes : List RawClass) (c : ℕ) → Differ (get_or (own_numbers classes) c [])
Differ-own classes c = Differ-own_from 0 c classes

-- A number that a class owns is that of a feature of this owner.
pub owner_of : (raw : RawMeta) (c f : ℕ) → has (get_or (own_numbers raw.classes) c []) f ≡ true → (feature : Feature) × (feature_at (metamodel_of raw) f ≡ Some feature) × (feature.owner ≡ c)
owner_of raw c f e =
    let found = items.place_at (λ (feature : Feature). eqb feature.owner c) (metamodel_of raw).features f (ap (λ ns. has ns f) (owned_is raw c) ∙ e) in
    (found.0, found.1, eqb-true found.0.owner c found.2)

-- ---- what fits

plain_fits : (data_type : DataType) → is_of_type data_type (plain_value data_type) ≡ true
plain_fits EInt = refl
plain_fits ELong = refl
plain_fits EBoolean = refl
plain_fits EString = refl

default_fits : (name : List ℕ) (found : Option DataType) (default : RawDefault) → data_type_named name ≡ found → is_some found ≡ true → spec.default_fits name default ≡ true →
    is_of_type (unwrap_or found EString) (default_value (unwrap_or found EString) default) ≡ true
default_fits name None default is known fits = absurd (false≢true known)
default_fits name (Some data_type) LeftOut is known fits = plain_fits data_type
default_fits name (Some data_type) (Given value) is known fits = sym (ap (λ found. option_map_or (λ known. is_of_type known value) found true) is) ∙ fits
default_fits name (Some data_type) NoValue is known fits = absurd (false≢true fits)

bounded : (lower upper : ℤ) → spec.bounds_fit lower upper ≡ true → IfSome (most upper) (λ bound. (0 < bound) × (least lower ≤ bound))
bounded (pos lower) (pos upper) e = let parts = and_parts (nat_lt 0 upper) (nat_le lower upper) e in (ltb-true 0 upper parts.0, leb-true lower upper parts.1)
bounded (pos lower) (negsuc n) e = tt
bounded (negsuc n) upper e = absurd (false≢true e)

target_within : (classes : List RawClass) (name : List ℕ) (found : Option ℕ) → raw_class_number classes name ≡ found → is_some found ≡ true → unwrap_or found 0 < length classes
target_within classes name None is known = absurd (false≢true known)
target_within classes name (Some c) is known = named_within classes name c is

pub features_sound : (raw : RawMeta) → AreSound raw.classes → All (λ feature. FeatureFits (metamodel_of raw) feature.kind) (metamodel_of raw).features
features_sound raw s = All-each_from (λ (feature : Feature). FeatureFits (metamodel_of raw) feature.kind) (own_features raw.classes) 0 raw.classes
    (λ c class at. All-own raw.classes (λ (feature : Feature). FeatureFits (metamodel_of raw) feature.kind) (0 + c) class
    (λ a attribute here. default_fits attribute.data_type (data_type_named attribute.data_type) attribute.default refl (s.types c class at a attribute here) (s.defaults c class at a attribute here))
    (λ r reference here. (
      let low = target_within raw.classes reference.target (raw_class_number raw.classes reference.target) refl (is_some-position (λ (class : RawClass). same_text class.name reference.target) raw.classes ∙ s.targets c class at r reference here) in omega (arith, low, classes_long raw),
      bounded reference.lower reference.upper (s.bounds c class at r reference here),
    )))

-- ---- the order

own_in_order : (all : List RawClass) (k : ℕ) (class : RawClass) → EachPair StandBefore (own_features all k class)
own_in_order all k class =
    let of_class : Feature → Type 0 = λ feature. feature.owner ≡ k in
    let attributes : Feature → Type 0 = λ feature. (feature.owner ≡ k) × (is_attribute feature ≡ true) in
    let references : Feature → Type 0 = λ feature. (feature.owner ≡ k) × (is_attribute feature ≡ false) in
    let first = map (attribute_of_raw k) class.attributes in
    let second = map (reference_of_raw all k) class.references in
    let each_first : All attributes first = All-map attributes (attribute_of_raw k) class.attributes (λ i d low. (refl, refl)) in
    let each_second : All references second = All-map references (reference_of_raw all k) class.references (λ i d low. (refl, refl)) in
    EachPair-append StandBefore first second
    (EachPair-all StandBefore attributes (λ f g a b. inr (a.0 ∙ sym b.0, λ e. a.1)) first each_first)
    (EachPair-all StandBefore references (λ f g a b. inr (a.0 ∙ sym b.0, λ e. absurd (both_ways (is_attribute g) b.1 e))) second each_second)
    (All-across StandBefore attributes references (λ f g a b. inr (a.0 ∙ sym b.0, λ e. a.1)) first second each_first each_second)

all_in_order : (all : List RawClass) (k : ℕ) (classes : List RawClass) → EachPair StandBefore (each_from (own_features all) k classes)
all_in_order all k [] = tt
all_in_order all k (class ∷ classes) =
    EachPair-append StandBefore (own_features all k class) (each_from (own_features all) (k + 1) classes) (own_in_order all k class) (all_in_order all (k + 1) classes)
    (All-across StandBefore (λ feature. feature.owner ≡ k) (λ feature. k < feature.owner) (λ f g a b. inl (omega arith)) (own_features all k class) (each_from (own_features all) (k + 1) classes)
    (All-owned all (λ feature. feature.owner ≡ k) k class (λ feature same. same))
    (owned_later all (k + 1) classes (λ feature. k < feature.owner) (λ feature from below. omega arith)))

pub features_in_order : (raw : RawMeta) → AllPairs StandBefore (metamodel_of raw).features
features_in_order raw = items.AllPairs-from StandBefore (metamodel_of raw).features (all_in_order raw.classes 0 raw.classes)
