-- What written classes without a fault mean is a metamodel that keeps the limits.
use Rattle.std.proofs.Common.{ℕ, zero, suc, ◌+◌, ◌<◌, ◌≤◌, ◌≡◌, ◌⊎◌, ◌++◌, List, [], ◌∷◌, Bool, true, false, not, cond, eqb, map, length, get_or, slice_get, Option, Some, IsSomeAnd, refl, ap, sym, ◌∙◌, subst, arith, inl, inr, if◌then◌else◌}
use Rattle.std.proofs.lemmas.Bool.{and_parts, both_ways, cases_lt, cases_order, eq-eqb, not-true, or_cases, or_left, or_right}
use Rattle.std.proofs.lemmas.List.{get_or_past, length-map, map-append}
use Rattle.std.proofs.lemmas.List.Elements.{All-head, All-tail, filter-append}
use Rattle.std.proofs.lemmas.Option.{same_Some}
use Rattle.std.proofs.lemmas.Slice.Eq.{bytes_eq-Decides}
use Rattle.std.specs.List.{All, filter, flat_map, list_any}
use Rattle.std.specs.Option.{option_map, unwrap_or}
use Rattle.hs_expr.specs.Verdict.{each_from}
use Rattle.hs_types.specs.declared.meta.Class.{Class}
use Rattle.hs_types.specs.declared.meta.Feature.{Feature}
use Rattle.hs_types.specs.Limits.{IsSmallMeta}
use Rattle.hs_expr.specs.Lists.{Differ, each_once, has, places, same_text}
use Rattle.hs_types.specs.Metamodel.{IsMeta, class_at, feature_at, features_of, owned_by}
use Rattle.hs_meta.specs.declared.raw.RawAttribute.{RawAttribute}
use Rattle.hs_meta.specs.declared.raw.RawClass.{RawClass}
use Rattle.hs_meta.specs.declared.raw.RawMeta.{RawMeta}
use Rattle.hs_meta.specs.declared.raw.RawReference.{RawReference}
use Rattle.hs_meta.specs.Faults as spec
use Rattle.hs_meta.specs.Meaning.{attribute_of_raw, direct_supers, features_at, features_within, metamodel_of, own_features, own_numbers, reference_of_raw}
use Rattle.hs_meta.specs.Names.{differ}
use Rattle.hs_meta.specs.Ranks.{ranks}
use Rattle.hs_types.specs.Reachability.{reach_rows}
use Rattle.hs_types.specs.Reachability.{Reaches, by_way_of, direct, reaches}
use Rattle.hs_types.specs.Metamodel.{conforms}
use Rattle.hs_meta.specs.WrittenSupers.{written_supers}
use Rattle.hs_types.proofs.Paths.{says_reaches}
use Rattle.hs_meta.proofs.Items as items
use Rattle.hs_meta.proofs.MeantFeatures.{All-owned, Differ-own, features_in_order, features_sound, owned_is, owner_of, owners_stand}
use Rattle.hs_meta.proofs.MeantMeta.{All-classes, class_meant, classes_long, names_differ, never_itself, supers_stand, without_cycle}
use Rattle.hs_meta.proofs.Order.{rank_low, ranked}
use Rattle.hs_meta.proofs.Ranked.{flat_map_agree, steady}
use Rattle.hs_meta.proofs.Soundness.{AreSound, sound}
use Rattle.hs_meta.proofs.Standing.{class_at as class_with, no_cycle, stand_within, supers_at}
use Rattle.hs_types.proofs.Edges.{edge-from_test}
use Rattle.hs_expr.proofs.Items.{Differ-from, Differ-at, has-append, has_at}
use Rattle.hs_expr.proofs.Lists.{EachPair-append, All-by_has}

-- ---- the features of a class

rank_of_each : (classes : List RawClass) (c : ℕ) → get_or (ranks (reach_rows (written_supers classes))) c 0 ≤ length classes
rank_of_each classes c =
    let supers = written_supers classes in
    let long = length-map classes (direct_supers classes) in
    elim (cases_lt c (length (ranks (reach_rows supers)))) [
      | inl low ↦ omega (arith, rank_low supers c 0 low)
      | inr past ↦ omega (arith, get_or_past (ranks (reach_rows supers)) c 0 past)
    ]

-- The features of a class are those of its supertypes, each once, and its own.
pub features_law : (classes : List RawClass) → AreSound classes → (c : ℕ) → features_at classes c ≡ each_once (flat_map (features_at classes) (get_or (written_supers classes) c [])) ++ get_or (own_numbers classes) c []
features_law classes s c =
    sym (steady (written_supers classes) (own_numbers classes) (ranks (reach_rows (written_supers classes))) (ranked (written_supers classes) (stand_within classes) (no_cycle classes s)) (length classes) c (rank_of_each classes c))

features_meant : (raw : RawMeta) (c : ℕ) (class : RawClass) → slice_get raw.classes c ≡ Some class → features_of (metamodel_of raw) c ≡ features_at raw.classes c
features_meant raw c class at = ap (λ found. unwrap_or (option_map (λ (class : Class). class.features) found) []) (class_meant raw c class at)

features_whole : (raw : RawMeta) → AreSound raw.classes → (c : ℕ) → c < length (metamodel_of raw).classes → IsSomeAnd (class_at (metamodel_of raw) c) (λ class. class.features ≡ each_once (flat_map (features_of (metamodel_of raw)) class.supers) ++ owned_by (metamodel_of raw) c)
features_whole raw s c low =
    let classes = raw.classes in
    let class = class_with classes c (omega (arith, low, classes_long raw)) in
    let supers : get_or (written_supers classes) c [] ≡ direct_supers classes class.0 = supers_at classes c class.0 class.1 in
    let same : (d : ℕ) → has (direct_supers classes class.0) d ≡ true → features_at classes d ≡ features_of (metamodel_of raw) d =
    λ d e. let below = stand_within classes c d (ap (λ ns. has ns d) supers ∙ e) in
    let super = class_with classes d (omega (arith, below, length-map classes (direct_supers classes))) in sym (features_meant raw d super.0 super.1) in
    subst (λ (found : Option Class). IsSomeAnd found (λ class. class.features ≡ each_once (flat_map (features_of (metamodel_of raw)) class.supers) ++ owned_by (metamodel_of raw) c)) (sym (class_meant raw c class.0 class.1))
    (features_law classes s c
    ∙ ap (λ ds. each_once (flat_map (features_at classes) ds) ++ get_or (own_numbers classes) c []) supers
    ∙ ap (λ ns. each_once ns ++ get_or (own_numbers classes) c []) (flat_map_agree (features_at classes) (features_of (metamodel_of raw)) (direct_supers classes class.0) same)
    ∙ ap (λ ns. each_once (flat_map (features_of (metamodel_of raw)) (direct_supers classes class.0)) ++ ns) (sym (owned_is raw c)))

-- ---- which features a class has

-- Each feature of a class is owned by it or by a class that it is below.
reached : (classes : List RawClass) (steps c f : ℕ) → has (features_within (written_supers classes) (own_numbers classes) steps c) f ≡ true →
    (d : ℕ) × ((c ≡ d) ⊎ Reaches (written_supers classes) c d) × (has (get_or (own_numbers classes) d []) f ≡ true)
reached classes zero c f e = (c, inl refl, e)
reached classes (suc steps) c f e =
    let supers = get_or (written_supers classes) c [] in
    let before : ℕ → List ℕ = features_within (written_supers classes) (own_numbers classes) steps in
    let own = get_or (own_numbers classes) c [] in
    go (or_cases (has (each_once (flat_map before supers)) f) (has own f) (sym (has-append (each_once (flat_map before supers)) own f) ∙ e)) (λ s. reached classes steps s f)
  where
    go : (has (each_once (flat_map (features_within (written_supers classes) (own_numbers classes) steps) (get_or (written_supers classes) c []))) f ≡ true) ⊎ (has (get_or (own_numbers classes) c []) f ≡ true) →
        ((s : ℕ) → has (features_within (written_supers classes) (own_numbers classes) steps s) f ≡ true → (d : ℕ) × ((s ≡ d) ⊎ Reaches (written_supers classes) s d) × (has (get_or (own_numbers classes) d []) f ≡ true)) →
        (d : ℕ) × ((c ≡ d) ⊎ Reaches (written_supers classes) c d) × (has (get_or (own_numbers classes) d []) f ≡ true)
    go (inl inherited) later =
        let found = items.has-flat_map (features_within (written_supers classes) (own_numbers classes) steps) (get_or (written_supers classes) c []) f (items.has-each_once (flat_map (features_within (written_supers classes) (own_numbers classes) steps) (get_or (written_supers classes) c [])) f inherited) in
        let owner = later found.0 found.2 in
        let is = edge-from_test (written_supers classes) c found.0 found.1 in (
          owner.0,
          elim owner.1 [
            | inl same ↦ inr (subst (λ k. Reaches (written_supers classes) c k) same (direct c found.0 is))
            | inr below ↦ inr (by_way_of c found.0 owner.0 is below)
          ],
          owner.2,
        )
    go (inr own) later = (c, inl refl, own)

-- No feature comes twice.
features_once : (raw : RawMeta) → AreSound raw.classes → (c : ℕ) → Differ (features_at raw.classes c)
features_once raw s c =
    let classes = raw.classes in
    let supers = get_or (written_supers classes) c [] in
    let inherited = each_once (flat_map (features_at classes) supers) in
    let own = get_or (own_numbers classes) c [] in
    subst (λ (ns : List ℕ). Differ ns) (sym (features_law classes s c))
    (EachPair-append (λ f g. f ≡ g → ⊥) inherited own (items.Differ-each_once (flat_map (features_at classes) supers)) (Differ-own classes c)
    (All-by_has (λ f. All (λ g. f ≡ g → ⊥) own) inherited (λ f e. All-by_has (λ g. f ≡ g → ⊥) own (λ g h same. apart f e g h same))))
  where
    -- What is inherited is owned by a class that this one is below, so not by itself.
    apart : (f : ℕ) → has (each_once (flat_map (features_at raw.classes) (get_or (written_supers raw.classes) c []))) f ≡ true → (g : ℕ) → has (get_or (own_numbers raw.classes) c []) g ≡ true → f ≡ g → ⊥
    apart f e g h same =
        let found = items.has-flat_map (features_at raw.classes) (get_or (written_supers raw.classes) c []) f (items.has-each_once (flat_map (features_at raw.classes) (get_or (written_supers raw.classes) c [])) f e) in
        let owner = reached raw.classes (length raw.classes) found.0 f found.2 in
        let is = edge-from_test (written_supers raw.classes) c found.0 found.1 in
        let below : Reaches (written_supers raw.classes) c owner.0 = elim owner.1 [
          | inl there ↦ subst (λ k. Reaches (written_supers raw.classes) c k) there (direct c found.0 is)
          | inr further ↦ by_way_of c found.0 owner.0 is further
        ] in
        let a = owner_of raw owner.0 f owner.2 in
        let b = owner_of raw c g h in
        let one : a.0 ≡ b.0 = same_Some a.0 b.0 (sym a.1 ∙ ap (feature_at (metamodel_of raw)) same ∙ b.1) in
        let itself : owner.0 ≡ c = sym a.2 ∙ ap (λ (feature : Feature). feature.owner) one ∙ b.2 in
        never_itself raw s c (subst (λ k. Reaches (written_supers raw.classes) c k) itself below)

-- A feature that a class has is owned by a class that it conforms to.
abbrev is_of : List RawClass → ℕ → Feature → Bool
is_of classes c feature = conforms (written_supers classes) c feature.owner

feature_of : (raw : RawMeta) (c f : ℕ) → has (features_at raw.classes c) f ≡ true → (feature : Feature) × (feature_at (metamodel_of raw) f ≡ Some feature) × (is_of raw.classes c feature ≡ true)
feature_of raw c f e =
    let owner = reached raw.classes (length raw.classes) c f e in
    let found = owner_of raw owner.0 f owner.2 in
    let conforms_to : conforms (written_supers raw.classes) c owner.0 ≡ true = elim owner.1 [
      | inl same ↦ or_left (eqb c owner.0) (reaches (written_supers raw.classes) c owner.0) (eq-eqb c owner.0 same)
      | inr below ↦ or_right (eqb c owner.0) (reaches (written_supers raw.classes) c owner.0) ((says_reaches (written_supers raw.classes) c owner.0).1 below)
    ] in
    (found.0, found.1, ap (conforms (written_supers raw.classes) c) found.2 ∙ conforms_to)

-- ---- the names of features

filter_same : {A : Type 0} (p : A → Bool) (b : Bool) (xs : List A) → All (λ x. p x ≡ b) xs → filter p xs ≡ (if b then xs else [])
filter_same p true [] a = refl
filter_same p false [] a = refl
filter_same p true (x ∷ xs) a = rw (All-head (λ x. p x ≡ true) x xs a) (ap (λ ys. x ∷ ys) (filter_same p true xs (All-tail (λ x. p x ≡ true) x xs a)))
filter_same p false (x ∷ xs) a = rw (All-head (λ x. p x ≡ false) x xs a) (filter_same p false xs (All-tail (λ x. p x ≡ false) x xs a))

map-map : {A B C : Type 0} (g : B → C) (f : A → B) (h : A → C) → ((x : A) → g (f x) ≡ h x) → (xs : List A) → map g (map f xs) ≡ map h xs
map-map g f h e [] = refl
map-map g f h e (x ∷ xs) = ap (λ y. y ∷ map g (map f xs)) (e x) ∙ ap (λ ys. h x ∷ ys) (map-map g f h e xs)

own_names : (all : List RawClass) (k : ℕ) (class : RawClass) → map (λ feature. feature.name) (own_features all k class) ≡ spec.own_names class
own_names all k class =
    map-append (λ (feature : Feature). feature.name) (map (attribute_of_raw k) class.attributes) (map (reference_of_raw all k) class.references)
    ∙ ap (λ ts. ts ++ map (λ (feature : Feature). feature.name) (map (reference_of_raw all k) class.references)) (map-map (λ (feature : Feature). feature.name) (attribute_of_raw k) (λ (a : RawAttribute). a.name) (λ a. refl) class.attributes)
    ∙ ap (λ ts. map (λ (a : RawAttribute). a.name) class.attributes ++ ts) (map-map (λ (feature : Feature). feature.name) (reference_of_raw all k) (λ (r : RawReference). r.name) (λ r. refl) class.references)

if_map : (b : Bool) (fs : List Feature) → map (λ feature. feature.name) (if b then fs else []) ≡ (if b then map (λ feature. feature.name) fs else [])
if_map true fs = refl
if_map false fs = refl

names_of : (all : List RawClass) (c k : ℕ) (classes : List RawClass) →
    each_from (λ d class. if conforms (written_supers all) c d then spec.own_names class else []) k classes ≡ map (λ feature. feature.name) (filter (is_of all c) (each_from (own_features all) k classes))
names_of all c k [] = refl
names_of all c k (class ∷ classes) =
    let own = own_features all k class in
    let later = each_from (own_features all) (k + 1) classes in
    let test : Bool = conforms (written_supers all) c k in
    let here : map (λ feature. feature.name) (filter (is_of all c) own) ≡ (if test then spec.own_names class else []) =
    ap (map (λ (feature : Feature). feature.name)) (filter_same (is_of all c) test own (All-owned all (λ feature. is_of all c feature ≡ test) k class (λ feature same. ap (conforms (written_supers all) c) same)))
    ∙ if_map test own ∙ ap (λ ts. if test then ts else []) (own_names all k class) in
    ap (λ ts. (if test then spec.own_names class else []) ++ ts) (names_of all c (k + 1) classes)
    ∙ ap (λ ts. ts ++ map (λ (feature : Feature). feature.name) (filter (is_of all c) later)) (sym here)
    ∙ sym (ap (map (λ (feature : Feature). feature.name)) (filter-append (is_of all c) own later) ∙ map-append (λ (feature : Feature). feature.name) (filter (is_of all c) own) (filter (is_of all c) later))

-- The names that the checks look at are those of the features that are owned by a class that this one conforms to.
names_are : (raw : RawMeta) (c : ℕ) → spec.feature_names raw.classes c ≡ map (λ feature. feature.name) (filter (is_of raw.classes c) (metamodel_of raw).features)
names_are raw c = names_of raw.classes c 0 raw.classes

-- Where the names of all that pass differ, two that pass have two names.
two_names : (p : Feature → Bool) (fs : List Feature) → differ (map (λ feature. feature.name) (filter p fs)) ≡ true → (i j : ℕ) (f g : Feature) → i < j → slice_get fs i ≡ Some f → slice_get fs j ≡ Some g → p f ≡ true → p g ≡ true → f.name ≡ g.name → ⊥
two_names p [] d i j f g low at_i at_j pass_f pass_g same = cc
two_names p (h ∷ fs) d i zero f g low at_i at_j pass_f pass_g same = absurd (omega arith)
two_names p (h ∷ fs) d zero (suc j) f g low at_i at_j pass_f pass_g same =
    let first : h ≡ f = same_Some h f at_i in
    let split : differ (f.name ∷ map (λ feature. feature.name) (filter p fs)) ≡ true = sym (ap (λ b. differ (map (λ (feature : Feature). feature.name) (cond b (h ∷ filter p fs) (filter p fs)))) (ap p first ∙ pass_f) ∙ ap (λ t. differ (t ∷ map (λ (feature : Feature). feature.name) (filter p fs))) (ap (λ (feature : Feature). feature.name) first)) ∙ d in
    let alone = not-true (list_any (same_text f.name) (map (λ feature. feature.name) (filter p fs))) (and_parts (not (list_any (same_text f.name) (map (λ feature. feature.name) (filter p fs)))) (differ (map (λ feature. feature.name) (filter p fs))) split).0 in
    both_ways (list_any (same_text f.name) (map (λ feature. feature.name) (filter p fs))) alone (passes p fs j g f.name at_j pass_g ((bytes_eq-Decides f.name g.name).1 same))
  where
    passes : (p : Feature → Bool) (fs : List Feature) (j : ℕ) (g : Feature) (t : List ℕ) → slice_get fs j ≡ Some g → p g ≡ true → same_text t g.name ≡ true → list_any (same_text t) (map (λ feature. feature.name) (filter p fs)) ≡ true
    passes p [] j g t at is e = cc
    passes p (h ∷ fs) zero g t at is e =
        let first : h ≡ g = same_Some h g at in
        ap (λ b. list_any (same_text t) (map (λ (feature : Feature). feature.name) (cond b (h ∷ filter p fs) (filter p fs)))) (ap p first ∙ is)
        ∙ or_left (same_text t h.name) (list_any (same_text t) (map (λ feature. feature.name) (filter p fs))) (ap (λ (feature : Feature). same_text t feature.name) first ∙ e)
    passes p (h ∷ fs) (suc j) g t at is e =
        let later = passes p fs j g t at is e in
        elim (p h) as (λ b. list_any (same_text t) (map (λ (feature : Feature). feature.name) (cond b (h ∷ filter p fs) (filter p fs))) ≡ true) [
          | true ↦ or_right (same_text t h.name) (list_any (same_text t) (map (λ feature. feature.name) (filter p fs))) later
          | false ↦ later
        ]
two_names p (h ∷ fs) d (suc i) (suc j) f g low at_i at_j pass_f pass_g same = two_names p fs (rest (p h) refl d) i j f g (omega arith) at_i at_j pass_f pass_g same
  where
    rest : (b : Bool) → p h ≡ b → differ (map (λ feature. feature.name) (cond b (h ∷ filter p fs) (filter p fs))) ≡ true → differ (map (λ feature. feature.name) (filter p fs)) ≡ true
    rest true is d = (and_parts (not (list_any (same_text h.name) (map (λ feature. feature.name) (filter p fs)))) (differ (map (λ feature. feature.name) (filter p fs))) d).1
    rest false is d = d

mapped_at : {A B : Type 0} (g : A → B) (xs : List A) (i : ℕ) (y : B) → slice_get (map g xs) i ≡ Some y → (x : A) × (slice_get xs i ≡ Some x) × (g x ≡ y)
mapped_at g [] i y at = cc
mapped_at g (x ∷ xs) zero y at = (x, refl, same_Some (g x) y at)
mapped_at g (x ∷ xs) (suc i) y at = mapped_at g xs i y at

features_differ : (raw : RawMeta) → AreSound raw.classes → All (λ class. Differ (map (λ f. option_map (λ feature. feature.name) (feature_at (metamodel_of raw) f)) class.features)) (metamodel_of raw).classes
features_differ raw s = All-classes raw (λ class. Differ (map (λ f. option_map (λ feature. feature.name) (feature_at (metamodel_of raw) f)) class.features)) each_class
  where
    name_of : ℕ → Option (List ℕ)
    name_of f = option_map (λ (feature : Feature). feature.name) (feature_at (metamodel_of raw) f)

    apart : (c : ℕ) (class : RawClass) → slice_get raw.classes c ≡ Some class → (i j : ℕ) (t u : Option (List ℕ)) → i < j → slice_get (map name_of (features_at raw.classes c)) i ≡ Some t → slice_get (map name_of (features_at raw.classes c)) j ≡ Some u → t ≡ u → ⊥
    apart c class at i j t u low at_i at_j same =
        let first = mapped_at name_of (features_at raw.classes c) i t at_i in
        let second = mapped_at name_of (features_at raw.classes c) j u at_j in
        let f = feature_of raw c first.0 (has_at (features_at raw.classes c) i first.0 first.1) in
        let g = feature_of raw c second.0 (has_at (features_at raw.classes c) j second.0 second.1) in
        let one : f.0.name ≡ g.0.name = same_Some f.0.name g.0.name (sym (ap (option_map (λ (feature : Feature). feature.name)) f.1) ∙ first.2 ∙ same ∙ sym second.2 ∙ ap (option_map (λ (feature : Feature). feature.name)) g.1) in
        let names : differ (map (λ feature. feature.name) (filter (is_of raw.classes c) (metamodel_of raw).features)) ≡ true = sym (ap differ (names_are raw c)) ∙ s.features_apart c class at in
        elim (cases_order first.0 second.0) [
          | inl twice ↦ Differ-at (features_at raw.classes c) (features_once raw s c) i j first.0 second.0 low first.1 second.1 twice
          | inr (inl before) ↦ two_names (is_of raw.classes c) (metamodel_of raw).features names first.0 second.0 f.0 g.0 before f.1 g.1 f.2 g.2 one
          | inr (inr behind) ↦ two_names (is_of raw.classes c) (metamodel_of raw).features names second.0 first.0 g.0 f.0 behind g.1 f.1 g.2 f.2 (sym one)
        ]

    each_class : (c : ℕ) (class : RawClass) → slice_get raw.classes c ≡ Some class → Differ (map (λ f. option_map (λ feature. feature.name) (feature_at (metamodel_of raw) f)) (features_at raw.classes c))
    each_class c class at = Differ-from (map name_of (features_at raw.classes c)) (apart c class at)

-- ---- the whole

pub metamodel_of-is_meta : (raw : RawMeta) → spec.model_faults raw.classes ≡ [] → IsMeta (metamodel_of raw)
metamodel_of-is_meta raw e =
    let s = sound raw.classes e in
    record {
      names_differ = names_differ raw s;
      supers_stand = supers_stand raw;
      no_cycle = without_cycle raw s;
      owners_stand = owners_stand raw;
      features_sound = features_sound raw s;
      features_in_order = features_in_order raw;
      features_whole = features_whole raw s;
      features_differ = features_differ raw s;
    }

pub metamodel_of-is_small : (raw : RawMeta) → spec.model_faults raw.classes ≡ [] → IsSmallMeta (metamodel_of raw)
metamodel_of-is_small raw e = record {
  classes = let few = s.few in omega (arith, classes_long raw);
  features = All-classes raw (λ class. length class.features ≤ 64) each_class;
}
  where
    s : AreSound raw.classes
    s = sound raw.classes e

    each_class : (c : ℕ) (class : RawClass) → slice_get raw.classes c ≡ Some class → length (features_at raw.classes c) ≤ 64
    each_class c class at =
        let test = is_of raw.classes c in
        let all = (metamodel_of raw).features in
        let few = s.few_features c class at in
        let as_many : length (spec.feature_names raw.classes c) ≡ length (places test all) = ap length (names_are raw c) ∙ length-map (filter test all) (λ (feature : Feature). feature.name) ∙ sym (items.length-places 0 test all) in
        let fit = items.no_more_than (features_at raw.classes c) (places test all) (features_once raw s c) (λ f h. let found = feature_of raw c f h in items.at_place test all f found.0 found.1 found.2) in
        omega arith
