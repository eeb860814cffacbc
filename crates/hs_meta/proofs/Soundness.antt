-- What it says of classes that there is no fault.
use Rattle.std.proofs.Common.{ℕ, zero, suc, ◌+◌, ◌*◌, ◌≤◌, ◌≡◌, ◌++◌, List, [], ◌∷◌, true, false, not, eqb, nat_lt, length, slice_get, Some, is_some, refl, ap, sym, ◌∙◌, arith, zero-add, length-append, get_or, map, take, if◌then◌else◌}
use Rattle.std.proofs.lemmas.Bool.{ltb-false, not-false, eq-eqb, or_left}
use Rattle.std.proofs.lemmas.Option.{slice_get-get_or}
use Rattle.std.proofs.lemmas.List.{length-map}
use Rattle.std.proofs.lemmas.List.Sums.{sum_by-le}
use Rattle.std.specs.List.{All, sum_by}
use Rattle.hs_expr.specs.Verdict.{each, each_from, fault_if}
use Rattle.hs_types.specs.declared.limits.TheConstants.{MAX_CLASSES, MAX_FEATURES}
use Rattle.hs_meta.specs.declared.fault.ModelFaultKind.TheVariants as kind
use Rattle.hs_meta.specs.declared.fault.ModelPlace.TheVariants as place
use Rattle.hs_meta.specs.declared.raw.RawAttribute.{RawAttribute}
use Rattle.hs_meta.specs.declared.raw.RawClass.{RawClass}
use Rattle.hs_meta.specs.declared.raw.RawReference.{RawReference}
use Rattle.hs_meta.specs.Faults as spec
use Rattle.hs_meta.specs.Meaning.{own_count}
use Rattle.hs_meta.specs.Names.{data_type_named, differ, is_class}
use Rattle.hs_types.specs.Reachability.{reaches}
use Rattle.hs_types.specs.Metamodel.{conforms}
use Rattle.hs_meta.specs.WrittenSupers.{written_supers}
use Rattle.hs_expr.proofs.Clean.{empty_parts, no_test, clean_at}

pub first_none : {E : Type 0} (a b : List E) → a ++ b ≡ [] → a ≡ []
first_none [] b e = refl
first_none (x ∷ a) b e = cc

pub second_none : {E : Type 0} (a b : List E) → a ++ b ≡ [] → b ≡ []
second_none [] b e = e
second_none (x ∷ a) b e = cc

-- What the checks say one by one, where none finds a fault.
pub record AreSound (classes : List RawClass) : Type 0 where
  pub few : length classes ≤ 256
  pub named_apart : (c : ℕ) (class : RawClass) → slice_get classes c ≡ Some class → is_class (take c classes) class.name ≡ false
  pub no_cycle : (c : ℕ) (class : RawClass) → slice_get classes c ≡ Some class → reaches (written_supers classes) c c ≡ false
  pub types : (c : ℕ) (class : RawClass) → slice_get classes c ≡ Some class → (a : ℕ) (attribute : RawAttribute) → slice_get class.attributes a ≡ Some attribute → is_some (data_type_named attribute.data_type) ≡ true
  pub targets : (c : ℕ) (class : RawClass) → slice_get classes c ≡ Some class → (r : ℕ) (reference : RawReference) → slice_get class.references r ≡ Some reference → is_class classes reference.target ≡ true
  pub defaults : (c : ℕ) (class : RawClass) → slice_get classes c ≡ Some class → (a : ℕ) (attribute : RawAttribute) → slice_get class.attributes a ≡ Some attribute → spec.default_fits attribute.data_type attribute.default ≡ true
  pub bounds : (c : ℕ) (class : RawClass) → slice_get classes c ≡ Some class → (r : ℕ) (reference : RawReference) → slice_get class.references r ≡ Some reference → spec.bounds_fit reference.lower reference.upper ≡ true
  pub features_apart : (c : ℕ) (class : RawClass) → slice_get classes c ≡ Some class → differ (spec.feature_names classes c) ≡ true
  pub few_features : (c : ℕ) (class : RawClass) → slice_get classes c ≡ Some class → length (spec.feature_names classes c) ≤ 64

pub sound : (classes : List RawClass) → spec.model_faults classes ≡ [] → AreSound classes
sound classes e =
    let tenth = empty_parts _ (spec.many_features classes) e in
    let ninth = empty_parts _ (spec.repeated_features classes) tenth.0 in
    let eighth = empty_parts _ (spec.bad_bounds classes) ninth.0 in
    let seventh = empty_parts _ (spec.bad_defaults classes) eighth.0 in
    let sixth = empty_parts _ (spec.unknown_types classes) seventh.0 in
    let fifth = empty_parts _ (spec.super_cycles classes) sixth.0 in
    let fourth = empty_parts _ (spec.unknown_supers classes) fifth.0 in
    let third = empty_parts _ (spec.repeated_classes classes) fourth.0 in
    let second = empty_parts (spec.many_classes classes) (spec.wrong_names classes) third.0 in
    record {
      few = ltb-false 256 (length classes) (no_test (nat_lt 256 (length classes)) _ second.0);
      named_apart = λ c class at. no_test (is_class (take c classes) class.name) _ (clean_at (λ c class. fault_if (is_class (take c classes) class.name) (spec.model_fault (place.ClassName c) kind.Twice)) classes third.1 c class at);
      no_cycle = λ c class at. no_test (reaches (written_supers classes) c c) _ (clean_at (λ c class. fault_if (reaches (written_supers classes) c c) (spec.model_fault (place.Class c) kind.SuperCycle)) classes fifth.1 c class at);
      types = λ c class at a attribute here.
          let own = first_none (each (spec.unknown_type c) class.attributes) (each (spec.unknown_target classes c) class.references) (clean_at (λ c class. each (spec.unknown_type c) class.attributes ++ each (spec.unknown_target classes c) class.references) classes sixth.1 c class at) in
          not-false (is_some (data_type_named attribute.data_type)) (no_test (not (is_some (data_type_named attribute.data_type))) _ (clean_at (spec.unknown_type c) class.attributes own a attribute here));
      targets = λ c class at r reference here.
          let own = second_none (each (spec.unknown_type c) class.attributes) (each (spec.unknown_target classes c) class.references) (clean_at (λ c class. each (spec.unknown_type c) class.attributes ++ each (spec.unknown_target classes c) class.references) classes sixth.1 c class at) in
          not-false (is_class classes reference.target) (no_test (not (is_class classes reference.target)) _ (clean_at (spec.unknown_target classes c) class.references own r reference here));
      defaults = λ c class at a attribute here.
          let own = clean_at (λ c class. each (spec.bad_default c) class.attributes) classes seventh.1 c class at in
          not-false (spec.default_fits attribute.data_type attribute.default) (no_test (not (spec.default_fits attribute.data_type attribute.default)) _ (clean_at (spec.bad_default c) class.attributes own a attribute here));
      bounds = λ c class at r reference here.
          let own = clean_at (λ c class. each (spec.bad_bound c) class.references) classes eighth.1 c class at in
          not-false (spec.bounds_fit reference.lower reference.upper) (no_test (not (spec.bounds_fit reference.lower reference.upper)) _ (clean_at (spec.bad_bound c) class.references own r reference here));
      features_apart = λ c class at. not-false (differ (spec.feature_names classes c)) (no_test (not (differ (spec.feature_names classes c))) _ (clean_at (spec.repeated_features_at classes) classes ninth.1 c class at));
      few_features = λ c class at. ltb-false 64 (length (spec.feature_names classes c)) (no_test (nat_lt 64 (length (spec.feature_names classes c))) _ (clean_at (spec.many_features_at classes) classes tenth.1 c class at));
    }

-- What is found at one item is part of all that is found.
found_within : {X E : Type 0} (finds : ℕ → X → List E) (i : ℕ) (xs : List X) (k : ℕ) (x : X) → slice_get xs k ≡ Some x → length (finds (i + k) x) ≤ length (each_from finds i xs)
found_within finds i [] k x at = cc
found_within finds i (y ∷ xs) zero x at =
    let same : y ≡ x = cc in
    let here : i + 0 ≡ i = omega arith in
    let e : length (finds (i + 0) x) ≡ length (finds i y) = ap (λ n. length (finds n x)) here ∙ ap (λ z. length (finds i z)) (sym same) in
    omega (arith, e, length-append (finds i y) (each_from finds (i + 1) xs))
found_within finds i (y ∷ xs) (suc k) x at =
    let next : i + suc k ≡ i + 1 + k = omega arith in
    let e : length (finds (i + suc k) x) ≡ length (finds (i + 1 + k) x) = ap (λ n. length (finds n x)) next in
    omega (arith, e, found_within finds (i + 1) xs k x at, length-append (finds i y) (each_from finds (i + 1) xs))

-- A class owns no more features than it has.
own_within : (classes : List RawClass) (c : ℕ) (class : RawClass) → slice_get classes c ≡ Some class → own_count class ≤ length (spec.feature_names classes c)
own_within classes c class at =
    let names_of : ℕ → RawClass → List (List ℕ) = λ d class. if conforms (written_supers classes) c d then spec.own_names class else [] in
    let itself : conforms (written_supers classes) c c ≡ true = or_left (eqb c c) (reaches (written_supers classes) c c) (eq-eqb c c refl) in
    let own : length (names_of c class) ≡ own_count class = ap (λ b. length (if b then spec.own_names class else [])) itself
    ∙ length-append (map (λ (a : RawAttribute). a.name) class.attributes) (map (λ (r : RawReference). r.name) class.references)
    ∙ ap (λ n. n + length (map (λ (r : RawReference). r.name) class.references)) (length-map class.attributes (λ (a : RawAttribute). a.name))
    ∙ ap (λ n. length class.attributes + n) (length-map class.references (λ (r : RawReference). r.name)) in
    let here : length (names_of (0 + c) class) ≡ length (names_of c class) = ap (λ n. length (names_of n class)) (zero-add c) in
    omega (arith, own, here, found_within names_of 0 classes c class at)

-- All classes together own no more features than can be numbered.
pub own_few : (classes : List RawClass) → AreSound classes → sum_by own_count classes ≤ MAX_CLASSES * MAX_FEATURES
own_few classes s =
    let each_few : All (λ class. own_count class ≤ 64) classes = λ k d h. let at = slice_get-get_or classes k d h in let a = own_within classes k (get_or classes k d) at in let b = s.few_features k (get_or classes k d) at in omega arith in
    let all = sum_by-le own_count 64 classes each_few in
    let f = s.few in
    omega arith
