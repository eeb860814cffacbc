-- What written classes without a fault mean is a metamodel.
use Rattle.std.proofs.Common.{ℕ, zero, suc, ◌<◌, ◌≡◌, ◌⊎◌, List, [], ◌∷◌, true, map, length, slice_get, Option, Some, IsSomeAnd, refl, ap, sym, ◌∙◌, subst, arith, inl, inr}
use Rattle.std.proofs.lemmas.Bool.{both_ways}
use Rattle.std.proofs.lemmas.List.{length-map}
use Rattle.std.proofs.lemmas.Option.{slice_get-map, slice_get_within}
use Rattle.std.proofs.lemmas.Slice.Eq.{bytes_eq-Decides}
use Rattle.std.specs.List.{All}
use Rattle.std.specs.Option.{option_map}
use Rattle.hs_types.specs.declared.meta.Class.{Class}
use Rattle.hs_expr.specs.Lists.{Differ, has, same_text}
use Rattle.hs_types.specs.Metamodel.{Conforms, HasSuper, above, class_at, itself, supers_of}
use Rattle.hs_meta.specs.declared.raw.RawClass.{RawClass}
use Rattle.hs_meta.specs.declared.raw.RawMeta.{RawMeta}
use Rattle.hs_meta.specs.Meaning.{class_of_raw, direct_supers, metamodel_of}
use Rattle.hs_types.specs.Reachability.{HasEdge, Reaches, by_way_of, direct, reaches}
use Rattle.hs_meta.specs.WrittenSupers.{written_supers}
use Rattle.hs_types.proofs.Paths.{says_reaches}
use Rattle.hs_meta.proofs.Items as items
use Rattle.hs_meta.proofs.Soundness.{AreSound}
use Rattle.hs_meta.proofs.Standing.{class_at as class_with, no_cycle, stand_within, supers_at}
use Rattle.hs_expr.proofs.Items.{All-from, item_at, Differ-from, none_before}
use Rattle.hs_expr.proofs.Lists.{All-by_has}

-- ---- classes

-- The class at a place, and what it means.
pub class_meant : (raw : RawMeta) (c : ℕ) (class : RawClass) → slice_get raw.classes c ≡ Some class → class_at (metamodel_of raw) c ≡ Some (class_of_raw raw.classes c class)
class_meant raw c class at = items.each_one_at (class_of_raw raw.classes) raw.classes c class at

pub classes_long : (raw : RawMeta) → length (metamodel_of raw).classes ≡ length raw.classes
classes_long raw = items.length-each_one (class_of_raw raw.classes) 0 raw.classes

-- The supertypes of the metamodel are the written ones.
pub supers_written : (raw : RawMeta) → supers_of (metamodel_of raw) ≡ written_supers raw.classes
supers_written raw = items.map-each_one (λ (class : Class). class.supers) (direct_supers raw.classes) (class_of_raw raw.classes) 0 raw.classes (λ c class. refl)

-- Each class that is denoted is the meaning of a written one.
pub class_written : (raw : RawMeta) (c : ℕ) (made : Class) → class_at (metamodel_of raw) c ≡ Some made → (class : RawClass) × (slice_get raw.classes c ≡ Some class) × (made ≡ class_of_raw raw.classes c class)
class_written raw c made at =
    let low = slice_get_within (metamodel_of raw).classes c made at in
    let written = class_with raw.classes c (omega (arith, low, classes_long raw)) in
    let same : Some made ≡ Some (class_of_raw raw.classes c written.0) = sym at ∙ class_meant raw c written.0 written.1 in
    (written.0, written.1, (let e = same in cc))

-- All classes that are denoted have what the meaning of each written one has.
pub All-classes : (raw : RawMeta) (P : Class → Type 0) → ((c : ℕ) (class : RawClass) → slice_get raw.classes c ≡ Some class → P (class_of_raw raw.classes c class)) → All P (metamodel_of raw).classes
All-classes raw P h = All-from P (metamodel_of raw).classes (λ c made at. let w = class_written raw c made at in subst P (sym w.2) (h c w.0 w.1))

names_meant : (raw : RawMeta) → map (λ class. class.name) (metamodel_of raw).classes ≡ map (λ class. class.name) raw.classes
names_meant raw = items.map-each_one (λ (class : Class). class.name) (λ (class : RawClass). class.name) (class_of_raw raw.classes) 0 raw.classes (λ c class. refl)

named : (classes : List RawClass) (i : ℕ) (t : List ℕ) → slice_get (map (λ class. class.name) classes) i ≡ Some t → (class : RawClass) × (slice_get classes i ≡ Some class) × (class.name ≡ t)
named [] i t at = cc
named (class ∷ classes) zero t at = (class, refl, (let e = at in cc))
named (class ∷ classes) (suc i) t at = named classes i t at

pub names_differ : (raw : RawMeta) → AreSound raw.classes → Differ (map (λ class. class.name) (metamodel_of raw).classes)
names_differ raw s = subst (λ (ts : List (List ℕ)). Differ ts) (sym (names_meant raw)) (Differ-from (map (λ (class : RawClass). class.name) raw.classes) apart)
  where
    apart : (i j : ℕ) (t u : List ℕ) → i < j → slice_get (map (λ class. class.name) raw.classes) i ≡ Some t → slice_get (map (λ class. class.name) raw.classes) j ≡ Some u → t ≡ u → ⊥
    apart i j t u low at_i at_j same =
        let a = named raw.classes i t at_i in
        let b = named raw.classes j u at_j in
        both_ways (same_text a.0.name b.0.name)
        (none_before (λ (class : RawClass). same_text class.name b.0.name) raw.classes j i a.0 (s.named_apart j b.0 b.1) low a.1)
        ((bytes_eq-Decides a.0.name b.0.name).1 (a.2 ∙ same ∙ sym b.2))

pub supers_stand : (raw : RawMeta) → All (λ class. All (λ d. d < length (metamodel_of raw).classes) class.supers) (metamodel_of raw).classes
supers_stand raw = All-classes raw (λ class. All (λ d. d < length (metamodel_of raw).classes) class.supers) each_class
  where
    each_class : (c : ℕ) (class : RawClass) → slice_get raw.classes c ≡ Some class → All (λ d. d < length (metamodel_of raw).classes) (direct_supers raw.classes class)
    each_class c class at = All-by_has (λ d. d < length (metamodel_of raw).classes) (direct_supers raw.classes class)
        (λ d e. let low = stand_within raw.classes c d (ap (λ ns. has ns d) (supers_at raw.classes c class at) ∙ e) in omega (arith, low, classes_long raw, length-map raw.classes (direct_supers raw.classes)))

-- ---- supertypes

has_super : (raw : RawMeta) (c d : ℕ) → HasSuper (metamodel_of raw) c d → HasEdge (written_supers raw.classes) c d
has_super raw c d h =
    let made = item_at (λ (class : Class). has class.supers d ≡ true) (class_at (metamodel_of raw) c) h in
    let w = class_written raw c made.0 made.1 in
    subst (λ (found : Option (List ℕ)). IsSomeAnd found (λ numbers. has numbers d ≡ true))
    (sym (slice_get-map (direct_supers raw.classes) raw.classes c ∙ ap (option_map (direct_supers raw.classes)) w.1))
    (ap (λ (class : Class). has class.supers d) (sym w.2) ∙ made.2)

-- To conform is to be the same class or to be below.
pub conforms_below : (raw : RawMeta) (c d : ℕ) → Conforms (metamodel_of raw) c d → (c ≡ d) ⊎ Reaches (written_supers raw.classes) c d
conforms_below raw c d (itself _) = inl refl
conforms_below raw c e (above _ d _ is rest) = elim (conforms_below raw d e rest) [
  | inl same ↦ inr (subst (λ k. Reaches (written_supers raw.classes) c k) same (direct c d (has_super raw c d is)))
  | inr below ↦ inr (by_way_of c d e (has_super raw c d is) below)
]

-- What is below has supertypes, so it is a class.
below_low : (supers : List (List ℕ)) (c d : ℕ) → Reaches supers c d → c < length supers
below_low supers c d (direct _ _ is) = low supers c d is where
  low : (supers : List (List ℕ)) (c d : ℕ) → HasEdge supers c d → c < length supers
  low supers c d is = let found = item_at (λ (numbers : List ℕ). has numbers d ≡ true) (slice_get supers c) is in slice_get_within supers c found.0 found.1
below_low supers c e (by_way_of _ d _ is rest) = low supers c d is where
  low : (supers : List (List ℕ)) (c d : ℕ) → HasEdge supers c d → c < length supers
  low supers c d is = let found = item_at (λ (numbers : List ℕ). has numbers d ≡ true) (slice_get supers c) is in slice_get_within supers c found.0 found.1

pub never_itself : (raw : RawMeta) → AreSound raw.classes → (c : ℕ) → Reaches (written_supers raw.classes) c c → ⊥
never_itself raw s c below = both_ways (reaches (written_supers raw.classes) c c) (no_cycle raw.classes s c (below_low (written_supers raw.classes) c c below)) ((says_reaches (written_supers raw.classes) c c).1 below)

pub without_cycle : (raw : RawMeta) → AreSound raw.classes → (c d : ℕ) → HasSuper (metamodel_of raw) c d → Conforms (metamodel_of raw) d c → ⊥
without_cycle raw s c d is conforms = never_itself raw s c (elim (conforms_below raw d c conforms) [
  | inl same ↦ subst (λ k. Reaches (written_supers raw.classes) c k) same (direct c d (has_super raw c d is))
  | inr below ↦ by_way_of c d c (has_super raw c d is) below
])
