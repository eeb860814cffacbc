-- Names that denote classes, and the supertypes that they give.
use Rattle.std.proofs.Common.{ℕ, suc, ◌+◌, ◌<◌, ◌≡◌, List, [], ◌∷◌, true, not, eqb, nat_lt, length, get_or, slice_get, Option, Some, None, refl, ap, sym, ◌∙◌, arith, inl, inr}
use Rattle.std.proofs.lemmas.Bool.{false≢true, cases_lt, eqb-true, ltb-true, or_cases}
use Rattle.std.proofs.lemmas.List.{get_or-map, get_or_past, length-map}
use Rattle.std.proofs.lemmas.List.FromFn.{length-map-range_with_len}
use Rattle.std.proofs.lemmas.Option.{cond_some, get_or_from_slice_get, slice_get_cases, slice_get_within}
use Rattle.std.specs.List.{cons_option, count_by, filter_map, position_or_len}
use Rattle.hs_expr.specs.Lists.{has, same_text}
use Rattle.hs_meta.specs.declared.raw.RawClass.{RawClass}
use Rattle.hs_meta.specs.Meaning.{direct_supers, own_count, own_numbers, own_numbers_from}
use Rattle.hs_meta.specs.Names.{raw_class_number}
use Rattle.hs_meta.specs.Ranks.{ranks}
use Rattle.hs_types.specs.Reachability.{reach_rows}
use Rattle.hs_types.specs.Reachability.{reaching_within}
use Rattle.hs_meta.specs.WrittenSupers.{written_supers}
use Rattle.hs_meta.proofs.Order.{HasNoCycle, StandWithin}
use Rattle.hs_meta.proofs.Soundness.{AreSound}

pub named_within : (classes : List RawClass) (name : List ℕ) (c : ℕ) → raw_class_number classes name ≡ Some c → c < length classes
named_within classes name c e =
    let place = position_or_len (λ (class : RawClass). same_text class.name name) classes in
    let found = cond_some (nat_lt place (length classes)) place c e in
    let low = ltb-true place (length classes) found.0 in
    omega (arith, found.1)

named_all_within : (classes : List RawClass) (names : List (List ℕ)) (s : ℕ) → has (filter_map (raw_class_number classes) names) s ≡ true → s < length classes
named_all_within classes [] s e = absurd (false≢true e)
named_all_within classes (name ∷ names) s e = go (named_all_within classes names s) (raw_class_number classes name) refl e
  where
    go : (has (filter_map (raw_class_number classes) names) s ≡ true → s < length classes) → (found : Option ℕ) → raw_class_number classes name ≡ found → has (cons_option found (filter_map (raw_class_number classes) names)) s ≡ true → s < length classes
    go later None is e = later e
    go later (Some c) is e = elim (or_cases (eqb s c) (has (filter_map (raw_class_number classes) names) s) e) [
      | inl same ↦ let low = named_within classes name c is in omega (arith, eqb-true s c same)
      | inr among ↦ later among
    ]

-- The class with this number.
pub class_at : (classes : List RawClass) (c : ℕ) → c < length classes → (class : RawClass) × (slice_get classes c ≡ Some class)
class_at classes c low = elim ((slice_get_cases classes c).1) [
  | inl found ↦ (found.0, found.2)
  | inr past ↦ absurd (omega (arith, past.0))
]

pub supers_at : (classes : List RawClass) (c : ℕ) (class : RawClass) → slice_get classes c ≡ Some class → get_or (written_supers classes) c [] ≡ direct_supers classes class
supers_at classes c class at =
    get_or-map (direct_supers classes) classes c class [] (slice_get_within classes c class at) ∙ ap (direct_supers classes) (get_or_from_slice_get classes c class class at)

pub stand_within : (classes : List RawClass) → StandWithin (written_supers classes)
stand_within classes c s e = elim (cases_lt c (length classes)) [
  | inl low ↦
      let class = class_at classes c low in
      let below = named_all_within classes class.0.supers s (sym (ap (λ ns. has ns s) (supers_at classes c class.0 class.1)) ∙ e) in
      omega (arith, below, length-map classes (direct_supers classes))
  | inr past ↦ absurd (false≢true (sym (ap (λ ns. has ns s) (get_or_past (written_supers classes) c [] (omega (arith, length-map classes (direct_supers classes))))) ∙ e))
]

pub no_cycle : (classes : List RawClass) → AreSound classes → HasNoCycle (written_supers classes)
no_cycle classes s c low = let class = class_at classes c (omega (arith, low, length-map classes (direct_supers classes))) in s.no_cycle c class.0 class.1

long_own : (first : ℕ) (classes : List RawClass) → length (own_numbers_from first classes) ≡ length classes
long_own first [] = refl
long_own first (class ∷ classes) = ap suc (long_own (first + own_count class) classes)

-- For each class there are the numbers that it owns.
pub own_long : (classes : List RawClass) → length (own_numbers classes) ≡ length (written_supers classes)
own_long classes = long_own 0 classes ∙ sym (length-map classes (direct_supers classes))

-- For each class there is a rank.
pub ranks_long : (supers : List (List ℕ)) → length (ranks (reach_rows supers)) ≡ length supers
ranks_long supers =
    length-map (reach_rows supers) (λ row. count_by not row) ∙ length-map-range_with_len (λ d. reaching_within supers d (length supers)) 0 (length supers)
