-- Texts of which one is repeated, or none.
use Rattle.std.proofs.Common.{◌≡◌, ◌&&◌, ◌||◌, ◌++◌, ℕ, List, [], ◌∷◌, Bool, true, false, not, cond, Option, Some, is_some, inl, inr, refl, ap, ◌∙◌}
use Rattle.std.proofs.lemmas.Bool.{false≢true, and_from, and_parts, and_right, not-true, or_cases, or_from, or_left, or_parts, or_right}
use Rattle.std.proofs.lemmas.List.Folds.{list_any-append}
use Rattle.std.specs.Cmp.Lexicographic.{nat_list_eq_equiv}
use Rattle.std.specs.List.{list_any}
use Rattle.hs_expr.specs.Lists.{same_text}
use Rattle.hs_meta.specs.Names.{differ}

-- A text that is further before.
pub differ_not : (before behind : List (List ℕ)) (text : List ℕ) → list_any (same_text text) before ≡ true → differ (before ++ text ∷ behind) ≡ false
differ_not [] behind text e = absurd (false≢true e)
differ_not (first ∷ before) behind text e = elim (or_cases (same_text text first) (list_any (same_text text) before) e) [
  | inl here ↦
      let again : list_any (same_text first) (before ++ text ∷ behind) ≡ true =
      list_any-append (same_text first) before (text ∷ behind)
      ∙ or_right (list_any (same_text first) before) (same_text first text || list_any (same_text first) behind)
      (or_left (same_text first text) (list_any (same_text first) behind) (nat_list_eq_equiv.symm first text ∙ here)) in
      ap (λ b. not b && differ (before ++ text ∷ behind)) again
  | inr later ↦
      ap (λ b. not (list_any (same_text first) (before ++ text ∷ behind)) && b) (differ_not before behind text later)
      ∙ and_right (not (list_any (same_text first) (before ++ text ∷ behind))) false refl
]

-- A new text at the end.
pub differ_more : (before : List (List ℕ)) (text : List ℕ) → differ before ≡ true → list_any (same_text text) before ≡ false → differ (before ++ text ∷ []) ≡ true
differ_more [] text d n = refl
differ_more (first ∷ before) text d n =
    let parts = and_parts (not (list_any (same_text first) before)) (differ before) d in
    let new = or_parts (same_text text first) (list_any (same_text text) before) n in
    let none : list_any (same_text first) (before ++ text ∷ []) ≡ false =
    list_any-append (same_text first) before (text ∷ [])
    ∙ or_from (list_any (same_text first) before) (same_text first text || false) (not-true (list_any (same_text first) before) parts.0)
    (or_from (same_text first text) false (nat_list_eq_equiv.symm first text ∙ new.0) refl) in
    and_from (not (list_any (same_text first) (before ++ text ∷ []))) (differ (before ++ text ∷ [])) (ap not none) (differ_more before text parts.1 new.1)

-- What is among the texts and one more.
pub among_more : (before : List (List ℕ)) (text other : List ℕ) → list_any (same_text other) (before ++ text ∷ []) ≡ cond (same_text text other) true (list_any (same_text other) before)
among_more before text other =
    list_any-append (same_text other) before (text ∷ []) ∙ ap (λ b. list_any (same_text other) before || (b || false)) (nat_list_eq_equiv.symm other text) ∙ last (list_any (same_text other) before) (same_text text other)
  where
    last : (a b : Bool) → (a || (b || false)) ≡ cond b true a
    last true true = refl
    last true false = refl
    last false true = refl
    last false false = refl

-- One key more.
pub seen_more : {X : Type 0} (b : Bool) (x : X) (o : Option X) → is_some (cond b (Some x) o) ≡ cond b true (is_some o)
seen_more true x o = refl
seen_more false x o = refl
