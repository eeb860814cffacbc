-- Places of names.
use Rattle.std.proofs.Common.{◌≡◌, ◌+◌, ◌<◌, ◌≤◌, ◌++◌, ℕ, List, [], ◌∷◌, Bool, true, false, cond, not, eqb, ltb, length, take, get_or, is_some, Some, None, refl, ap, sym, ◌∙◌, arith, length-append, length-take-le}
use Rattle.std.proofs.lemmas.Bool.{false≢true}
use Rattle.std.proofs.lemmas.Bool.Decides.{nat_tests}
use Rattle.std.proofs.lemmas.List.{take_more}
use Rattle.std.proofs.lemmas.List.Folds.{position_or_len_push}
use Rattle.std.proofs.lemmas.List.Sums.{prefix_len-le-length}
use Rattle.std.proofs.lemmas.Slice.Eq.{bytes_eq-Decides}
use Rattle.std.specs.Cmp.Lexicographic.{nat_list_eq_equiv}
use Rattle.std.specs.List.{list_any, position, position_or_len}
use Rattle.hs_expr.specs.Lists.{same_text}
use Rattle.hs_expr.proofs.Items.{below_any, is_some-position}
use Rattle.hs_graph.specs.Lookups.{place_of}

number_push : (n len : ℕ) (b : Bool) → n ≤ len →
    cond (ltb (cond (eqb n len) (len + cond b 0 1) n) (len + 1)) (Some (cond (eqb n len) (len + cond b 0 1) n)) None ≡ cond (ltb n len) (Some n) (cond b (Some len) None)
number_push n len true h = grind (arith, nat_tests)
number_push n len false h = grind (arith, nat_tests)

-- One more item at the end.
pub position_push : {A : Type 0} (p : A → Bool) (xs : List A) (y : A) →
    position p (xs ++ y ∷ []) ≡ cond (ltb (position_or_len p xs) (length xs)) (Some (position_or_len p xs)) (cond (p y) (Some (length xs)) None)
position_push p xs y =
    rw position_or_len_push (rw length-append (number_push (position_or_len p xs) (length xs) (p y) (prefix_len-le-length (λ x. not (p x)) xs)))

later_or_new : (b c : Bool) (n len : ℕ) → (c ≡ true → b ≡ false) → cond b (Some n) (cond c (Some len) None) ≡ cond c (Some len) (cond b (Some n) None)
later_or_new true true n len h = absurd (false≢true (sym (h refl)))
later_or_new true false n len h = refl
later_or_new false true n len h = refl
later_or_new false false n len h = refl

-- A new name at the end has the next place, and all others keep theirs.
pub place_more : (xs : List (List ℕ)) (y name : List ℕ) → list_any (same_text y) xs ≡ false →
    place_of (xs ++ y ∷ []) name ≡ cond (same_text y name) (Some (length xs)) (place_of xs name)
place_more xs y name none =
    let absent : same_text y name ≡ true → ltb (position_or_len (same_text name) xs) (length xs) ≡ false =
    λ e. below_any (same_text name) xs ∙ ap (λ t. list_any (same_text t) xs) (sym ((bytes_eq-Decides y name).0 e)) ∙ none in
    position_push (same_text name) xs y
    ∙ ap (λ b. cond (ltb (position_or_len (same_text name) xs) (length xs)) (Some (position_or_len (same_text name) xs)) (cond b (Some (length xs)) None)) (nat_list_eq_equiv.symm name y)
    ∙ later_or_new _ (same_text y name) (position_or_len (same_text name) xs) (length xs) absent

pub new_place : (names : List (List ℕ)) (i : ℕ) (name other : List ℕ) → i < length names → get_or names i name ≡ name → is_some (place_of (take i names) name) ≡ false →
    place_of (take (i + 1) names) other ≡ cond (same_text name other) (Some i) (place_of (take i names) other)
new_place names i name other h e s =
    ap (λ ts. place_of ts other) (take_more names i name h ∙ ap (λ t. take i names ++ t ∷ []) e)
    ∙ place_more (take i names) name other (sym (is_some-position (same_text name) (take i names)) ∙ s)
    ∙ ap (λ n. cond (same_text name other) (Some n) (place_of (take i names) other)) (let below : i ≤ length names = omega arith in rw length-take-le refl)
