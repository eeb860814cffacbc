-- Places of classes by their names, when one more is at the end.
use Rattle.std.proofs.Common.{ℕ, ◌+◌, ◌≤◌, ◌≡◌, ◌++◌, List, [], ◌∷◌, Bool, true, false, cond, not, eqb, ltb, length, length-take-le, take, slice_get, Option, Some, None, is_some, refl, ap, sym, ◌∙◌, arith, length-append}
use Rattle.std.proofs.lemmas.Bool.{false≢true}
use Rattle.std.proofs.lemmas.Bool.Decides.{nat_tests}
use Rattle.std.proofs.lemmas.List.{take_more}
use Rattle.std.proofs.lemmas.List.Folds.{position_or_len_push}
use Rattle.std.proofs.lemmas.List.Sums.{prefix_len-le-length}
use Rattle.std.proofs.lemmas.Option.{get_or_from_slice_get, slice_get_within}
use Rattle.std.proofs.lemmas.Slice.Eq.{bytes_eq-Decides}
use Rattle.std.specs.List.{position, position_or_len}
use Rattle.hs_expr.specs.Lists.{same_text}
use Rattle.hs_meta.specs.declared.raw.RawClass.{RawClass}
use Rattle.hs_meta.specs.Names.{raw_class_number}

-- The first place, or else the second.
abbrev or_else : Option ℕ → Option ℕ → Option ℕ
or_else (Some n) other = Some n
or_else None other = other

number_push : (n len : ℕ) (b : Bool) → n ≤ len →
    cond (ltb (cond (eqb n len) (len + cond b 0 1) n) (len + 1)) (Some (cond (eqb n len) (len + cond b 0 1) n)) None ≡ or_else (cond (ltb n len) (Some n) None) (cond b (Some len) None)
number_push n len true h = grind (arith, nat_tests)
number_push n len false h = grind (arith, nat_tests)

position_push : {A : Type 0} (p : A → Bool) (xs : List A) (y : A) → position p (xs ++ y ∷ []) ≡ or_else (position p xs) (cond (p y) (Some (length xs)) None)
position_push p xs y =
    rw position_or_len_push (rw length-append (number_push (position_or_len p xs) (length xs) (p y) (prefix_len-le-length (λ x. not (p x)) xs)))

kept : (found : Option ℕ) (b : Bool) (n : ℕ) → (b ≡ true → is_some found ≡ true) → or_else found (cond b (Some n) None) ≡ found
kept (Some k) b n h = refl
kept None true n h = absurd (false≢true (h refl))
kept None false n h = refl

taken : (found : Option ℕ) (b : Bool) (n : ℕ) → (b ≡ true → is_some found ≡ false) → or_else found (cond b (Some n) None) ≡ cond b (Some n) found
taken (Some k) true n h = absurd (false≢true (sym (h refl)))
taken (Some k) false n h = refl
taken None true n h = refl
taken None false n h = refl

same_name : (text name : List ℕ) (classes : List RawClass) (b : Bool) → is_some (raw_class_number classes text) ≡ b → same_text text name ≡ true → is_some (raw_class_number classes name) ≡ b
same_name text name classes b known e = ap (λ t. is_some (raw_class_number classes t)) (sym ((bytes_eq-Decides text name).0 e)) ∙ known

-- A class whose name was there before changes nothing.
raw_class_number-known : (classes : List RawClass) (class : RawClass) (name : List ℕ) → is_some (raw_class_number classes class.name) ≡ true → raw_class_number (classes ++ class ∷ []) name ≡ raw_class_number classes name
raw_class_number-known classes class name known =
    position_push (λ (other : RawClass). same_text other.name name) classes class
    ∙ kept (raw_class_number classes name) (same_text class.name name) (length classes) (same_name class.name name classes true known)

-- A class with a new name has it.
raw_class_number-new : (classes : List RawClass) (class : RawClass) (name : List ℕ) → is_some (raw_class_number classes class.name) ≡ false →
    raw_class_number (classes ++ class ∷ []) name ≡ cond (same_text class.name name) (Some (length classes)) (raw_class_number classes name)
raw_class_number-new classes class name known =
    position_push (λ (other : RawClass). same_text other.name name) classes class
    ∙ taken (raw_class_number classes name) (same_text class.name name) (length classes) (same_name class.name name classes false known)

one_more : (classes : List RawClass) (i : ℕ) (class : RawClass) → slice_get classes i ≡ Some class → take (i + 1) classes ≡ take i classes ++ class ∷ []
one_more classes i class at =
    take_more classes i class (slice_get_within classes i class at) ∙ ap (λ x. take i classes ++ x ∷ []) (get_or_from_slice_get classes i class class at)

pub place_kept : (classes : List RawClass) (i : ℕ) (class : RawClass) (name : List ℕ) → slice_get classes i ≡ Some class → is_some (raw_class_number (take i classes) class.name) ≡ true →
    raw_class_number (take (i + 1) classes) name ≡ raw_class_number (take i classes) name
place_kept classes i class name at known = ap (λ cs. raw_class_number cs name) (one_more classes i class at) ∙ raw_class_number-known (take i classes) class name known

pub place_new : (classes : List RawClass) (i : ℕ) (class : RawClass) (name : List ℕ) → slice_get classes i ≡ Some class → is_some (raw_class_number (take i classes) class.name) ≡ false →
    raw_class_number (take (i + 1) classes) name ≡ cond (same_text class.name name) (Some i) (raw_class_number (take i classes) name)
place_new classes i class name at new =
    let within = slice_get_within classes i class at in
    ap (λ cs. raw_class_number cs name) (one_more classes i class at) ∙ raw_class_number-new (take i classes) class name new
    ∙ ap (λ n. cond (same_text class.name name) (Some n) (raw_class_number (take i classes) name)) (length-take-le i classes (omega arith))
