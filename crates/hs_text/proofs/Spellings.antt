use Rattle.std.proofs.Common.{ℕ, zero, suc, ◌-◌, ◌<◌, ◌^◌, ◌≡◌, ◌==◌, List, [], ◌∷◌, length, take, drop, Bool, true, false, ◌&&◌, ◌||◌, cond, Option, Some, None, is_some, unwrap_or, nat_le, nat_eq, refl, ap, sym, subst, ◌∙◌, arith, lit<, encode_utf8_all}
use Rattle.std.proofs.lemmas.Bool.{and_parts}
use Rattle.std.specs.List.{list_all}
use Rattle.std.specs.Str.{all_scalars, IsAscii}
use Rattle.std.proofs.lemmas.Str.{is_utf8-from_IsUtf8, chars-encodes, encodes-IsAscii}
use Rattle.std.proofs.lemmas.Bool.Decides.{nat_tests}
use Rattle.std.specs.Cmp.Lexicographic.{pointwise}
use Rattle.hs_tokens.specs.declared.token.Kind.{Kind}
use Rattle.hs_tokens.specs.declared.token.Kind.TheVariants as kind
use Rattle.hs_tokens.specs.declared.token.Token.{Token}
use Rattle.hs_tokens.specs.Kinds.{same}
use Rattle.hs_expr.specs.Characters.{is_letter, is_word_part}
use Rattle.hs_tokens.specs.Tokens.{is_word, is_integer, is_text, is_lexeme, is_escaped, is_nil, closes, lookup, token_kind, token_value, reserved_words, signs}
use Rattle.hs_text.specs.declared.grammar.Term.TheVariants as term
use Rattle.hs_text.specs.Terms.{matches, Is}
use Rattle.hs_text.specs.Words.{slice, name_of, escape_value, content, text_in, literal_by, literal_of, atom_by, atom_of, count_by, count_of}
use Rattle.hs_text.specs.WellFormed.{IsWord, IsName, is_literal, is_allowed, IsAllowed, IsPieceFine, IsAtomFine, IsCountFine, atom_spans, count_spans}
use Rattle.hs_text.proofs.Spelt.{IsSpelt}

-- WHAT IS PARSED IS WELL-FORMED: what single tokens are

-- each kind of a table passes the test, and so does one that is found there
pub kind-tested : (test : Kind → Bool) (table : List (List ℕ × Kind)) (cs : List ℕ) (k : Kind) → list_all (λ e. test e.1) table ≡ true → lookup table cs ≡ Some k → test k ≡ true
kind-tested test [] cs k all e = cc
kind-tested test (x ∷ table) cs k all e = step (pointwise nat_eq x.0 cs) (test x.1) refl all e (kind-tested test table cs k) where
  step : (t b : Bool) → test x.1 ≡ b → (b && list_all (λ e. test e.1) table) ≡ true → cond t (Some x.1) (lookup table cs) ≡ Some k → (list_all (λ e. test e.1) table ≡ true → lookup table cs ≡ Some k → test k ≡ true) → test k ≡ true
  step t false w all e rest = cc
  step true true w all e rest = let same : x.1 ≡ k = cc in ap test (sym same) ∙ w
  step false true w all e rest = rest all e

abbrev not_so : Bool → Bool
not_so true = false
not_so false = true

so-not : (b : Bool) → not_so b ≡ true → b ≡ false
so-not true h = cc
so-not false h = refl

-- no sign is a word or a name, and no reserved word is a name
sign-no-word : (cs : List ℕ) (j : Kind) → lookup signs cs ≡ Some j → matches term.Word j ≡ false
sign-no-word cs j e = so-not (matches term.Word j) (kind-tested (λ k. not_so (matches term.Word k)) signs cs j refl e)

sign-no-name : (cs : List ℕ) (j : Kind) → lookup signs cs ≡ Some j → same kind.Name j ≡ false
sign-no-name cs j e = so-not (same kind.Name j) (kind-tested (λ k. not_so (same kind.Name k)) signs cs j refl e)

reserved-no-name : (cs : List ℕ) (j : Kind) → lookup reserved_words cs ≡ Some j → same kind.Name j ≡ false
reserved-no-name cs j e = so-not (same kind.Name j) (kind-tested (λ k. not_so (same kind.Name k)) reserved_words cs j refl e)

abbrev pub Kinded : Bool → Bool → Bool → Option Kind → Option Kind → Kind
Kinded i t w r s = cond i kind.Int (cond t kind.Text (cond w (unwrap_or r kind.Name) (unwrap_or s kind.Name)))

word-case : (i t w : Bool) (r s : Option Kind) → matches term.Word (Kinded i t w r s) ≡ true → (w || i || t || is_some s) ≡ true → ((j : Kind) → s ≡ Some j → matches term.Word j ≡ false) → w ≡ true
word-case i t true r s h l n = refl
word-case true t false r s h l n = cc
word-case false true false r s h l n = cc
word-case false false false r None h l n = cc
word-case false false false r (Some j) h l n = cc (n j refl)

name-case : (i t w : Bool) (r s : Option Kind) → same kind.Name (Kinded i t w r s) ≡ true → (w || i || t || is_some s) ≡ true → ((j : Kind) → s ≡ Some j → same kind.Name j ≡ false) → ((j : Kind) → r ≡ Some j → same kind.Name j ≡ false) → (w ≡ true) × (is_some r ≡ false)
name-case true t w r s h l n m = cc
name-case false true w r s h l n m = cc
name-case false false true None s h l n m = (refl, refl)
name-case false false true (Some j) s h l n m = absurd (cc (m j refl))
name-case false false false r None h l n m = cc
name-case false false false r (Some j) h l n m = absurd (cc (n j refl))

pub word-from : (cs : List ℕ) → is_lexeme cs ≡ true → matches term.Word (token_kind cs) ≡ true → is_word cs ≡ true
word-from cs l h = word-case (is_integer cs) (is_text cs) (is_word cs) (lookup reserved_words cs) (lookup signs cs) h l (sign-no-word cs)

pub name-from : (cs : List ℕ) → is_lexeme cs ≡ true → same kind.Name (token_kind cs) ≡ true → (is_word cs ≡ true) × (is_some (lookup reserved_words cs) ≡ false)
name-from cs l h = name-case (is_integer cs) (is_text cs) (is_word cs) (lookup reserved_words cs) (lookup signs cs) h l (sign-no-name cs) (reserved-no-name cs)

text-case : (i t w : Bool) (r s : Option Kind) → same kind.Text (Kinded i t w r s) ≡ true → (w || i || t || is_some s) ≡ true → ((j : Kind) → s ≡ Some j → same kind.Text j ≡ false) → ((j : Kind) → r ≡ Some j → same kind.Text j ≡ false) → t ≡ true
text-case i true w r s h l n m = refl
text-case true false w r s h l n m = cc
text-case false false true None s h l n m = cc
text-case false false true (Some j) s h l n m = cc (m j refl)
text-case false false false r None h l n m = cc
text-case false false false r (Some j) h l n m = cc (n j refl)

pub text-from : (cs : List ℕ) → is_lexeme cs ≡ true → same kind.Text (token_kind cs) ≡ true → is_text cs ≡ true
text-from cs l h = text-case (is_integer cs) (is_text cs) (is_word cs) (lookup reserved_words cs) (lookup signs cs) h l
    (λ j e. so-not (same kind.Text j) (kind-tested (λ k. not_so (same kind.Text k)) signs cs j refl e))
    (λ j e. so-not (same kind.Text j) (kind-tested (λ k. not_so (same kind.Text k)) reserved_words cs j refl e))

-- a word is in ASCII, so its UTF-8 is itself
pub part-low : (c : ℕ) → is_word_part c ≡ true → c < 128
part-low c h = grind (arith, nat_tests)

cons-ascii : (c : ℕ) (cs : List ℕ) → c < 128 → IsAscii cs → IsAscii (c ∷ cs)
cons-ascii c cs h a zero = h
cons-ascii c cs h a (suc i) = a i

parts-ascii : (cs : List ℕ) → list_all is_word_part cs ≡ true → IsAscii cs
parts-ascii [] h = λ i. lit< tt
parts-ascii (c ∷ cs) h = cons-ascii c cs (part-low c ((and_parts (is_word_part c) (list_all is_word_part cs) h).0)) (parts-ascii cs ((and_parts (is_word_part c) (list_all is_word_part cs) h).1))

letter-low : (c : ℕ) → is_letter c ≡ true → c < 128
letter-low c h = grind (arith, nat_tests)

pub both-kept : (a b d : Bool) → ((a && b) && d) ≡ true → (a ≡ true) × (b ≡ true)
both-kept true true d h = (refl, refl)
both-kept true false d h = cc
both-kept false b d h = cc

pub word-ascii : (cs : List ℕ) → is_word cs ≡ true → IsAscii cs
word-ascii [] h = cc
word-ascii (c ∷ cs) h =
    let t = both-kept (is_letter c) (list_all is_word_part cs) (nat_le (length cs) 63) h in
    cons-ascii c cs (letter-low c t.0) (parts-ascii cs t.1)

-- THE CHARACTERS OF A TEXT

escaped-fine : (c : ℕ) → is_escaped c ≡ true → (is_allowed (escape_value c) ≡ true)
escaped-fine c h = step (c == 110) (c == 116) refl refl where
  step : (a b : Bool) → (c == 110) ≡ a → (c == 116) ≡ b → is_allowed (cond a 10 (cond b 9 c)) ≡ true
  step true b e f = refl
  step false true e f = refl
  step false false e f = grind (arith, nat_tests)

last-or : (a b : Bool) → a ≡ true → (b || a) ≡ true
last-or a true h = refl
last-or a false h = h

content-allowed : (e : Bool) (cs : List ℕ) → closes e cs ≡ true → list_all is_allowed (content e cs) ≡ true
content-allowed e [] h = refl
content-allowed true (c ∷ cs) h = ap (λ b. b && list_all is_allowed (content false cs)) (escaped-fine c ((and_parts (is_escaped c) (closes false cs) h).0)) ∙ content-allowed false cs ((and_parts (is_escaped c) (closes false cs) h).1)
content-allowed false (c ∷ cs) h = step (c == 34) (c == 92) h (content-allowed true cs) (content-allowed false cs) where
  step : (a b : Bool) → cond a (is_nil cs) (cond b (closes true cs) (nat_le 32 c && closes false cs)) ≡ true → (closes true cs ≡ true → list_all is_allowed (content true cs) ≡ true) → (closes false cs ≡ true → list_all is_allowed (content false cs) ≡ true)
      → list_all is_allowed (cond a [] (cond b (content true cs) (c ∷ content false cs))) ≡ true
  step true b h f g = refl
  step false true h f g = f h
  step false false h f g = ap (λ b. b && list_all is_allowed (content false cs)) (last-or (nat_le 32 c) (c == 10 || c == 9) ((and_parts (nat_le 32 c) (closes false cs) h).0)) ∙ g ((and_parts (nat_le 32 c) (closes false cs) h).1)

escaped-scalar : (c : ℕ) → all_scalars (c ∷ []) ≡ true → all_scalars (escape_value c ∷ []) ≡ true
escaped-scalar c h = step (c == 110) (c == 116) where
  step : (a b : Bool) → all_scalars (cond a 10 (cond b 9 c) ∷ []) ≡ true
  step true b = refl
  step false true = refl
  step false false = h

alone-true : (a : Bool) → a ≡ true → (a && true) ≡ true
alone-true true h = refl
alone-true false h = h

both-true : (a b : Bool) → (a && true) ≡ true → b ≡ true → (a && b) ≡ true
both-true true b h r = r
both-true false b h r = cc

scalar-first : (c : ℕ) (cs : List ℕ) → all_scalars (c ∷ cs) ≡ true → (all_scalars (c ∷ []) ≡ true) × (all_scalars cs ≡ true)
scalar-first c cs h = (alone-true _ ((and_parts _ (all_scalars cs) h).0), (and_parts _ (all_scalars cs) h).1)

scalar-more : (c : ℕ) (cs : List ℕ) → all_scalars (c ∷ []) ≡ true → all_scalars cs ≡ true → all_scalars (c ∷ cs) ≡ true
scalar-more c cs h r = both-true _ (all_scalars cs) h r

content-scalars : (e : Bool) (cs : List ℕ) → all_scalars cs ≡ true → all_scalars (content e cs) ≡ true
content-scalars e [] h = refl
content-scalars true (c ∷ cs) h = let s = scalar-first c cs h in scalar-more (escape_value c) (content false cs) (escaped-scalar c s.0) (content-scalars false cs s.1)
content-scalars false (c ∷ cs) h = let s = scalar-first c cs h in step (c == 34) (c == 92) s.0 (content-scalars true cs s.1) (content-scalars false cs s.1) where
  step : (a b : Bool) → all_scalars (c ∷ []) ≡ true → all_scalars (content true cs) ≡ true → all_scalars (content false cs) ≡ true → all_scalars (cond a [] (cond b (content true cs) (c ∷ content false cs))) ≡ true
  step true b o f g = refl
  step false true o f g = f
  step false false o f g = scalar-more c (content false cs) o g

drop-scalars : (n : ℕ) (cs : List ℕ) → all_scalars cs ≡ true → all_scalars (drop n cs) ≡ true
drop-scalars zero cs h = h
drop-scalars (suc n) [] h = refl
drop-scalars (suc n) (c ∷ cs) h = drop-scalars n cs (scalar-first c cs h).1

take-scalars : (n : ℕ) (cs : List ℕ) → all_scalars cs ≡ true → all_scalars (take n cs) ≡ true
take-scalars zero cs h = refl
take-scalars (suc n) [] h = refl
take-scalars (suc n) (c ∷ cs) h = let s = scalar-first c cs h in scalar-more c (take n cs) s.0 (take-scalars n cs s.1)

utf8-allowed : (cs : List ℕ) → all_scalars cs ≡ true → list_all is_allowed cs ≡ true → IsAllowed (encode_utf8_all cs)
utf8-allowed cs s h = (is_utf8-from_IsUtf8 (encode_utf8_all cs) (cs, (s, refl)), ap (list_all is_allowed) (chars-encodes cs s) ∙ h)

text-allowed : (cs : List ℕ) → all_scalars cs ≡ true → is_text cs ≡ true → IsAllowed (encode_utf8_all (content false (drop 1 cs)))
text-allowed [] s h = cc
text-allowed (c ∷ cs) s h = utf8-allowed (content false cs) (content-scalars false cs (scalar-first c cs s).1) (content-allowed false cs ((and_parts (c == 34) (closes false cs) h).1))

-- TOKENS THAT ARE SPELT

module _ (source : List ℕ) (scalars : all_scalars source ≡ true) where
  named : (t : Token) → is_word (slice source t.span) ≡ true → encode_utf8_all (slice source t.span) ≡ slice source t.span
  named t w = encodes-IsAscii (slice source t.span) (word-ascii (slice source t.span) w)

  pub word-fine : (t : Token) → IsSpelt source t → Is term.Word t → IsWord (name_of source t)
  word-fine t s i =
      let w = word-from (slice source t.span) s.lexeme (subst (λ k. matches term.Word k ≡ true) s.kind i) in
      subst (λ x. is_word x ≡ true) (sym (named t w)) w

  pub name-fine : (t : Token) → IsSpelt source t → Is (term.Just kind.Name) t → IsName (name_of source t)
  name-fine t s i =
      let w = name-from (slice source t.span) s.lexeme (subst (λ k. same kind.Name k ≡ true) s.kind i) in
      subst (λ x. (is_word x ≡ true) × (is_some (lookup reserved_words x) ≡ false)) (sym (named t w.0)) w

  pub number-fine : (t : Token) → IsSpelt source t → is_literal t.number ≡ true
  number-fine t s = let h : token_value (slice source t.span) < 2 ^ 63 = s.small in ap is_literal s.number ∙ grind (arith, nat_tests)

  text-fine : (t : Token) → IsSpelt source t → kind.Text ≡ t.kind → IsAllowed (text_in source t)
  text-fine t s e = text-allowed (slice source t.span) (take-scalars (t.span.end - t.span.start) (drop t.span.start source) (drop-scalars t.span.start source scalars))
      (text-from (slice source t.span) s.lexeme (ap (λ k. same kind.Text k) (sym (e ∙ s.kind))))

  literal-cases : (k : Kind) (t : Token) → IsSpelt source t → k ≡ t.kind → IsPieceFine (literal_by k source t)
  literal-cases kind.Int t s e = number-fine t s
  literal-cases kind.Text t s e = text-fine t s e
  literal-cases _ t s e = tt

  pub literal-fine : (t : Token) → IsSpelt source t → IsPieceFine (literal_of source t)
  literal-fine t s = literal-cases t.kind t s refl

  atom-cases : (k : Kind) (t : Token) → IsSpelt source t → k ≡ t.kind → IsAtomFine (atom_by k source t) × (atom_spans (atom_by k source t) ≡ t.span ∷ [])
  atom-cases kind.Int t s e = (number-fine t s, refl)
  atom-cases kind.Text t s e = (text-fine t s e, refl)
  atom-cases kind.Name t s e = (name-fine t s (ap (λ k. same kind.Name k) (sym e)), refl)
  atom-cases _ t s e = (tt, refl)

  pub atom-fine : (t : Token) → IsSpelt source t → IsAtomFine (atom_of source t) × (atom_spans (atom_of source t) ≡ t.span ∷ [])
  atom-fine t s = atom-cases t.kind t s refl

  count-cases : (k : Kind) (t : Token) → IsSpelt source t → k ≡ t.kind → matches term.Count k ≡ true → IsCountFine (count_by k source t) × (count_spans (count_by k source t) ≡ t.span ∷ [])
  count-cases kind.Int t s e i = (number-fine t s, refl)
  count-cases kind.Name t s e i = (name-fine t s (ap (λ k. same kind.Name k) (sym e)), refl)
  count-cases _ t s e i = absurd (cc)

  pub count-fine : (t : Token) → IsSpelt source t → Is term.Count t → IsCountFine (count_of source t) × (count_spans (count_of source t) ≡ t.span ∷ [])
  count-fine t s i = count-cases t.kind t s refl i
