use Rattle.std.proofs.Common.{ℕ, ◌^◌, ◌≡◌, ◌&&◌, List, [], ◌∷◌, ◌++◌, drop, Bool, true, false, Option, Some, None, is_some, unwrap_or, nat_lt, pos, refl, ap, sym, subst, ◌∙◌, encode_utf8_all}
use Rattle.std.specs.List.{list_all, flat_map}
use Rattle.std.specs.Str.{chars}
use Rattle.std.specs.Fmt.{decimal}
use Rattle.std.proofs.lemmas.Str.{encodes-IsAscii, encodes-chars, IsUtf8-from_is_utf8}
use Rattle.hs_expr.specs.declared.Name.{Name}
use Rattle.hs_expr.specs.declared.Piece.TheVariants as piece
use Rattle.hs_tokens.specs.declared.token.Kind.{Kind}
use Rattle.hs_tokens.specs.declared.token.Kind.TheVariants as kind
use Rattle.hs_tokens.specs.declared.token.Token.{Token}
use Rattle.hs_tokens.specs.Kinds.{same}
use Rattle.hs_expr.specs.Characters.{is_letter, is_digit, is_word_part}
use Rattle.hs_tokens.specs.Tokens.{is_word, is_integer, is_text, closes, lookup, token_kind, reserved_words, signs}
use Rattle.hs_expr.proofs.Characters.{letter-only}
use Rattle.hs_text.specs.declared.grammar.Term.{Term}
use Rattle.hs_text.specs.declared.grammar.Term.TheVariants as term
use Rattle.hs_text.specs.Terms.{matches, Is}
use Rattle.hs_text.specs.Words.{content, name_of, text_in, literal_by, is_true}
use Rattle.hs_text.specs.WellFormed.{IsWord, IsName, IsAllowed}
use Rattle.hs_text.specs.Canonical.{escape, truth_text}
use Rattle.hs_text.specs.Unplaced.{nowhere, unplaced_name}
use Rattle.hs_text.proofs.Spellings.{kind-tested, word-ascii, Kinded, both-kept}
use Rattle.hs_text.proofs.Marks.{Mark, spelled, written, words, IsSpaced, stops, IsSpelled, Spells}
use Rattle.hs_text.proofs.Written.{number-is, value-is, quoted_chars, quoted-closes, quoted-means, number-below}

-- WHAT IS WRITTEN, AND HOW IT READS

-- some tokens in front are a part of the grammar, which is the same but for places
pub record Read {X : Type 0} (source : List ℕ) (P : List Token → X → Type 0) (bare : X → X) (x : X) (rest : List (List ℕ)) (ts : List Token) : Type 0 where
  pub front : List Token
  pub back : List Token
  pub made : X
  pub whole : ts ≡ front ++ back
  pub left : Spells source rest back
  pub is : P front made
  pub same : bare made ≡ bare x

-- the marks are spaced before what stops them, have this text, and read so
pub record Says {X : Type 0} (source : List ℕ) (P : List Token → X → Type 0) (bare : X → X) (x : X) (marks : List Mark → List Mark) (bytes : List ℕ) : Type 0 where
  pub spaced : (rest : List Mark) → stops (spelled rest) ≡ true → IsSpaced rest → IsSpaced (marks rest)
  pub text : (rest : List Mark) → written (marks rest) ≡ bytes ++ written rest
  pub read : (rest : List Mark) (ts : List Token) → Spells source (words (marks rest)) ts → Read source P bare x (words rest) ts

-- KINDS OF TOKENS

pub term-is : (source : List ℕ) (w : Term) (cs : List ℕ) (t : Token) → IsSpelled source cs t → matches w (token_kind cs) ≡ true → Is w t
term-is source w cs t s h = subst (λ k. matches w k ≡ true) (sym s.kind) h

word-no-integer : (cs : List ℕ) → is_word cs ≡ true → (is_integer cs ≡ false) × (is_text cs ≡ false)
word-no-integer [] h = cc
word-no-integer (c ∷ cs) h = let l = letter-only c (both-kept (is_letter c) (list_all is_word_part cs) _ h).0 in (ap (λ b. b && list_all is_digit cs) l.0, ap (λ b. b && closes false cs) l.1)

pub word-kind : (cs : List ℕ) → is_word cs ≡ true → token_kind cs ≡ unwrap_or (lookup reserved_words cs) kind.Name
word-kind cs h = let n = word-no-integer cs h in step (is_integer cs) (is_text cs) (is_word cs) n.0 n.1 h where
  step : (i t w : Bool) → i ≡ false → t ≡ false → w ≡ true → Kinded i t w (lookup reserved_words cs) (lookup signs cs) ≡ unwrap_or (lookup reserved_words cs) kind.Name
  step true t w p q r = cc
  step false true w p q r = cc
  step false false true p q r = refl
  step false false false p q r = cc

pub name-kind : (n : Name) → IsName n → token_kind n.text ≡ kind.Name
name-kind n h = word-kind n.text h.0 ∙ step (lookup reserved_words n.text) h.1 where
  step : (o : Option Kind) → is_some o ≡ false → unwrap_or o kind.Name ≡ kind.Name
  step None e = refl
  step (Some k) e = cc

pub word-matches : (cs : List ℕ) → is_word cs ≡ true → matches term.Word (token_kind cs) ≡ true
word-matches cs h = ap (matches term.Word) (word-kind cs h) ∙ step (lookup reserved_words cs) refl where
  step : (o : Option Kind) → lookup reserved_words cs ≡ o → matches term.Word (unwrap_or o kind.Name) ≡ true
  step None e = refl
  step (Some k) e = kind-tested (matches term.Word) reserved_words cs k refl e

pub number-kind : (cs : List ℕ) → is_integer cs ≡ true → token_kind cs ≡ kind.Int
number-kind cs h = step (is_integer cs) h where
  step : (i : Bool) → i ≡ true → Kinded i (is_text cs) (is_word cs) (lookup reserved_words cs) (lookup signs cs) ≡ kind.Int
  step true e = refl
  step false e = cc

pub text-kind : (cs : List ℕ) → closes false cs ≡ true → token_kind (34 ∷ cs) ≡ kind.Text
text-kind cs h = step (closes false cs) h where
  step : (t : Bool) → t ≡ true → Kinded false t (is_word (34 ∷ cs)) (lookup reserved_words (34 ∷ cs)) (lookup signs (34 ∷ cs)) ≡ kind.Text
  step true e = refl
  step false e = cc

module _ (source : List ℕ) where
  -- NAMES

  pub name-is : (n : Name) (t : Token) → IsName n → IsSpelled source n.text t → Is (term.Just kind.Name) t
  name-is n t h s = term-is source (term.Just kind.Name) n.text t s (ap (same kind.Name) (name-kind n h))

  pub word-is : (n : Name) (t : Token) → IsWord n → IsSpelled source n.text t → Is term.Word t
  word-is n t h s = term-is source term.Word n.text t s (word-matches n.text h)

  pub same-name : (n : Name) (t : Token) → IsWord n → IsSpelled source n.text t → unplaced_name (name_of source t) ≡ unplaced_name n
  same-name n t h s = ap (λ (x : List ℕ). record { text = x; span = nowhere }) (ap encode_utf8_all s.slice ∙ encodes-IsAscii n.text (word-ascii n.text h))

  -- VALUES

  pub number-token : (n : ℕ) (t : Token) → nat_lt n (2 ^ 63) ≡ true → IsSpelled source (decimal n) t → (t.kind ≡ kind.Int) × (t.number ≡ pos n)
  number-token n t h s = let is = number-is n (number-below n h) in (s.kind ∙ number-kind (decimal n) is.0, s.number ∙ ap (λ x. pos x) (value-is (decimal n) n is))

  pub text-token : (v : List ℕ) (t : Token) → IsAllowed v → IsSpelled source (quoted_chars v) t → (t.kind ≡ kind.Text) × (text_in source t ≡ v)
  text-token v t h s = (
    s.kind ∙ text-kind (flat_map escape (chars v) ++ 34 ∷ []) (quoted-closes (chars v) h.1),
    ap (λ x. encode_utf8_all (content false (drop 1 x))) s.slice ∙ ap encode_utf8_all (quoted-means (chars v) h.1) ∙ encodes-chars v (IsUtf8-from_is_utf8 v h.0),
  )

  pub truth-token : (b : Bool) (t : Token) → IsSpelled source (truth_text b) t → ((k : Kind) × (t.kind ≡ k) × (is_true k ≡ b) × (matches term.Literal k ≡ true) × (matches term.Atom k ≡ true) × (literal_by k source t ≡ piece.Bool (is_true k) t.span))
  truth-token true t s = (kind.True, s.kind, refl, refl, refl, refl)
  truth-token false t s = (kind.False, s.kind, refl, refl, refl, refl)
