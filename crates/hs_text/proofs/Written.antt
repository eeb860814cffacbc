use Rattle.std.proofs.Common.{ℕ, ◌+◌, ◌-◌, ◌*◌, ◌/◌, ◌%◌, ◌<◌, ◌≤◌, ◌^◌, ◌≡◌, ◌==◌, ◌||◌, ◌&&◌, cond, List, [], ◌∷◌, ◌++◌, Bool, true, false, nat_eq, nat_le, nat_lt, codes, lit<, refl, ap, sym, subst, ◌∙◌, arith, append_assoc, encode_utf8_all}
use Rattle.std.proofs.lemmas.Bool.{and_parts, and_from}
use Rattle.std.specs.List.{list_all, flat_map}
use Rattle.std.specs.Str.{chars, all_scalars}
use Rattle.std.specs.Char.{encode_utf8}
use Rattle.std.specs.Fmt.{decimal, signed_decimal}
use Rattle.std.proofs.lemmas.List.{append-nil}
use Rattle.std.proofs.lemmas.Fmt.{decimal_by_steps, IsAscii-decimal}
use Rattle.std.proofs.lemmas.Str.{encodes-append, encode_ascii, encodes-IsAscii, encodes-chars, scalars-chars, IsUtf8-from_is_utf8}
use Rattle.std.proofs.lemmas.Bool.Decides.{nat_tests}
use Rattle.hs_expr.specs.declared.Piece.{Piece}
use Rattle.hs_expr.specs.declared.Piece.TheVariants as piece
use Rattle.hs_expr.specs.Characters.{is_letter, is_digit}
use Rattle.hs_tokens.specs.Tokens.{is_word, is_integer, is_text, is_lexeme, is_escaped, is_nil, closes, decimal_from, token_value}
use Rattle.hs_tokens.specs.Tokens as tokens
use Rattle.hs_text.specs.Words.{content}
use Rattle.hs_expr.specs.Trees.{Tree, Leaf, Not, Minus, Binary}
use Rattle.hs_text.specs.WellFormed.{is_allowed, IsAllowed, IsPieceFine}
use Rattle.hs_text.specs.Canonical.{escape, quoted_text, truth_text, sign_text}
use Rattle.hs_text.proofs.Escapes.{plain, as-it-is}
use Rattle.hs_text.proofs.Grown.{IsLeaf}
use Rattle.hs_text.proofs.Marks.{scalars-both, ascii-scalars, Mark, Lexeme, Blank, spelled, IsSpaced, stops, no_arrow, integer-longest, text-longest, low-same}

-- NUMBERS

digits-more : (ds : List ℕ) (d : ℕ) → is_integer ds ≡ true → is_digit d ≡ true → is_integer (ds ++ d ∷ []) ≡ true
digits-more [] d h k = cc
digits-more (c ∷ ds) d h k = and_from (is_digit c) (list_all is_digit (ds ++ d ∷ [])) ((and_parts (is_digit c) (list_all is_digit ds) h).0) (all-more ds ((and_parts (is_digit c) (list_all is_digit ds) h).1)) where
  all-more : (ds : List ℕ) → list_all is_digit ds ≡ true → list_all is_digit (ds ++ d ∷ []) ≡ true
  all-more [] h = ap (λ b. b && true) k
  all-more (c ∷ ds) h = and_from (is_digit c) (list_all is_digit (ds ++ d ∷ [])) ((and_parts (is_digit c) (list_all is_digit ds) h).0) (all-more ds ((and_parts (is_digit c) (list_all is_digit ds) h).1))

from-more : (n : ℕ) (ds : List ℕ) (d : ℕ) → decimal_from n (ds ++ d ∷ []) ≡ 10 * decimal_from n ds + (d - 48)
from-more n [] d = refl
from-more n (c ∷ ds) d = from-more (10 * n + (c - 48)) ds d

a-digit : (n : ℕ) → n < 10 → is_digit (48 + n) ≡ true
a-digit n h = grind (arith, nat_tests)

abbrev IsNumber : ℕ → List ℕ → Type 0
IsNumber n ds = (is_integer ds ≡ true) × (tokens.decimal ds ≡ n)

pub number-is : (n : ℕ) → n < 2 ^ 64 → IsNumber n (decimal n)
number-is = decimal_by_steps IsNumber one more where
  one : (n : ℕ) → n < 10 → IsNumber n ((48 + n) ∷ [])
  one n h = (ap (λ b. b && true) (a-digit n h), omega arith)

  more : (n : ℕ) (ds : List ℕ) → 10 ≤ n → IsNumber (n / 10) ds → IsNumber n (ds ++ ((48 + n % 10) ∷ []))
  more n ds h p = (digits-more ds (48 + n % 10) p.0 (a-digit (n % 10) (omega arith)), from-more 0 ds (48 + n % 10) ∙ ap (λ x. 10 * x + (48 + n % 10 - 48)) p.1 ∙ omega arith)

-- TEXTS

abbrev Escapes : ℕ → Type 0
Escapes c = ((rest : List ℕ) → closes false (escape c ++ rest) ≡ closes false rest) × ((rest : List ℕ) → content false (escape c ++ rest) ≡ c ∷ content false rest) × (encode_utf8_all (escape c) ≡ flat_map escape (encode_utf8 c))

equal-from : (c k : ℕ) → (c == k) ≡ true → c ≡ k
equal-from c k h = grind (arith, nat_tests)

special : (k : ℕ) → list_all (λ b. nat_lt b 128) (escape k) ≡ true → k < 128 → encode_utf8_all (escape k) ≡ flat_map escape (encode_utf8 k)
special k l h = low-same (escape k) l ∙ sym (append-nil (escape k)) ∙ ap (flat_map escape) (sym (encode_ascii k h))

differs-from : (c k : ℕ) → (c == k) ≡ false → c ≡ k → ⊥
differs-from c k h e = grind (arith, nat_tests)

allowed-last : (a b d : Bool) → (a || b || d) ≡ true → a ≡ false → b ≡ false → d ≡ true
allowed-last false false d h p q = h
allowed-last true b d h p q = cc
allowed-last false true d h p q = cc

escapes : (c : ℕ) → is_allowed c ≡ true → Escapes c
escapes c h = step (c == 34) (c == 92) (c == 10) (c == 9) refl refl refl refl where
  step : (a b d e : Bool) → (c == 34) ≡ a → (c == 92) ≡ b → (c == 10) ≡ d → (c == 9) ≡ e → Escapes c
  step true b d e p q r s = subst Escapes (sym (equal-from c 34 p)) ((λ rest. refl), (λ rest. refl), special 34 refl (lit< tt))
  step false true d e p q r s = subst Escapes (sym (equal-from c 92 q)) ((λ rest. refl), (λ rest. refl), special 92 refl (lit< tt))
  step false false true e p q r s = subst Escapes (sym (equal-from c 10 r)) ((λ rest. refl), (λ rest. refl), special 10 refl (lit< tt))
  step false false false true p q r s = subst Escapes (sym (equal-from c 9 s)) ((λ rest. refl), (λ rest. refl), special 9 refl (lit< tt))
  step false false false false p q r s =
      let high : nat_le 32 c ≡ true = allowed-last (c == 10) (c == 9) (nat_le 32 c) h r s in
      let same : escape c ≡ c ∷ [] = plain c p q r s in (
        (λ rest. ap (λ x. closes false (x ++ rest)) same ∙ closing (c == 34) (c == 92) (nat_le 32 c) rest p q high),
        (λ rest. ap (λ x. content false (x ++ rest)) same ∙ meaning (c == 34) (c == 92) rest p q),
        ap encode_utf8_all same ∙ append-nil (encode_utf8 c) ∙ sym (as-it-is c (differs-from c 34 p) (differs-from c 92 q) (differs-from c 10 r) (differs-from c 9 s)),
      ) where
        closing : (a b d : Bool) (rest : List ℕ) → a ≡ false → b ≡ false → d ≡ true → cond a (is_nil rest) (cond b (closes true rest) (d && closes false rest)) ≡ closes false rest
        closing true b d rest p q r = cc
        closing false true d rest p q r = cc
        closing false false true rest p q r = refl
        closing false false false rest p q r = cc

        meaning : (a b : Bool) (rest : List ℕ) → a ≡ false → b ≡ false → cond a [] (cond b (content true rest) (c ∷ content false rest)) ≡ c ∷ content false rest
        meaning true b rest p q = cc
        meaning false true rest p q = cc
        meaning false false rest p q = refl

pub quoted-closes : (cs : List ℕ) → list_all is_allowed cs ≡ true → closes false (flat_map escape cs ++ 34 ∷ []) ≡ true
quoted-closes [] h = refl
quoted-closes (c ∷ cs) h = ap (closes false) (append_assoc (escape c) (flat_map escape cs) (34 ∷ [])) ∙ (escapes c ((and_parts (is_allowed c) (list_all is_allowed cs) h).0)).0 (flat_map escape cs ++ 34 ∷ []) ∙ quoted-closes cs ((and_parts (is_allowed c) (list_all is_allowed cs) h).1)

pub quoted-means : (cs : List ℕ) → list_all is_allowed cs ≡ true → content false (flat_map escape cs ++ 34 ∷ []) ≡ cs
quoted-means [] h = refl
quoted-means (c ∷ cs) h = ap (content false) (append_assoc (escape c) (flat_map escape cs) (34 ∷ [])) ∙ (escapes c ((and_parts (is_allowed c) (list_all is_allowed cs) h).0)).1 (flat_map escape cs ++ 34 ∷ []) ∙ ap (λ x. c ∷ x) (quoted-means cs ((and_parts (is_allowed c) (list_all is_allowed cs) h).1))

flat-both : (xs ys : List ℕ) → flat_map escape (xs ++ ys) ≡ flat_map escape xs ++ flat_map escape ys
flat-both [] ys = refl
flat-both (x ∷ xs) ys = ap (λ z. escape x ++ z) (flat-both xs ys) ∙ sym (append_assoc (escape x) (flat_map escape xs) (flat_map escape ys))

quoted-bytes : (cs : List ℕ) → list_all is_allowed cs ≡ true → encode_utf8_all (flat_map escape cs) ≡ flat_map escape (encode_utf8_all cs)
quoted-bytes [] h = refl
quoted-bytes (c ∷ cs) h = encodes-append (escape c) (flat_map escape cs) ∙ ap (λ x. x ++ encode_utf8_all (flat_map escape cs)) (escapes c ((and_parts (is_allowed c) (list_all is_allowed cs) h).0)).2
    ∙ ap (λ x. flat_map escape (encode_utf8 c) ++ x) (quoted-bytes cs ((and_parts (is_allowed c) (list_all is_allowed cs) h).1)) ∙ sym (flat-both (encode_utf8 c) (encode_utf8_all cs))

abbrev pub quoted_chars : List ℕ → List ℕ
quoted_chars value = 34 ∷ (flat_map escape (chars value) ++ 34 ∷ [])

scalar-escape : (c : ℕ) → all_scalars (c ∷ []) ≡ true → all_scalars (escape c) ≡ true
scalar-escape c h = step (c == 34) (c == 92) (c == 10) (c == 9) where
  step : (a b d e : Bool) → all_scalars (cond a (codes "\\\"") (cond b (codes "\\\\") (cond d (codes "\\n") (cond e (codes "\\t") (c ∷ []))))) ≡ true
  step true b d e = refl
  step false true d e = refl
  step false false true e = refl
  step false false false true = refl
  step false false false false = h

escaped-scalars : (cs : List ℕ) → all_scalars cs ≡ true → all_scalars (flat_map escape cs) ≡ true
escaped-scalars [] h = refl
escaped-scalars (c ∷ cs) h = scalars-both (escape c) (flat_map escape cs) (scalar-escape c (one _ (all_scalars cs) h)) (escaped-scalars cs ((and_parts _ (all_scalars cs) h).1)) where
  one : (a b : Bool) → (a && b) ≡ true → (a && true) ≡ true
  one true b h = refl
  one false b h = cc

quoted-scalars : (value : List ℕ) → IsAllowed value → all_scalars (quoted_chars value) ≡ true
quoted-scalars value h = scalars-both (34 ∷ []) (flat_map escape (chars value) ++ 34 ∷ []) refl
    (scalars-both (flat_map escape (chars value)) (34 ∷ []) (escaped-scalars (chars value) (scalars-chars value (IsUtf8-from_is_utf8 value h.0))) refl)

pub text-mark : (value : List ℕ) (ms : List Mark) → IsAllowed value → IsSpaced ms → IsSpaced (Lexeme (quoted_chars value) (quoted_text value) ∷ ms)
text-mark value ms h s = (text-longest (quoted_chars value) (spelled ms) (quoted-closes (chars value) h.1), lit< tt, bytes, quoted-scalars value h, s) where
  bytes : encode_utf8_all (quoted_chars value) ≡ quoted_text value
  bytes = encodes-append (34 ∷ []) (flat_map escape (chars value) ++ 34 ∷ []) ∙ ap (λ x. x ++ encode_utf8_all (flat_map escape (chars value) ++ 34 ∷ [])) (low-same (34 ∷ []) refl)
      ∙ ap (λ x. 34 ∷ x) (encodes-append (flat_map escape (chars value)) (34 ∷ []) ∙ ap (λ x. encode_utf8_all (flat_map escape (chars value)) ++ x) (low-same (34 ∷ []) refl)
      ∙ ap (λ x. x ++ 34 ∷ []) (quoted-bytes (chars value) h.1 ∙ ap (flat_map escape) (encodes-chars value (IsUtf8-from_is_utf8 value h.0))))

pub value-is : (ds : List ℕ) (n : ℕ) → IsNumber n ds → token_value ds ≡ n
value-is ds n h = step (is_integer ds) h.0 where
  step : (b : Bool) → b ≡ true → cond b (tokens.decimal ds) 0 ≡ n
  step true e = h.1
  step false e = cc

pub number-mark : (n : ℕ) (ms : List Mark) → nat_lt n (2 ^ 63) ≡ true → stops (spelled ms) ≡ true → IsSpaced ms → IsSpaced (Lexeme (decimal n) (decimal n) ∷ ms)
number-mark n ms h t s =
    let small : n < 2 ^ 63 = below n h in
    let is = number-is n (omega arith) in
    (integer-longest (decimal n) (spelled ms) is.0 t, subst (λ (x : ℕ). x < 2 ^ 63) (sym (value-is (decimal n) n is)) small, encodes-IsAscii (decimal n) (IsAscii-decimal n (omega arith)), ascii-scalars (decimal n) (IsAscii-decimal n (omega arith)), s) where
      below : (n : ℕ) → nat_lt n (2 ^ 63) ≡ true → n < 2 ^ 63
      below n h = grind (arith, nat_tests)

-- EXPRESSIONS

abbrev pub leaf_marks : Piece → List Mark → List Mark
leaf_marks (piece.Int value span) rest = Lexeme (signed_decimal value) (signed_decimal value) ∷ rest
leaf_marks (piece.Text value span) rest = Lexeme (quoted_chars value) (quoted_text value) ∷ rest
leaf_marks (piece.Bool value span) rest = Lexeme (truth_text value) (truth_text value) ∷ rest
leaf_marks (piece.Name name) rest = Lexeme name.text name.text ∷ rest
leaf_marks (piece.Slot node attribute) rest = Lexeme node.text node.text ∷ Lexeme (codes ".") (codes ".") ∷ Lexeme attribute.text attribute.text ∷ rest
leaf_marks _ rest = rest

abbrev pub wrapped : Tree → (List Mark → List Mark) → List Mark → List Mark
wrapped (Leaf p) inner rest = inner rest
wrapped (Not span a) inner rest = Lexeme (codes "(") (codes "(") ∷ inner (Lexeme (codes ")") (codes ")") ∷ rest)
wrapped (Minus span a) inner rest = Lexeme (codes "(") (codes "(") ∷ inner (Lexeme (codes ")") (codes ")") ∷ rest)
wrapped (Binary sign span a b) inner rest = Lexeme (codes "(") (codes "(") ∷ inner (Lexeme (codes ")") (codes ")") ∷ rest)

abbrev pub tree_marks : Tree → List Mark → List Mark
tree_marks (Leaf p) rest = leaf_marks p rest
tree_marks (Not span a) rest = Lexeme (codes "not") (codes "not") ∷ Blank 32 ∷ wrapped a (tree_marks a) rest
tree_marks (Minus span a) rest = Lexeme (codes "-") (codes "-") ∷ wrapped a (tree_marks a) rest
tree_marks (Binary sign span a b) rest = wrapped a (tree_marks a) (Blank 32 ∷ Lexeme (sign_text sign) (sign_text sign) ∷ Blank 32 ∷ wrapped b (tree_marks b) rest)

-- the leaves of the tree are fine
abbrev pub IsTreeFine : Tree → Type 0
IsTreeFine (Leaf p) = IsLeaf p × IsPieceFine p
IsTreeFine (Not span a) = IsTreeFine a
IsTreeFine (Minus span a) = IsTreeFine a
IsTreeFine (Binary sign span a b) = IsTreeFine a × IsTreeFine b

abbrev Fits : (List Mark → List Mark) → Type 0
Fits marks = (rest : List Mark) → stops (spelled rest) ≡ true → IsSpaced rest → IsSpaced (marks rest) × (no_arrow (spelled (marks rest)) ≡ true)

pub first-letter : (c : ℕ) → is_letter c ≡ true → cond (nat_eq 62 c) false true ≡ true
first-letter c h = grind (arith, nat_tests)

pub first-digit : (c : ℕ) → is_digit c ≡ true → cond (nat_eq 62 c) false true ≡ true
first-digit c h = grind (arith, nat_tests)

pub number-below : (n : ℕ) → nat_lt n (2 ^ 63) ≡ true → n < 2 ^ 64
number-below n h = let small : n < 2 ^ 63 = grind (arith, nat_tests) in omega arith
