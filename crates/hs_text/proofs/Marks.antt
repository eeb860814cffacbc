use Rattle.std.proofs.Common.{ℕ, suc, ◌+◌, ◌-◌, ◌<◌, ◌^◌, ◌≡◌, ◌==◌, ◌||◌, ◌&&◌, cond, List, [], ◌∷◌, ◌++◌, length, take, drop, Bool, true, false, Some, None, is_some, nat_eq, nat_le, nat_lt, pos, codes, lit<, refl, ap, sym, subst, ◌∙◌, arith, append_assoc, length-append, encode_utf8_all}
use Rattle.std.proofs.lemmas.Bool.{and_parts}
use Rattle.std.specs.Bool.{⊤}
use Rattle.std.specs.List.{list_all}
use Rattle.std.proofs.lemmas.Str.{encodes-append, encode_ascii, encodes-IsAscii}
use Rattle.std.specs.Str.{all_scalars, IsAscii}
use Rattle.std.proofs.Math.Utf8.{low_scalar}
use Rattle.std.specs.Cmp.Lexicographic.{pointwise}
use Rattle.std.proofs.lemmas.Bool.Decides.{nat_tests}
use Rattle.hs_tokens.specs.declared.token.Token.{Token}
use Rattle.hs_tokens.specs.declared.token.Position.{Position}
use Rattle.hs_tokens.specs.declared.token.Kind.TheVariants as kind
use Rattle.hs_expr.proofs.Characters.{letter-only}
use Rattle.hs_text.proofs.Spellings.{word-ascii, both-kept}
use Rattle.hs_expr.specs.Characters.{is_letter, is_digit, is_word_part}
use Rattle.hs_tokens.specs.Tokens.{decimal, is_blank, is_word, is_integer, is_text, is_lexeme, is_nil, is_escaped, closes, token_kind, token_value, after, token_at}
use Rattle.hs_tokens.specs.Lexing.{IsLongest, Whole, Lexes, nothing, blank, token}
use Rattle.hs_text.specs.Words.{slice}
use Rattle.hs_text.proofs.Spelt.{PositionsMove, slice-at}

-- WHAT A TEXT IS WRITTEN WITH

-- a token by its characters, and what they are in UTF-8; or a blank
pub data Mark : Type 0 where
  Lexeme : List ℕ → List ℕ → Mark
  Blank : ℕ → Mark

-- the characters of the marks, their bytes, and the tokens among them
abbrev pub spelled : List Mark → List ℕ
spelled [] = []
spelled (Lexeme cs bs ∷ ms) = cs ++ spelled ms
spelled (Blank c ∷ ms) = c ∷ spelled ms

abbrev pub written : List Mark → List ℕ
written [] = []
written (Lexeme cs bs ∷ ms) = bs ++ written ms
written (Blank c ∷ ms) = c ∷ written ms

abbrev pub words : List Mark → List (List ℕ)
words [] = []
words (Lexeme cs bs ∷ ms) = cs ∷ words ms
words (Blank c ∷ ms) = words ms

-- what a token is, by its first character
pub record LexemesBegin : Type 0 where
  pub letter : (c : ℕ) (cs : List ℕ) → is_letter c ≡ true → is_lexeme (c ∷ cs) ≡ is_word (c ∷ cs)
  pub digit : (c : ℕ) (cs : List ℕ) → is_digit c ≡ true → is_lexeme (c ∷ cs) ≡ is_integer (c ∷ cs)
  pub quote : (c : ℕ) (cs : List ℕ) → (c == 34) ≡ true → is_lexeme (c ∷ cs) ≡ is_text (c ∷ cs)

-- each token is as long as it can be by that, blanks are blank, and the bytes are those of the characters
abbrev pub IsSpaced : List Mark → Type 0
IsSpaced [] = ⊤
IsSpaced (Lexeme cs bs ∷ ms) = (LexemesBegin → IsLongest cs (spelled ms)) × (token_value cs < 2 ^ 63) × (encode_utf8_all cs ≡ bs) × (all_scalars cs ≡ true) × IsSpaced ms
IsSpaced (Blank c ∷ ms) = (is_blank c ≡ true) × (encode_utf8_all (c ∷ []) ≡ c ∷ []) × (all_scalars (c ∷ []) ≡ true) × IsSpaced ms

abbrev pub tokens_from : Position → List Mark → List Token
tokens_from p [] = []
tokens_from p (Lexeme cs bs ∷ ms) = token_at p cs ∷ tokens_from (after p cs) ms
tokens_from p (Blank c ∷ ms) = tokens_from (after p (c ∷ [])) ms

pub marks-lex : LexemesBegin → (p : Position) (ms : List Mark) → IsSpaced ms → Lexes p (spelled ms) (tokens_from p ms) Whole
marks-lex begin p [] h = nothing
marks-lex begin p (Lexeme cs bs ∷ ms) h = token cs (spelled ms) refl (h.0 begin) h.1 (marks-lex begin (after p cs) ms h.4)
marks-lex begin p (Blank c ∷ ms) h = blank c (spelled ms) h.0 (marks-lex begin (after p (c ∷ [])) ms h.3)

pub marks-written : (ms : List Mark) → IsSpaced ms → encode_utf8_all (spelled ms) ≡ written ms
marks-written [] h = refl
marks-written (Lexeme cs bs ∷ ms) h = encodes-append cs (spelled ms) ∙ ap (λ x. x ++ encode_utf8_all (spelled ms)) h.2 ∙ ap (λ x. bs ++ x) (marks-written ms h.4)
marks-written (Blank c ∷ ms) h = encodes-append (c ∷ []) (spelled ms) ∙ ap (λ x. x ++ encode_utf8_all (spelled ms)) h.1 ∙ ap (λ x. c ∷ x) (marks-written ms h.3)

pub scalars-both : (xs ys : List ℕ) → all_scalars xs ≡ true → all_scalars ys ≡ true → all_scalars (xs ++ ys) ≡ true
scalars-both [] ys h k = k
scalars-both (x ∷ xs) ys h k = both _ (all_scalars xs) (all_scalars (xs ++ ys)) h (λ r. scalars-both xs ys r k) where
  both : (a b d : Bool) → (a && b) ≡ true → (b ≡ true → d ≡ true) → (a && d) ≡ true
  both true b d h f = f h
  both false b d h f = cc

pub marks-scalars : (ms : List Mark) → IsSpaced ms → all_scalars (spelled ms) ≡ true
marks-scalars [] h = refl
marks-scalars (Lexeme cs bs ∷ ms) h = scalars-both cs (spelled ms) h.3 (marks-scalars ms h.4)
marks-scalars (Blank c ∷ ms) h = scalars-both (c ∷ []) (spelled ms) h.2 (marks-scalars ms h.3)

-- the token is spelled so
pub record IsSpelled (source : List ℕ) (cs : List ℕ) (t : Token) : Type 0 where
  pub kind : t.kind ≡ token_kind cs
  pub number : t.number ≡ pos (token_value cs)
  pub slice : slice source t.span ≡ cs

pub data Spells (source : List ℕ) : List (List ℕ) → List Token → Type 0 where
  no_tokens : Spells source [] []
  and_token : {ws : List (List ℕ)} (cs : List ℕ) (t : Token) → IsSpelled source cs t → {ts : List Token} → Spells source ws ts → Spells source (cs ∷ ws) (t ∷ ts)

module _ (moves : PositionsMove) (source : List ℕ) where
  pub marks-spell : (before : List ℕ) (p : Position) (ms : List Mark) → source ≡ before ++ spelled ms → length before ≡ p.index → Spells source (words ms) (tokens_from p ms)
  marks-spell before p [] w i = no_tokens
  marks-spell before p (Lexeme cs bs ∷ ms) w i =
      let s : take (p.index + length cs - p.index) (drop p.index source) ≡ cs = ap (λ x. take (p.index + length cs - p.index) (drop p.index x)) w ∙ slice-at before cs (spelled ms) p.index i in
      and_token cs (token_at p cs) (record { kind = refl; number = refl; slice = s })
      (marks-spell (before ++ cs) (after p cs) ms (w ∙ sym (append_assoc before cs (spelled ms))) (length-append before cs ∙ ap (λ n. n + length cs) i ∙ sym (moves p cs)))
  marks-spell before p (Blank c ∷ ms) w i =
      marks-spell (before ++ c ∷ []) (after p (c ∷ [])) ms (w ∙ sym (append_assoc before (c ∷ []) (spelled ms))) (length-append before (c ∷ []) ∙ ap (λ n. n + 1) i ∙ sym (moves p (c ∷ [])))

-- WHAT IS AS LONG AS IT CAN BE

-- no token but a text continues with such a character
abbrev pub is_stop : ℕ → Bool
is_stop c = cond (is_word_part c || c == 61 || c == 62) false true

abbrev pub stops : List ℕ → Bool
stops [] = true
stops (c ∷ cs) = is_stop c

stop-part : (c : ℕ) → is_stop c ≡ true → is_word_part c ≡ false
stop-part c h = step (is_word_part c) (c == 61) (c == 62) h where
  step : (a b d : Bool) → cond (a || b || d) false true ≡ true → a ≡ false
  step true b d h = cc
  step false b d h = refl

abbrev Longer : List ℕ → List ℕ → Type 0
Longer cs rest = (d : ℕ) (m others : List ℕ) → rest ≡ d ∷ (m ++ others) → is_lexeme (cs ++ (d ∷ m)) ≡ true → ⊥

longest-by : (cs rest : List ℕ) → is_lexeme cs ≡ true → Longer cs rest → IsLongest cs rest
longest-by cs rest l n = record { is = l; longest = step } where
  step : (more others : List ℕ) → rest ≡ more ++ others → is_lexeme (cs ++ more) ≡ true → more ≡ []
  step [] others w h = refl
  step (d ∷ m) others w h = absurd (n d m others w h)

part-at : (p : ℕ → Bool) (cs : List ℕ) (d : ℕ) (m : List ℕ) → list_all p (cs ++ (d ∷ m)) ≡ true → p d ≡ true
part-at p [] d m h = (and_parts (p d) (list_all p m) h).0
part-at p (c ∷ cs) d m h = part-at p cs d m ((and_parts (p c) (list_all p (cs ++ (d ∷ m))) h).1)

first-stops : (rest : List ℕ) (d : ℕ) (more : List ℕ) → rest ≡ d ∷ more → stops rest ≡ true → is_stop d ≡ true
first-stops rest d more w h = subst (λ x. stops x ≡ true) w h

digit-part : (c : ℕ) → is_digit c ≡ true → is_word_part c ≡ true
digit-part c h = step (is_letter c) (is_digit c) h where
  step : (a b : Bool) → b ≡ true → (a || b) ≡ true
  step true b h = refl
  step false b h = h

pub word-longest : (cs rest : List ℕ) → is_word cs ≡ true → stops rest ≡ true → LexemesBegin → IsLongest cs rest
word-longest [] rest h s begin = cc
word-longest (c ∷ cs) rest h s begin =
    let l = (both-kept (is_letter c) (list_all is_word_part cs) (nat_le (length cs) 63) h).0 in
    longest-by (c ∷ cs) rest (begin.letter c cs l ∙ h) (λ d m others w k.
    let all = (both-kept (is_letter c) (list_all is_word_part (cs ++ (d ∷ m))) (nat_le (length (cs ++ (d ∷ m))) 63) (sym (begin.letter c (cs ++ (d ∷ m)) l) ∙ k)).1 in
    let part : is_word_part d ≡ true = part-at is_word_part cs d m all in
    let stop : is_word_part d ≡ false = stop-part d (first-stops rest d (m ++ others) w s) in
    cc)

pub integer-longest : (cs rest : List ℕ) → is_integer cs ≡ true → stops rest ≡ true → LexemesBegin → IsLongest cs rest
integer-longest [] rest h s begin = cc
integer-longest (c ∷ cs) rest h s begin =
    let l = (and_parts (is_digit c) (list_all is_digit cs) h).0 in
    longest-by (c ∷ cs) rest (begin.digit c cs l ∙ h) (λ d m others w k.
    let all = (and_parts (is_digit c) (list_all is_digit (cs ++ (d ∷ m))) (sym (begin.digit c (cs ++ (d ∷ m)) l) ∙ k)).1 in
    let part : is_word_part d ≡ true = digit-part d (part-at is_digit cs d m all) in
    let stop : is_word_part d ≡ false = stop-part d (first-stops rest d (m ++ others) w s) in
    cc)

closed-ends : (e : Bool) (cs : List ℕ) (d : ℕ) (m : List ℕ) → closes e cs ≡ true → closes e (cs ++ (d ∷ m)) ≡ true → ⊥
closed-ends e [] d m h k = cc
closed-ends true (c ∷ cs) d m h k = closed-ends false cs d m ((and_parts (is_escaped c) (closes false cs) h).1) ((and_parts (is_escaped c) (closes false (cs ++ (d ∷ m))) k).1)
closed-ends false (c ∷ cs) d m h k = step (c == 34) (c == 92) h k (closed-ends true cs d m) (closed-ends false cs d m) where
  nil-ends : (cs : List ℕ) → is_nil (cs ++ (d ∷ m)) ≡ true → ⊥
  nil-ends [] k = cc
  nil-ends (x ∷ xs) k = cc

  step : (a b : Bool) → cond a (is_nil cs) (cond b (closes true cs) (nat_le 32 c && closes false cs)) ≡ true
      → cond a (is_nil (cs ++ (d ∷ m))) (cond b (closes true (cs ++ (d ∷ m))) (nat_le 32 c && closes false (cs ++ (d ∷ m)))) ≡ true
      → (closes true cs ≡ true → closes true (cs ++ (d ∷ m)) ≡ true → ⊥) → (closes false cs ≡ true → closes false (cs ++ (d ∷ m)) ≡ true → ⊥) → ⊥
  step true b h k f g = nil-ends cs k
  step false true h k f g = f h k
  step false false h k f g = g ((and_parts (nat_le 32 c) (closes false cs) h).1) ((and_parts (nat_le 32 c) (closes false (cs ++ (d ∷ m))) k).1)

pub text-longest : (cs rest : List ℕ) → is_text cs ≡ true → LexemesBegin → IsLongest cs rest
text-longest [] rest h begin = cc
text-longest (c ∷ cs) rest h begin =
    let l = (and_parts (c == 34) (closes false cs) h).0 in
    longest-by (c ∷ cs) rest (begin.quote c cs l ∙ h) (λ d m others w k.
    closed-ends false cs d m ((and_parts (c == 34) (closes false cs) h).1) ((and_parts (c == 34) (closes false (cs ++ (d ∷ m))) (sym (begin.quote c (cs ++ (d ∷ m)) l) ∙ k)).1))

pub any-longest : (cs rest : List ℕ) → is_lexeme cs ≡ true → ((d : ℕ) (m : List ℕ) → is_lexeme (cs ++ (d ∷ m)) ≡ false) → IsLongest cs rest
any-longest cs rest l n = longest-by cs rest l (λ d m others w k. cc (n d m))

pub blank-longest : (cs rest : List ℕ) → is_lexeme cs ≡ true → ((m : List ℕ) → is_lexeme (cs ++ (32 ∷ m)) ≡ false) → IsLongest cs (32 ∷ rest)
blank-longest cs rest l n = longest-by cs (32 ∷ rest) l (λ d m others w k.
    let same : d ≡ 32 = first d (m ++ others) w in
    let found : is_lexeme (cs ++ (32 ∷ m)) ≡ true = subst (λ (x : ℕ). is_lexeme (cs ++ (x ∷ m)) ≡ true) same k in
    cc (n m)) where
      first : (d : ℕ) (more : List ℕ) → 32 ∷ rest ≡ d ∷ more → d ≡ 32
      first d more w = cc

-- no arrow begins with it
abbrev pub no_arrow : List ℕ → Bool
no_arrow [] = true
no_arrow (c ∷ cs) = cond (nat_eq 62 c) false true

pub minus-longest : (rest : List ℕ) → no_arrow rest ≡ true → IsLongest (codes "-") rest
minus-longest rest s = longest-by (codes "-") rest refl (λ d m others w k. step (nat_eq 62 d) m (subst (λ x. no_arrow x ≡ true) w s) k) where
  step : (b : Bool) (m : List ℕ) → cond b false true ≡ true → is_some (cond (b && pointwise nat_eq [] m) (Some kind.Arrow) None) ≡ true → ⊥
  step true m s k = cc
  step false m s k = cc

abbrev is_low : ℕ → Bool
is_low c = nat_lt c 128

pub low-same : (cs : List ℕ) → list_all is_low cs ≡ true → encode_utf8_all cs ≡ cs
low-same [] h = refl
low-same (c ∷ cs) h =
    let low : c < 128 = below c ((and_parts (is_low c) (list_all is_low cs) h).0) in
    ap (λ x. x ++ encode_utf8_all cs) (encode_ascii c low) ∙ ap (λ x. c ∷ x) (low-same cs ((and_parts (is_low c) (list_all is_low cs) h).1)) where
      below : (c : ℕ) → is_low c ≡ true → c < 128
      below c h = grind (arith, nat_tests)

pub low-scalars : (cs : List ℕ) → list_all is_low cs ≡ true → all_scalars cs ≡ true
low-scalars [] h = refl
low-scalars (c ∷ cs) h = both _ (all_scalars cs) (low_scalar c (below c ((and_parts (is_low c) (list_all is_low cs) h).0))) (low-scalars cs ((and_parts (is_low c) (list_all is_low cs) h).1)) where
  below : (c : ℕ) → is_low c ≡ true → c < 55296
  below c h = let low : c < 128 = grind (arith, nat_tests) in omega arith

  both : (a b : Bool) → a ≡ true → b ≡ true → (a && b) ≡ true
  both true b h k = k
  both false b h k = cc

pub ascii-scalars : (cs : List ℕ) → IsAscii cs → all_scalars cs ≡ true
ascii-scalars [] h = refl
ascii-scalars (c ∷ cs) h = both _ (all_scalars cs) (low_scalar c (let low : c < 128 = h 0 in omega arith)) (ascii-scalars cs (λ i. h (suc i))) where
  both : (a b : Bool) → a ≡ true → b ≡ true → (a && b) ≡ true
  both true b h k = k
  both false b h k = cc

not-number : (cs : List ℕ) → is_integer cs ≡ false → token_value cs < 2 ^ 63
not-number cs h = step (is_integer cs) h where
  step : (b : Bool) → b ≡ false → cond b (decimal cs) 0 < 2 ^ 63
  step true h = cc
  step false h = lit< tt

-- a sign that no other sign continues
pub sign-mark : (cs : List ℕ) (ms : List Mark) → is_lexeme cs ≡ true → is_integer cs ≡ false → list_all is_low cs ≡ true → ((d : ℕ) (m : List ℕ) → is_lexeme (cs ++ (d ∷ m)) ≡ false) → IsSpaced ms → IsSpaced (Lexeme cs cs ∷ ms)
sign-mark cs ms l i a n h = ((λ begin. any-longest cs (spelled ms) l n), not-number cs i, low-same cs a, low-scalars cs a, h)

-- a sign or a reserved word before a space
pub spaced-mark : (cs : List ℕ) (ms : List Mark) → is_lexeme cs ≡ true → is_integer cs ≡ false → list_all is_low cs ≡ true → ((m : List ℕ) → is_lexeme (cs ++ (32 ∷ m)) ≡ false) → IsSpaced ms → IsSpaced (Lexeme cs cs ∷ Blank 32 ∷ ms)
spaced-mark cs ms l i a n h = ((λ begin. blank-longest cs (spelled ms) l n), not-number cs i, low-same cs a, low-scalars cs a, (refl, low-same (32 ∷ []) refl, refl, h))

-- a word before what stops it
pub word-mark : (cs : List ℕ) (ms : List Mark) → is_word cs ≡ true → stops (spelled ms) ≡ true → IsSpaced ms → IsSpaced (Lexeme cs cs ∷ ms)
word-mark cs ms w s h = (word-longest cs (spelled ms) w s, not-number cs (word-no-integer cs w), encodes-IsAscii cs (word-ascii cs w), ascii-scalars cs (word-ascii cs w), h) where
  word-no-integer : (cs : List ℕ) → is_word cs ≡ true → is_integer cs ≡ false
  word-no-integer [] h = refl
  word-no-integer (c ∷ cs) h = ap (λ b. b && list_all is_digit cs) (letter-only c (both-kept (is_letter c) (list_all is_word_part cs) (nat_le (length cs) 63) h).0).0

-- a blank
pub blank-mark : (c : ℕ) (ms : List Mark) → is_blank c ≡ true → is_low c ≡ true → IsSpaced ms → IsSpaced (Blank c ∷ ms)
blank-mark c ms b l h = (b, low-same (c ∷ []) (ap (λ x. x && true) l), low-scalars (c ∷ []) (ap (λ x. x && true) l), h)
