use Rattle.std.proofs.Common.{◌≡◌, ◌<◌, ◌≤◌, ◌+◌, ◌++◌, ◌==◌, ◌&&◌, ◌⊎◌, inl, inr, ℕ, suc, List, [], ◌∷◌, length, take, drop, min, Bool, true, false, Option, Some, None, get_or, nat_le, cond, refl, sym, ap, subst, ◌∙◌, pos, option_to_list, ◌^◌, lit<, arith, append_assoc, length-append}
use Rattle.std.specs.List.{list_all, prefix_len}
use Rattle.std.specs.Option.{is_some}
use Rattle.std.proofs.lemmas.List.{take-append-drop, length-take-le, take_at, drop_at}
use Rattle.std.proofs.lemmas.List.Sums.{prefix_len-le-length}
use Rattle.std.proofs.lemmas.Bool.Decides.{nat_tests, leb_tells}
use Rattle.std.proofs.lemmas.Bool.{le-leb, leb-true, and_parts}
use Rattle.hs_tokens.specs.declared.token.Kind.{Kind}
use Rattle.hs_tokens.specs.declared.token.Kind.TheVariants as kind
use Rattle.hs_tokens.specs.declared.token.Token.{Token}
use Rattle.hs_tokens.specs.declared.token.Position.{Position}
use Rattle.hs_tokens.specs.declared.scan.Element.{Element}
use Rattle.hs_tokens.specs.declared.scan.Element.TheVariants.{Skipped, Integer, Lexeme, Unknown}
use Rattle.hs_expr.specs.Characters.{is_letter, is_digit, is_word_part}
use Rattle.hs_tokens.specs.Tokens.{is_blank, is_word, is_integer, is_text, is_sign, is_lexeme, is_comment, is_in_line, ends_line, closes, lookup, token_kind, token_value, signs, after, decimal, token_at}
use Rattle.hs_tokens.specs.Lexing.{IsLongest, IsStrange, Ending, Lexes, blank, comment, token, too_large, strange, TooLarge, Strange}
use Rattle.hs_tokens.specs.Scanning.{closing_len, word_rest_len, word_kind, text_element, sign_element, known_or, sign_at, slash_at, element_at, Advances}
use Rattle.hs_tokens.proofs.Longest.{is_plain, sign-short, letter-only, quote-only, not-plain, letter-lexeme, digit-lexeme, quote-lexeme, other-lexeme, run-is, run-longest, no-more, Closed, closing-closes, closes-closing, some-is}

-- the characters as a front of this length and a rest
pub record Cut (cs : List ℕ) (n : ℕ) (P : List ℕ → List ℕ → Type 0) : Type 0 where
  pub front : List ℕ
  pub rest : List ℕ
  pub whole : cs ≡ front ++ rest
  pub len : length front ≡ n
  pub some : 0 < n
  pub is : P front rest

-- what is skipped, whatever the rest is
abbrev pub Separates : List ℕ → List ℕ → Type 0
Separates front rest = (p : Position) (ts : List Token) (e : Ending) → Lexes (after p front) rest ts e → Lexes p (front ++ rest) ts e

pub record Number (front rest : List ℕ) : Type 0 where
  pub longest : IsLongest front rest
  pub integer : is_integer front ≡ true

pub record Other (k : Kind) (front rest : List ℕ) : Type 0 where
  pub longest : IsLongest front rest
  pub kind : token_kind front ≡ k
  pub value : token_value front ≡ 0

abbrev pub Describes : ℕ → List ℕ → Element → Type 0
Describes c cs (Skipped n) = Cut (c ∷ cs) n Separates
Describes c cs (Integer n) = Cut (c ∷ cs) n Number
Describes c cs (Lexeme k n) = Cut (c ∷ cs) n (Other k)
Describes c cs Unknown = IsStrange c cs

word-element : (c : ℕ) (cs : List ℕ) (n : ℕ) → n ≡ suc (word_rest_len cs) → is_letter c ≡ true → Cut (c ∷ cs) n (Other (word_kind (take n (c ∷ cs))))
word-element c cs n e h =
    let m = word_rest_len cs in
    let o = letter-only c h in
    let within : m ≤ prefix_len is_word_part cs = omega arith in
    let few : m ≤ 63 = omega arith in
    let len : length (take m cs) ≡ m = length-take-le m cs (omega (arith, prefix_len-le-length is_word_part cs)) in
    let all : list_all is_word_part (take m cs) ≡ true = run-is is_word_part cs m within in
    let short : nat_le (length (take m cs)) 63 ≡ true = le-leb (length (take m cs)) 63 (omega arith) in
    let is : is_word (c ∷ take m cs) ≡ true = rw (h, all, short) refl in
    let whole : c ∷ cs ≡ (c ∷ take m cs) ++ drop m cs = ap (λ x. c ∷ x) (sym (take-append-drop m cs)) in
    let no_text : is_text (c ∷ take m cs) ≡ false = rw o.1 refl in
    let no_integer : is_integer (c ∷ take m cs) ≡ false = rw o.0 refl in
    record {
      front = c ∷ take m cs;
      rest = drop m cs;
      whole = whole;
      len = omega arith;
      some = omega arith;
      is = record {
        longest = record {
          is = letter-lexeme c (take m cs) h ∙ is;
          longest = λ more others w l.
              let word : (is_letter c && list_all is_word_part (take m cs ++ more) && nat_le (length (take m cs ++ more)) 63) ≡ true = sym (letter-lexeme c (take m cs ++ more) h) ∙ l in
              let each : list_all is_word_part (take m cs ++ more) ≡ true = grind arith in
              let bound : length (take m cs ++ more) ≤ 63 = leb-true (length (take m cs ++ more)) 63 (grind arith) in
              run-longest is_word_part cs more others m within w each (word-bound (prefix_len is_word_part cs) (length (take m cs ++ more)) bound);
        };
        kind = rw (no_integer, no_text, is) (rw e refl);
        value = rw no_integer refl;
      };
    } where
      word-bound : (p n : ℕ) → n ≤ 63 → n ≤ min p 63 ⊎ (p < n)
      word-bound p n h = elim (leb_tells n p) [ inl t ↦ inl (omega arith) | inr t ↦ inr (omega arith) ]

number-element : (c : ℕ) (cs : List ℕ) (n : ℕ) → n ≡ suc (prefix_len is_digit cs) → is_digit c ≡ true → Cut (c ∷ cs) n Number
number-element c cs n e h =
    let m = prefix_len is_digit cs in
    let within : m ≤ prefix_len is_digit cs = omega arith in
    let len : length (take m cs) ≡ m = length-take-le m cs (omega (arith, prefix_len-le-length is_digit cs)) in
    let all : list_all is_digit (take m cs) ≡ true = run-is is_digit cs m within in
    let is : is_integer (c ∷ take m cs) ≡ true = rw (h, all) refl in
    record {
      front = c ∷ take m cs;
      rest = drop m cs;
      whole = ap (λ x. c ∷ x) (sym (take-append-drop m cs));
      len = omega arith;
      some = omega arith;
      is = record {
        longest = record {
          is = digit-lexeme c (take m cs) h ∙ is;
          longest = λ more others w l.
              let digits : (is_digit c && list_all is_digit (take m cs ++ more)) ≡ true = sym (digit-lexeme c (take m cs ++ more) h) ∙ l in
              let each : list_all is_digit (take m cs ++ more) ≡ true = grind arith in
              run-longest is_digit cs more others m within w each (run-bound m (length (take m cs ++ more)));
        };
        integer = is;
      };
    } where
      run-bound : (m n : ℕ) → n ≤ m ⊎ (m < n)
      run-bound m n = elim (leb_tells n m) [ inl t ↦ inl (omega arith) | inr t ↦ inr (omega arith) ]

text-cut : (c : ℕ) (cs : List ℕ) (n : ℕ) → (c == 34) ≡ true → closing_len false cs ≡ Some n → Cut (c ∷ cs) (suc n) (Other kind.Text)
unfolding Closed
text-cut c cs n h closed =
    let o = quote-only c h in
    let k = closing-closes false cs n closed in
    let len : length (take n cs) ≡ n = length-take-le n cs k.1 in
    let is : is_text (c ∷ take n cs) ≡ true = rw (h, k.0) refl in
    let no_integer : is_integer (c ∷ take n cs) ≡ false = rw o.1 refl in
    record {
      front = c ∷ take n cs;
      rest = drop n cs;
      whole = ap (λ x. c ∷ x) (sym (take-append-drop n cs));
      len = omega arith;
      some = omega arith;
      is = record {
        longest = record {
          is = quote-lexeme c (take n cs) h ∙ is;
          longest = λ more others w l.
              let text : ((c == 34) && closes false (take n cs ++ more)) ≡ true = sym (quote-lexeme c (take n cs ++ more) h) ∙ l in
              let again : closes false (take n cs ++ more) ≡ true = grind arith in
              let joined : (take n cs ++ more) ++ others ≡ cs = append_assoc (take n cs) more others ∙ ap (λ x. take n cs ++ x) (sym w) ∙ take-append-drop n cs in
              let whole : closing_len false ((take n cs ++ more) ++ others) ≡ Some (length (take n cs ++ more)) = closes-closing false (take n cs ++ more) others again in
              let same : n ≡ length (take n cs ++ more) = some-is n (length (take n cs ++ more)) (sym closed ∙ ap (closing_len false) (sym joined) ∙ whole) in
              no-more more (omega (arith, length-append (take n cs) more));
        };
        kind = rw (no_integer, is) refl;
        value = rw no_integer refl;
      };
    }

-- what begins with a character that begins no word, number, text or comment
pub head-is : (c d : ℕ) (cs ds : List ℕ) → c ∷ cs ≡ d ∷ ds → c ≡ d
head-is c d cs ds e = cc

pub tail-is : (c d : ℕ) (cs ds : List ℕ) → c ∷ cs ≡ d ∷ ds → cs ≡ ds
tail-is c d cs ds e = cc

strange-text : (c : ℕ) (cs : List ℕ) → (c == 34) ≡ true → is_blank c ≡ false → (c == 47) ≡ false → closing_len false cs ≡ None → IsStrange c cs
strange-text c cs h b d none = record {
  no_blank = b;
  no_comment = no-comment;
  no_token = no-token;
} where
  no-comment : (front rest : List ℕ) → c ∷ cs ≡ front ++ rest → is_comment front ≡ false
  no-comment [] rest w = refl
  no-comment (x ∷ []) rest w = refl
  no-comment (x ∷ y ∷ xs) rest w = let e : c ≡ x = head-is c x cs (y ∷ (xs ++ rest)) w in let f : (x == 47) ≡ false = subst (λ (z : ℕ). (z == 47) ≡ false) e d in rw f refl

  no-token : (front rest : List ℕ) → c ∷ cs ≡ front ++ rest → is_lexeme front ≡ false
  no-token [] rest w = refl
  no-token (x ∷ xs) rest w =
      let e : c ≡ x = head-is c x cs (xs ++ rest) w in
      let g : (x == 34) ≡ true = subst (λ (z : ℕ). (z == 34) ≡ true) e h in
      let t : cs ≡ xs ++ rest = tail-is c x cs (xs ++ rest) w in
      quote-lexeme x xs g ∙ rw g (no-close (closes false xs) refl t)
    where
      no-close : (q : Bool) → closes false xs ≡ q → cs ≡ xs ++ rest → closes false xs ≡ false
      no-close false q t = q
      no-close true q t = let s : closing_len false (xs ++ rest) ≡ Some (length xs) = closes-closing false xs rest q in let u : closing_len false (xs ++ rest) ≡ None = rw t at none in cc

strange-other : (c : ℕ) (cs : List ℕ) → is_letter c ≡ false → is_digit c ≡ false → (c == 34) ≡ false → is_blank c ≡ false
    → ((front rest : List ℕ) → c ∷ cs ≡ front ++ rest → is_comment front ≡ false)
    → ((front rest : List ℕ) → c ∷ cs ≡ front ++ rest → is_sign front ≡ false) → IsStrange c cs
strange-other c cs l d q b no_comment no_sign = record {
  no_blank = b;
  no_comment = no_comment;
  no_token = no-token;
} where
  no-token : (front rest : List ℕ) → c ∷ cs ≡ front ++ rest → is_lexeme front ≡ false
  no-token [] rest w = refl
  no-token (x ∷ xs) rest w =
      let e : c ≡ x = head-is c x cs (xs ++ rest) w in
      let l' : is_letter x ≡ false = subst (λ (z : ℕ). is_letter z ≡ false) e l in
      let d' : is_digit x ≡ false = subst (λ (z : ℕ). is_digit z ≡ false) e d in
      let q' : (x == 34) ≡ false = subst (λ (z : ℕ). (z == 34) ≡ false) e q in
      other-lexeme x xs l' d' q' ∙ no_sign (x ∷ xs) rest w

long-sign : (x y z : ℕ) (zs : List ℕ) → is_sign (x ∷ y ∷ z ∷ zs) ≡ false
long-sign x y z zs = step (is_sign (x ∷ y ∷ z ∷ zs)) refl where
  step : (t : Bool) → is_sign (x ∷ y ∷ z ∷ zs) ≡ t → t ≡ false
  step false e = refl
  step true e = let s : (is_plain x && nat_le (length (y ∷ z ∷ zs)) 1) ≡ true = sign-short (x ∷ y ∷ z ∷ zs) e in let t : length (y ∷ z ∷ zs) ≤ 1 = leb-true (length (y ∷ z ∷ zs)) 1 ((and_parts (is_plain x) (nat_le (length (y ∷ z ∷ zs)) 1) s).1) in absurd (omega arith)

none-no : (o : Option Kind) → o ≡ None → is_some o ≡ false
none-no None e = refl
none-no (Some k) e = cc

some-yes : (o : Option Kind) (k : Kind) → o ≡ Some k → is_some o ≡ true
some-yes None k e = cc
some-yes (Some j) k e = refl

sign-two : (c d : ℕ) (cs : List ℕ) (k : Kind) → is_letter c ≡ false → is_digit c ≡ false → (c == 34) ≡ false → lookup signs (c ∷ d ∷ []) ≡ Some k → Cut (c ∷ d ∷ cs) 2 (Other k)
sign-two c d cs k l g q found = record {
  front = c ∷ d ∷ [];
  rest = cs;
  whole = refl;
  len = refl;
  some = omega arith;
  is = record {
    longest = record {
      is = other-lexeme c (d ∷ []) l g q ∙ some-yes (lookup signs (c ∷ d ∷ [])) k found;
      longest = longest;
    };
    kind = rw (g, q, l, found) refl;
    value = rw g refl;
  };
} where
  longest : (more others : List ℕ) → cs ≡ more ++ others → is_lexeme (c ∷ d ∷ more) ≡ true → more ≡ []
  longest [] others w h = refl
  longest (x ∷ more) others w h = let a : is_sign (c ∷ d ∷ x ∷ more) ≡ true = sym (other-lexeme c (d ∷ x ∷ more) l g q) ∙ h in absurd (cc (long-sign c d x more))

sign-one : (c : ℕ) (cs : List ℕ) (k : Kind) → is_letter c ≡ false → is_digit c ≡ false → (c == 34) ≡ false → ((d : ℕ) (ds : List ℕ) → cs ≡ d ∷ ds → lookup signs (c ∷ d ∷ []) ≡ None) → lookup signs (c ∷ []) ≡ Some k → Cut (c ∷ cs) 1 (Other k)
sign-one c cs k l g q alone found = record {
  front = c ∷ [];
  rest = cs;
  whole = refl;
  len = refl;
  some = omega arith;
  is = record {
    longest = record {
      is = other-lexeme c [] l g q ∙ some-yes (lookup signs (c ∷ [])) k found;
      longest = longest;
    };
    kind = rw (g, q, l, found) refl;
    value = rw g refl;
  };
} where
  longest : (more others : List ℕ) → cs ≡ more ++ others → is_lexeme (c ∷ more) ≡ true → more ≡ []
  longest [] others w h = refl
  longest (x ∷ []) others w h = let a : is_sign (c ∷ x ∷ []) ≡ true = sym (other-lexeme c (x ∷ []) l g q) ∙ h in absurd (cc (none-no (lookup signs (c ∷ x ∷ [])) (alone x others w)))
  longest (x ∷ y ∷ more) others w h = let a : is_sign (c ∷ x ∷ y ∷ more) ≡ true = sym (other-lexeme c (x ∷ y ∷ more) l g q) ∙ h in absurd (cc (long-sign c x y more))

sign-none : (c : ℕ) (cs : List ℕ) → ((d : ℕ) (ds : List ℕ) → cs ≡ d ∷ ds → lookup signs (c ∷ d ∷ []) ≡ None) → lookup signs (c ∷ []) ≡ None → (front rest : List ℕ) → c ∷ cs ≡ front ++ rest → is_sign front ≡ false
sign-none c cs alone none [] rest w = refl
sign-none c cs alone none (x ∷ []) rest w = let e : c ≡ x = head-is c x cs rest w in rw (← e) (none-no (lookup signs (c ∷ [])) none)
sign-none c cs alone none (x ∷ y ∷ []) rest w = let e : c ≡ x = head-is c x cs (y ∷ rest) w in rw (← e) (none-no (lookup signs (c ∷ y ∷ [])) (alone y rest (tail-is c x cs (y ∷ rest) w)))
sign-none c cs alone none (x ∷ y ∷ z ∷ zs) rest w = long-sign x y z zs

no-slash : (c : ℕ) (cs : List ℕ) → (c == 47) ≡ false → (front rest : List ℕ) → c ∷ cs ≡ front ++ rest → is_comment front ≡ false
no-slash c cs h [] rest w = refl
no-slash c cs h (x ∷ []) rest w = refl
no-slash c cs h (x ∷ y ∷ xs) rest w = let e : c ≡ x = head-is c x cs (y ∷ (xs ++ rest)) w in let f : (x == 47) ≡ false = subst (λ (z : ℕ). (z == 47) ≡ false) e h in rw f refl

-- what a sign's characters are
module _ (c : ℕ) (l : is_letter c ≡ false) (g : is_digit c ≡ false) (q : (c == 34) ≡ false) (b : is_blank c ≡ false) (s : (c == 47) ≡ false) where
  one-sign : (cs : List ℕ) (o : Option Kind) → ((d : ℕ) (ds : List ℕ) → cs ≡ d ∷ ds → lookup signs (c ∷ d ∷ []) ≡ None) → lookup signs (c ∷ []) ≡ o → Describes c cs (sign_element 1 o)
  one-sign cs None alone e = strange-other c cs l g q b (no-slash c cs s) (sign-none c cs alone e)
  one-sign cs (Some k) alone e = sign-one c cs k l g q alone e

  two-signs : (d : ℕ) (cs : List ℕ) (o : Option Kind) → lookup signs (c ∷ d ∷ []) ≡ o → Describes c (d ∷ cs) (known_or (sign_element 2 o) (sign_element 1 (lookup signs (c ∷ []))))
  two-signs d cs None e = one-sign (d ∷ cs) (lookup signs (c ∷ [])) (λ x xs w. rw (← (head-is d x cs xs w)) e) refl
  two-signs d cs (Some k) e = sign-two c d cs k l g q e

  sign-described : (cs : List ℕ) → Describes c cs (sign_at c cs)
  sign-described [] = one-sign [] (lookup signs (c ∷ [])) (λ x xs w. cc) refl
  sign-described (d ∷ cs) = two-signs d cs (lookup signs (c ∷ d ∷ [])) refl

-- a comment goes to the line's end
ends : (cs : List ℕ) → ends_line (drop (prefix_len is_in_line cs) cs) ≡ true
ends [] = refl
ends (c ∷ cs) = step (c == 10) refl (ends cs) where
  step : (t : Bool) → (c == 10) ≡ t → ends_line (drop (prefix_len is_in_line cs) cs) ≡ true → ends_line (drop (cond (cond t false true) (1 + prefix_len is_in_line cs) 0) (c ∷ cs)) ≡ true
  step true e i = e
  step false e i = rw one-more i where
    one-more : 1 + prefix_len is_in_line cs ≡ suc (prefix_len is_in_line cs)
    one-more = omega arith

module _ (c : ℕ) (s : (c == 47) ≡ true) where
  slash-only : (is_letter c ≡ false) × (is_digit c ≡ false) × ((c == 34) ≡ false) × (is_blank c ≡ false) × (is_plain c ≡ false)
  slash-only = (grind (arith, nat_tests), (grind (arith, nat_tests)), (grind (arith, nat_tests)), (grind (arith, nat_tests)), (grind (arith, nat_tests)))

  slash-sign : (cs front rest : List ℕ) → c ∷ cs ≡ front ++ rest → is_sign front ≡ false
  slash-sign cs [] rest w = refl
  slash-sign cs (x ∷ xs) rest w = not-plain x xs (subst (λ (z : ℕ). is_plain z ≡ false) (head-is c x cs (xs ++ rest) w) slash-only.4)

  slash-cut : (d : ℕ) (cs : List ℕ) → (d == 47) ≡ true → Cut (c ∷ d ∷ cs) (suc (suc (prefix_len is_in_line cs))) Separates
  slash-cut d cs t =
      let m = prefix_len is_in_line cs in
      let len : length (take m cs) ≡ m = length-take-le m cs (prefix_len-le-length is_in_line cs) in
      let all : list_all is_in_line (take m cs) ≡ true = run-is is_in_line cs m (omega arith) in
      record {
        front = c ∷ d ∷ take m cs;
        rest = drop m cs;
        whole = ap (λ x. c ∷ d ∷ x) (sym (take-append-drop m cs));
        len = omega arith;
        some = omega arith;
        is = λ p ts e r. comment (c ∷ d ∷ take m cs) (drop m cs) refl (rw (s, t, all) refl) (ends cs) r;
      }

  no-comment-one : (front rest : List ℕ) → c ∷ [] ≡ front ++ rest → is_comment front ≡ false
  no-comment-one [] rest w = refl
  no-comment-one (x ∷ []) rest w = refl
  no-comment-one (x ∷ y ∷ xs) rest w = cc

  no-comment-two : (d : ℕ) (cs front rest : List ℕ) → (d == 47) ≡ false → c ∷ d ∷ cs ≡ front ++ rest → is_comment front ≡ false
  no-comment-two d cs [] rest t w = refl
  no-comment-two d cs (x ∷ []) rest t w = refl
  no-comment-two d cs (x ∷ y ∷ xs) rest t w =
      let e : d ≡ y = head-is d y cs (xs ++ rest) (tail-is c x (d ∷ cs) (y ∷ (xs ++ rest)) w) in
      let f : (y == 47) ≡ false = subst (λ (z : ℕ). (z == 47) ≡ false) e t in
      both-false (x == 47) (list_all is_in_line xs) (y == 47) f
    where
      both-false : (a b t : Bool) → t ≡ false → (a && t && b) ≡ false
      both-false true b t e = rw e refl
      both-false false b t e = refl

  slash-described : (cs : List ℕ) → Describes c cs (slash_at cs)
  slash-described [] = strange-other c [] slash-only.0 slash-only.1 slash-only.2 slash-only.3 no-comment-one (slash-sign [])
  slash-described (d ∷ cs) = step (d == 47) refl where
    two : 2 + prefix_len is_in_line cs ≡ suc (suc (prefix_len is_in_line cs))
    two = omega arith

    step : (t : Bool) → (d == 47) ≡ t → Describes c (d ∷ cs) (cond t (Skipped (2 + prefix_len is_in_line cs)) Unknown)
    step true t = rw two (slash-cut d cs t)
    step false t = strange-other c (d ∷ cs) slash-only.0 slash-only.1 slash-only.2 slash-only.3 (λ front rest w. no-comment-two d cs front rest t w) (slash-sign (d ∷ cs))

one-plus : (n : ℕ) → 1 + n ≡ suc n
one-plus n = omega arith

-- what begins with a character is what is said of it
pub described : (c : ℕ) (cs : List ℕ) → Describes c cs (element_at c cs)
described c cs = step (is_blank c) refl (is_letter c) refl (is_digit c) refl (c == 34) refl (c == 47) refl where
  quoted : (o : Option ℕ) → closing_len false cs ≡ o → (c == 34) ≡ true → is_blank c ≡ false → (c == 47) ≡ false → Describes c cs (text_element o)
  quoted None e q b s = strange-text c cs q b s e
  quoted (Some n) e q b s = rw (one-plus n) (text-cut c cs n q e)

  quote-no-slash : (c == 34) ≡ true → (c == 47) ≡ false
  quote-no-slash h = grind (arith, nat_tests)

  separates : is_blank c ≡ true → Cut (c ∷ cs) 1 Separates
  separates b = record { front = c ∷ []; rest = cs; whole = refl; len = refl; some = omega arith; is = λ p ts e r. blank c cs b r }

  step : (b : Bool) → is_blank c ≡ b → (l : Bool) → is_letter c ≡ l → (d : Bool) → is_digit c ≡ d → (q : Bool) → (c == 34) ≡ q → (s : Bool) → (c == 47) ≡ s
      → Describes c cs (cond b (Skipped 1) (cond l (Lexeme (word_kind (take (1 + word_rest_len cs) (c ∷ cs))) (1 + word_rest_len cs)) (cond d (Integer (1 + prefix_len is_digit cs)) (cond q (text_element (closing_len false cs)) (cond s (slash_at cs) (sign_at c cs))))))
  step true b l l' d d' q q' s s' = separates b
  step false b true l d d' q q' s s' = word-element c cs (1 + word_rest_len cs) (one-plus (word_rest_len cs)) l
  step false b false l true d q q' s s' = number-element c cs (1 + prefix_len is_digit cs) (one-plus (prefix_len is_digit cs)) d
  step false b false l false d true q s s' = quoted (closing_len false cs) refl q b (quote-no-slash q)
  step false b false l false d false q true s = slash-described c s cs
  step false b false l false d false q false s = sign-described c l d q b s cs

cut-front : {P : List ℕ → List ℕ → Type 0} (cs : List ℕ) (n : ℕ) (cut : Cut cs n P) → take n cs ≡ cut.front
cut-front cs n cut = rw cut.whole (take_at cut.front cut.rest n cut.len)

-- what is said of a front is said of the characters
pub cut-read : {P : List ℕ → List ℕ → Type 0} (p : Position) (cs : List ℕ) (n : ℕ) (found : Option Token) (cut : Cut cs n P)
    → ((ts : List Token) (e : Ending) → Lexes (after p cut.front) cut.rest ts e → Lexes p cs (option_to_list found ++ ts) e) → Advances p cs n found
cut-read p cs n found cut on = record {
  some = cut.some;
  within = omega (arith, ap length cut.whole, length-append cut.front cut.rest, cut.len);
  on = λ ts e l.
      let a : take n cs ≡ cut.front = rw cut.whole (take_at cut.front cut.rest n cut.len) in
      let b : drop n cs ≡ cut.rest = rw cut.whole (drop_at cut.front cut.rest n cut.len) in
      on ts e (rw (a, b) at l);
}

pub read-skipped : (p : Position) (c : ℕ) (cs : List ℕ) (n : ℕ) → element_at c cs ≡ Skipped n → Advances p (c ∷ cs) n None
read-skipped p c cs n e =
    let cut : Cut (c ∷ cs) n Separates = subst (Describes c cs) e (described c cs) in
    cut-read p (c ∷ cs) n None cut (λ ts end l. subst (λ x. Lexes p x ts end) (sym cut.whole) (cut.is p ts end l))

zero-small : 0 < 2 ^ 63
zero-small = lit< tt

token-is : (p : Position) (k : Kind) (v : ℕ) (n : ℕ) (front : List ℕ) → length front ≡ n → token_kind front ≡ k → token_value front ≡ v
    → token_at p front ≡ record { kind = k; number = pos v; span = record { start = p.index; end = p.index + n; line = p.line; column = p.column } }
token-is p k v n front a b d = rw (a, b, d) refl

pub read-number : (p : Position) (c : ℕ) (cs : List ℕ) (n v : ℕ) → element_at c cs ≡ Integer n → v ≡ decimal (take n (c ∷ cs)) → v < 2 ^ 63
    → Advances p (c ∷ cs) n (Some (record { kind = kind.Int; number = pos v; span = record { start = p.index; end = p.index + n; line = p.line; column = p.column } }))
read-number p c cs n v e value small =
    let cut : Cut (c ∷ cs) n Number = subst (Describes c cs) e (described c cs) in
    let front : take n (c ∷ cs) ≡ cut.front = cut-front (c ∷ cs) n cut in
    let is_value : token_value cut.front ≡ v = rw cut.is.integer (ap decimal (sym front) ∙ sym value) in
    let is_kind : token_kind cut.front ≡ kind.Int = rw cut.is.integer refl in
    cut-read p (c ∷ cs) n (Some _) cut (λ ts end l. subst (λ t. Lexes p (c ∷ cs) (t ∷ ts) end) (token-is p kind.Int v n cut.front cut.len is_kind is_value) (token cut.front cut.rest cut.whole cut.is.longest (rw is_value small) l))

pub read-other : (p : Position) (c : ℕ) (cs : List ℕ) (k : Kind) (n : ℕ) → element_at c cs ≡ Lexeme k n
    → Advances p (c ∷ cs) n (Some (record { kind = k; number = pos 0; span = record { start = p.index; end = p.index + n; line = p.line; column = p.column } }))
read-other p c cs k n e =
    let cut : Cut (c ∷ cs) n (Other k) = subst (Describes c cs) e (described c cs) in
    cut-read p (c ∷ cs) n (Some _) cut (λ ts end l. subst (λ t. Lexes p (c ∷ cs) (t ∷ ts) end) (token-is p k 0 n cut.front cut.len cut.is.kind cut.is.value) (token cut.front cut.rest cut.whole cut.is.longest (rw cut.is.value zero-small) l))

pub read-large : (p : Position) (c : ℕ) (cs : List ℕ) (n : ℕ) → element_at c cs ≡ Integer n → 2 ^ 63 ≤ decimal (take n (c ∷ cs)) → Lexes p (c ∷ cs) [] (TooLarge p)
read-large p c cs n e large =
    let cut : Cut (c ∷ cs) n Number = subst (Describes c cs) e (described c cs) in
    let front : take n (c ∷ cs) ≡ cut.front = cut-front (c ∷ cs) n cut in
    let is_value : token_value cut.front ≡ decimal (take n (c ∷ cs)) = rw cut.is.integer (ap decimal (sym front)) in
    too_large cut.front cut.rest cut.whole cut.is.longest (rw is_value large)

pub read-strange : (p : Position) (c : ℕ) (cs : List ℕ) → element_at c cs ≡ Unknown → Lexes p (c ∷ cs) [] (Strange p)
read-strange p c cs e = strange c cs (subst (Describes c cs) e (described c cs))

-- the characters begin with the first one
pub headed : (chars : List ℕ) (first : ℕ) → first ≡ get_or chars 0 first → 0 < length chars → chars ≡ first ∷ drop 1 chars
headed [] first e h = absurd (omega arith)
headed (c ∷ cs) first e h = let f : first ≡ c = e in rw f refl

-- the same, of characters that begin with a first one
module _ (p : Position) (chars : List ℕ) (first : ℕ) (e : Element) (w : chars ≡ first ∷ drop 1 chars) (is : (cs : List ℕ) → chars ≡ first ∷ cs → e ≡ element_at first cs) where
  element-is : element_at first (drop 1 chars) ≡ e
  element-is = sym (is (drop 1 chars) w)

  pub skipped-read : (n : ℕ) → e ≡ Skipped n → Advances p chars n None
  skipped-read n f = subst (λ x. Advances p x n None) (sym w) (read-skipped p first (drop 1 chars) n (element-is ∙ f))

  pub number-within : (n : ℕ) → e ≡ Integer n → n ≤ length chars
  number-within n f =
      let cut : Cut (first ∷ drop 1 chars) n Number = subst (Describes first (drop 1 chars)) (element-is ∙ f) (described first (drop 1 chars)) in
      omega (arith, ap length w, ap length cut.whole, length-append cut.front cut.rest, cut.len)

  pub number-read : (n v : ℕ) → e ≡ Integer n → v ≡ decimal (take n chars) → v < 2 ^ 63
      → Advances p chars n (Some (record { kind = kind.Int; number = pos v; span = record { start = p.index; end = p.index + n; line = p.line; column = p.column } }))
  number-read n v f value small = subst (λ x. Advances p x n (Some (record { kind = kind.Int; number = pos v; span = record { start = p.index; end = p.index + n; line = p.line; column = p.column } }))) (sym w)
      (read-number p first (drop 1 chars) n v (element-is ∙ f) (value ∙ ap (λ x. decimal (take n x)) w) small)

  pub other-read : (k : Kind) (n : ℕ) → e ≡ Lexeme k n
      → Advances p chars n (Some (record { kind = k; number = pos 0; span = record { start = p.index; end = p.index + n; line = p.line; column = p.column } }))
  other-read k n f = subst (λ x. Advances p x n (Some (record { kind = k; number = pos 0; span = record { start = p.index; end = p.index + n; line = p.line; column = p.column } }))) (sym w)
      (read-other p first (drop 1 chars) k n (element-is ∙ f))

  pub large-read : (n : ℕ) → e ≡ Integer n → 2 ^ 63 ≤ decimal (take n chars) → Lexes p chars [] (TooLarge p)
  large-read n f large = subst (λ x. Lexes p x [] (TooLarge p)) (sym w) (read-large p first (drop 1 chars) n (element-is ∙ f) (subst (λ x. 2 ^ 63 ≤ decimal (take n x)) w large))

  pub strange-read : e ≡ Unknown → Lexes p chars [] (Strange p)
  strange-read f = subst (λ x. Lexes p x [] (Strange p)) (sym w) (read-strange p first (drop 1 chars) (element-is ∙ f))
