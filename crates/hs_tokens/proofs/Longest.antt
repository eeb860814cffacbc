use Rattle.std.proofs.Common.{◌≡◌, ◌<◌, ◌≤◌, ◌+◌, ◌++◌, ◌==◌, ◌||◌, ◌&&◌, ◌⊎◌, inl, inr, ℕ, zero, suc, List, [], ◌∷◌, length, take, drop, min, Bool, true, false, Option, Some, None, nat_eq, nat_le, cond, refl, sym, ap, ◌∙◌, arith, append_assoc, length-append}
use Rattle.std.specs.List.{list_all, prefix_len}
use Rattle.std.specs.Option.{is_some}
use Rattle.std.proofs.lemmas.List.{take-append-drop, length-take-le, take_min}
use Rattle.std.proofs.lemmas.List.Sums.{prefix_len-le-length}
use Rattle.std.proofs.lemmas.Grind.{common_steps}
use Rattle.std.proofs.lemmas.Bool.Decides.{nat_tests}
use Rattle.std.specs.Cmp.Lexicographic.{pointwise}
use Rattle.hs_expr.specs.Equality.{lists_exact, nat_exact}
use Rattle.hs_tokens.specs.declared.token.Kind.{Kind}
use Rattle.hs_expr.specs.Characters.{is_letter, is_digit}
use Rattle.hs_tokens.specs.Tokens.{is_blank, is_word, is_integer, is_text, is_sign, is_lexeme, is_escaped, is_nil, closes, lookup, signs}
use Rattle.hs_tokens.specs.Scanning.{closing_len, farther}

-- what each spelling of a table has, each found one has
pub found : (p : List ℕ → Bool) (table : List (List ℕ × Kind)) → list_all (λ e. p e.0) table ≡ true → (cs : List ℕ) (k : Kind) → lookup table cs ≡ Some k → p cs ≡ true
found p [] h cs k e = cc
found p (x ∷ table) h cs k e = step (pointwise nat_eq x.0 cs) refl h e (λ q. found p table q cs k) where
  step : (t : Bool) → pointwise nat_eq x.0 cs ≡ t → (p x.0 && list_all (λ e. p e.0) table) ≡ true → cond t (Some x.1) (lookup table cs) ≡ Some k → (list_all (λ e. p e.0) table ≡ true → lookup table cs ≡ Some k → p cs ≡ true) → p cs ≡ true
  step true t h e rest = let same : x.0 ≡ cs = (lists_exact nat_exact x.0 cs).0 t in let all : p x.0 ≡ true = grind arith in rw (← same) all
  step false t h e rest = rest (grind arith) e

-- a sign has one or two characters, and begins with none that begins another token
abbrev if_not : Bool → Bool
if_not true = false
if_not false = true

abbrev pub is_plain : ℕ → Bool
is_plain c = if_not (is_letter c || is_digit c || c == 34 || is_blank c || c == 47)

abbrev short : List ℕ → Bool
short [] = false
short (c ∷ cs) = is_plain c && nat_le (length cs) 1

signs_short : list_all (λ e. short e.0) signs ≡ true
signs_short = refl

pub sign-short : (cs : List ℕ) → is_sign cs ≡ true → short cs ≡ true
sign-short cs h = step (lookup signs cs) refl h where
  step : (o : Option Kind) → lookup signs cs ≡ o → is_some o ≡ true → short cs ≡ true
  step None e h = cc
  step (Some k) e h = found short signs signs_short cs k e

-- the kinds of first character
pub letter-only : (c : ℕ) → is_letter c ≡ true → (is_digit c ≡ false) × ((c == 34) ≡ false) × (is_plain c ≡ false)
letter-only c h = (grind (arith, nat_tests), (grind (arith, nat_tests)), grind (arith, nat_tests))

pub digit-only : (c : ℕ) → is_digit c ≡ true → (is_letter c ≡ false) × ((c == 34) ≡ false) × (is_plain c ≡ false)
digit-only c h = (grind (arith, nat_tests), (grind (arith, nat_tests)), grind (arith, nat_tests))

pub quote-only : (c : ℕ) → (c == 34) ≡ true → (is_letter c ≡ false) × (is_digit c ≡ false) × (is_plain c ≡ false)
quote-only c h = (grind (arith, nat_tests), (grind (arith, nat_tests)), grind (arith, nat_tests))

pub not-plain : (c : ℕ) (cs : List ℕ) → is_plain c ≡ false → is_sign (c ∷ cs) ≡ false
not-plain c cs h = step (is_sign (c ∷ cs)) refl where
  step : (t : Bool) → is_sign (c ∷ cs) ≡ t → t ≡ false
  step false e = refl
  step true e = let s : (is_plain c && nat_le (length cs) 1) ≡ true = sign-short (c ∷ cs) e in grind arith

or-first : (a : Bool) → (((a || false) || false) || false) ≡ a
or-first true = refl
or-first false = refl

or-third : (a : Bool) → (((false || false) || a) || false) ≡ a
or-third true = refl
or-third false = refl

-- what a token is that begins with a letter, a digit, a quote, or none of these
pub letter-lexeme : (c : ℕ) (cs : List ℕ) → is_letter c ≡ true → is_lexeme (c ∷ cs) ≡ is_word (c ∷ cs)
letter-lexeme c cs h =
    let o = letter-only c h in
    let s : is_sign (c ∷ cs) ≡ false = not-plain c cs o.2 in
    rw (s, o.0, o.1) (or-first (is_word (c ∷ cs)))

pub digit-lexeme : (c : ℕ) (cs : List ℕ) → is_digit c ≡ true → is_lexeme (c ∷ cs) ≡ is_integer (c ∷ cs)
digit-lexeme c cs h =
    let o = digit-only c h in
    let s : is_sign (c ∷ cs) ≡ false = not-plain c cs o.2 in
    rw (s, o.0, o.1) (grind (arith, common_steps))

pub quote-lexeme : (c : ℕ) (cs : List ℕ) → (c == 34) ≡ true → is_lexeme (c ∷ cs) ≡ is_text (c ∷ cs)
quote-lexeme c cs h =
    let o = quote-only c h in
    let s : is_sign (c ∷ cs) ≡ false = not-plain c cs o.2 in
    rw (s, o.0, o.1) (or-third (is_text (c ∷ cs)))

pub other-lexeme : (c : ℕ) (cs : List ℕ) → is_letter c ≡ false → is_digit c ≡ false → (c == 34) ≡ false → is_lexeme (c ∷ cs) ≡ is_sign (c ∷ cs)
other-lexeme c cs a b d = rw (a, b, d) (grind (arith, common_steps))

-- a run of characters that pass
pub run-is : (p : ℕ → Bool) (cs : List ℕ) (m : ℕ) → m ≤ prefix_len p cs → list_all p (take m cs) ≡ true
run-is p [] m h = let e : m ≡ 0 = omega arith in rw e refl
run-is p (c ∷ cs) zero h = refl
run-is p (c ∷ cs) (suc m) h = step (p c) refl h (run-is p cs m) where
  step : (t : Bool) → p c ≡ t → suc m ≤ cond t (1 + prefix_len p cs) 0 → (m ≤ prefix_len p cs → list_all p (take m cs) ≡ true) → (p c && list_all p (take m cs)) ≡ true
  step true e h rest = rw (e, rest (omega arith)) refl
  step false e h rest = absurd (omega arith)

-- the run in the first n characters
run-take : (p : ℕ → Bool) (cs : List ℕ) (n : ℕ) → prefix_len p (take n cs) ≡ min (prefix_len p cs) n
run-take p [] zero = omega arith
run-take p [] (suc n) = omega arith
run-take p (c ∷ cs) zero = omega arith
run-take p (c ∷ cs) (suc n) = step (p c) (run-take p cs n) where
  step : (t : Bool) → prefix_len p (take n cs) ≡ min (prefix_len p cs) n → cond t (1 + prefix_len p (take n cs)) 0 ≡ min (cond t (1 + prefix_len p cs) 0) (suc n)
  step true rest = omega arith
  step false rest = omega arith

pub run_within : (p : ℕ → Bool) (cs : List ℕ) (n : ℕ) → prefix_len p (take (min (length cs) n) cs) ≡ min (prefix_len p cs) n
run_within p cs n =
    let turned : min (length cs) n ≡ min n (length cs) = omega arith in
    rw (turned, take_min n cs) (run-take p cs n)

pub run-reaches : (p : ℕ → Bool) (xs ys : List ℕ) → list_all p xs ≡ true → length xs ≤ prefix_len p (xs ++ ys)
run-reaches p [] ys h = omega arith
run-reaches p (x ∷ xs) ys h =
    let a : p x ≡ true = grind arith in
    let b : list_all p xs ≡ true = grind arith in
    let i : length xs ≤ prefix_len p (xs ++ ys) = run-reaches p xs ys b in
    rw a (omega arith)

pub no-more : (xs : List ℕ) → length xs ≡ 0 → xs ≡ []
no-more [] e = refl
no-more (x ∷ xs) e = absurd (omega arith)

-- a run is as long as it can be
pub run-longest : (p : ℕ → Bool) (cs more others : List ℕ) (m : ℕ) → m ≤ prefix_len p cs → drop m cs ≡ more ++ others → list_all p (take m cs ++ more) ≡ true → length (take m cs ++ more) ≤ m ⊎ (prefix_len p cs < length (take m cs ++ more)) → more ≡ []
run-longest p cs more others m within whole all bound =
    let len : length (take m cs) ≡ m = length-take-le m cs (omega (arith, prefix_len-le-length p cs)) in
    let joined : (take m cs ++ more) ++ others ≡ cs = append_assoc (take m cs) more others ∙ ap (λ x. take m cs ++ x) (sym whole) ∙ take-append-drop m cs in
    let reach : length (take m cs ++ more) ≤ prefix_len p cs = rw joined at (run-reaches p (take m cs ++ more) others all) in
    let sum : length (take m cs ++ more) ≡ length (take m cs) + length more = length-append (take m cs) more in
    elim bound [ inl b ↦ no-more more (omega arith) | inr b ↦ absurd (omega arith) ]

pub some-is : (a b : ℕ) → Some a ≡ Some b → a ≡ b
some-is a b e = cc

-- a text that is closed
unfoldable pub Closed : Bool → List ℕ → ℕ → Type 0
Closed e cs n = (closes e (take n cs) ≡ true) × (n ≤ length cs)

farther-some : (e : Bool) (cs : List ℕ) (o : Option ℕ) (n : ℕ) → closing_len e cs ≡ o → farther 1 o ≡ Some n → ((m : ℕ) → closing_len e cs ≡ Some m → Closed e cs m) → (m : ℕ) × (n ≡ suc m) × Closed e cs m
farther-some e cs None n q h rest = cc
farther-some e cs (Some m) n q h rest = (m, omega (arith, some-is (1 + m) n h), rest m q)

pub closing-closes : (e : Bool) (cs : List ℕ) (n : ℕ) → closing_len e cs ≡ Some n → Closed e cs n
unfolding Closed
closing-closes e [] n h = cc
closing-closes true (c ∷ cs) n h = step (is_escaped c) refl h (λ q. farther-some false cs (closing_len false cs) n refl q (closing-closes false cs)) where
  step : (t : Bool) → is_escaped c ≡ t → cond t (farther 1 (closing_len false cs)) None ≡ Some n → (farther 1 (closing_len false cs) ≡ Some n → (m : ℕ) × (n ≡ suc m) × Closed false cs m) → Closed true (c ∷ cs) n
  step false t h rest = cc
  step true t h rest = let r = rest h in rw r.1 (rw t r.2.0, omega (arith, r.2.1))
closing-closes false (c ∷ cs) n h =
    step (c == 34) refl (c == 92) refl (nat_le 32 c) refl h (λ q. farther-some true cs (closing_len true cs) n refl q (closing-closes true cs)) (λ q. farther-some false cs (closing_len false cs) n refl q (closing-closes false cs))
  where
    step : (q : Bool) → (c == 34) ≡ q → (b : Bool) → (c == 92) ≡ b → (l : Bool) → nat_le 32 c ≡ l → cond q (Some 1) (cond b (farther 1 (closing_len true cs)) (cond l (farther 1 (closing_len false cs)) None)) ≡ Some n → (farther 1 (closing_len true cs) ≡ Some n → (m : ℕ) × (n ≡ suc m) × Closed true cs m) → (farther 1 (closing_len false cs) ≡ Some n → (m : ℕ) × (n ≡ suc m) × Closed false cs m) → Closed false (c ∷ cs) n
    step true q b y l z h escape more = let e : n ≡ 1 = sym (some-is 1 n h) in rw e (rw q refl, omega arith)
    step false q true y l z h escape more = let r = escape h in rw r.1 (rw (q, y) r.2.0, omega (arith, r.2.1))
    step false q false y true z h escape more = let r = more h in rw r.1 (rw (q, y, z) r.2.0, omega (arith, r.2.1))
    step false q false y false z h escape more = cc

nil-is : (xs : List ℕ) → is_nil xs ≡ true → xs ≡ []
nil-is [] h = refl
nil-is (x ∷ xs) h = cc

pub closes-closing : (e : Bool) (xs ys : List ℕ) → closes e xs ≡ true → closing_len e (xs ++ ys) ≡ Some (length xs)
closes-closing e [] ys h = cc
closes-closing true (c ∷ xs) ys h =
    let a : is_escaped c ≡ true = grind arith in
    let i : closing_len false (xs ++ ys) ≡ Some (length xs) = closes-closing false xs ys (grind arith) in
    rw (a, i) (ap (λ k. Some k) (omega arith))
closes-closing false (c ∷ xs) ys h =
    step (c == 34) refl (c == 92) refl (nat_le 32 c) refl h (closes-closing true xs ys) (closes-closing false xs ys)
  where
    step : (q : Bool) → (c == 34) ≡ q → (b : Bool) → (c == 92) ≡ b → (l : Bool) → nat_le 32 c ≡ l → cond q (is_nil xs) (cond b (closes true xs) (l && closes false xs)) ≡ true → (closes true xs ≡ true → closing_len true (xs ++ ys) ≡ Some (length xs)) → (closes false xs ≡ true → closing_len false (xs ++ ys) ≡ Some (length xs)) → closing_len false ((c ∷ xs) ++ ys) ≡ Some (length (c ∷ xs))
    step true q b y l z h escape more = let e : xs ≡ [] = nil-is xs h in rw (q, e) refl
    step false q true y l z h escape more = rw (q, y, escape h) (ap (λ k. Some k) (omega arith))
    step false q false y true z h escape more = rw (q, y, z, more h) (ap (λ k. Some k) (omega arith))
    step false q false y false z h escape more = cc
