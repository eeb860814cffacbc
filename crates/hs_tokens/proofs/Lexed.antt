use Rattle.std.proofs.Common.{◌≡◌, ◌<◌, ◌≤◌, ◌++◌, ◌==◌, ◌&&◌, ◌⊎◌, ◌^◌, inl, inr, ℕ, zero, suc, List, [], ◌∷◌, length, take, drop, Bool, true, false, Option, None, refl, sym, ap, subst, ◌∙◌, arith, cond, nat_le, length-drop}
use Rattle.std.proofs.lemmas.Bool.{and_parts}
use Rattle.std.proofs.lemmas.List.{append-nil}
use Rattle.std.specs.List.{list_all}
use Rattle.std.proofs.lemmas.Bool.Decides.{nat_tests, leb_tells}
use Rattle.hs_tokens.specs.declared.token.Token.{Token}
use Rattle.hs_tokens.specs.declared.token.Position.{Position}
use Rattle.hs_tokens.specs.declared.scan.Element.{Element}
use Rattle.hs_tokens.specs.declared.scan.Element.TheVariants.{Skipped, Integer, Lexeme, Unknown}
use Rattle.hs_expr.specs.Characters.{is_letter, is_digit}
use Rattle.hs_tokens.specs.Tokens.{is_blank, is_lexeme, is_comment, is_in_line, ends_line, token_value, after, decimal, token_at}
use Rattle.hs_tokens.specs.Lexing.{IsLongest, IsStrange, Ending, Whole, TooLarge, Strange, Lexes, nothing, blank, comment, token, too_large, strange}
use Rattle.hs_tokens.specs.Scanning.{Advances, element_at}
use Rattle.hs_tokens.proofs.Longest.{is_plain, not-plain, other-lexeme}
use Rattle.hs_tokens.proofs.Elements.{read-skipped, read-number, read-other, read-large, read-strange, head-is, tail-is}

-- EACH TEXT IS TOKENS UP TO ITS ENDING

Found : Position → List ℕ → Type 0
Found p cs = (ts : List Token) × (e : Ending) × Lexes p cs ts e

go-on : (p : Position) (cs : List ℕ) (n : ℕ) (found : Option Token) → Advances p cs n found → Found (after p (take n cs)) (drop n cs) → Found p cs
unfolding Found
go-on p cs n found read rest = (_, rest.1, read.on rest.0 rest.1 rest.2)

shorter : (cs : List ℕ) (n k : ℕ) → length cs < suc n → 0 < k → k ≤ length cs → length (drop k cs) < n
shorter cs n k h some within = omega (arith, length-drop k cs)

abbrev Sized : ℕ → Type 0
Sized v = ((nat_le (2 ^ 63) v ≡ true) × (2 ^ 63 ≤ v)) ⊎ ((nat_le (2 ^ 63) v ≡ false) × (v < 2 ^ 63))

at-first : (p : Position) (c : ℕ) (cs : List ℕ) → ((k : ℕ) → 0 < k → k ≤ length (c ∷ cs) → Found (after p (take k (c ∷ cs))) (drop k (c ∷ cs))) → Found p (c ∷ cs)
unfolding Found
at-first p c cs rest = step (element_at c cs) refl where
  next : (k : ℕ) (o : Option Token) → Advances p (c ∷ cs) k o → Found p (c ∷ cs)
  next k o read = go-on p (c ∷ cs) k o read (rest k read.some read.within)

  sized : (k : ℕ) → element_at c cs ≡ Integer k → Sized (decimal (take k (c ∷ cs))) → Found p (c ∷ cs)
  sized k e (inl x) = ([], TooLarge p, read-large p c cs k e x.1)
  sized k e (inr x) = next k _ (read-number p c cs k (decimal (take k (c ∷ cs))) e refl x.1)

  step : (e : Element) → element_at c cs ≡ e → Found p (c ∷ cs)
  step Unknown e = ([], Strange p, read-strange p c cs e)
  step (Skipped k) e = next k None (read-skipped p c cs k e)
  step (Lexeme j k) e = next k _ (read-other p c cs j k e)
  step (Integer k) e = sized k e (leb_tells (2 ^ 63) (decimal (take k (c ∷ cs))))

found : (n : ℕ) (p : Position) (cs : List ℕ) → length cs < n → Found p cs
unfolding Found
found zero p cs h = absurd (omega arith)
found (suc n) p [] h = ([], Whole, nothing)
found (suc n) p (c ∷ cs) h = at-first p c cs (λ k some within. found n (after p (take k (c ∷ cs))) (drop k (c ∷ cs)) (shorter (c ∷ cs) n k h some within))

pub lexed : (p : Position) (cs : List ℕ) → (ts : List Token) × (e : Ending) × Lexes p cs ts e
unfolding Found
lexed p cs = found (suc (length cs)) p cs (omega arith)

-- AND ONCE

-- of two fronts of one list, one is a front of the other
fronts : (f r g s : List ℕ) → f ++ r ≡ g ++ s → ((m : List ℕ) × (g ≡ f ++ m) × (r ≡ m ++ s)) ⊎ ((m : List ℕ) × (f ≡ g ++ m) × (s ≡ m ++ r))
fronts [] r g s w = inl (g, refl, w)
fronts (x ∷ f) r [] s w = inr (x ∷ f, refl, sym w)
fronts (x ∷ f) r (y ∷ g) s w = step (fronts f r g s (tail-is x y (f ++ r) (g ++ s) w)) (head-is x y (f ++ r) (g ++ s) w) where
  step : ((m : List ℕ) × (g ≡ f ++ m) × (r ≡ m ++ s)) ⊎ ((m : List ℕ) × (f ≡ g ++ m) × (s ≡ m ++ r)) → x ≡ y → ((m : List ℕ) × (y ∷ g ≡ x ∷ (f ++ m)) × (r ≡ m ++ s)) ⊎ ((m : List ℕ) × (x ∷ f ≡ y ∷ (g ++ m)) × (s ≡ m ++ r))
  step (inl a) e = inl (a.0, cc (a.1, e), a.2)
  step (inr a) e = inr (a.0, cc (a.1, e), a.2)

abbrev Both : List ℕ → List ℕ → List ℕ → List ℕ → Type 0
Both f r g s = (f ≡ g) × (r ≡ s)

longest-once : (f r g s : List ℕ) → f ++ r ≡ g ++ s → IsLongest f r → IsLongest g s → Both f r g s
longest-once f r g s w l k = step (fronts f r g s w) where
  step : ((m : List ℕ) × (g ≡ f ++ m) × (r ≡ m ++ s)) ⊎ ((m : List ℕ) × (f ≡ g ++ m) × (s ≡ m ++ r)) → Both f r g s
  step (inl a) = let e : a.0 ≡ [] = l.longest a.0 s a.2 (subst (λ x. is_lexeme x ≡ true) a.1 k.is) in (sym (a.1 ∙ ap (λ x. f ++ x) e ∙ append-nil f), a.2 ∙ ap (λ x. x ++ s) e)
  step (inr a) = let e : a.0 ≡ [] = k.longest a.0 r a.2 (subst (λ x. is_lexeme x ≡ true) a.1 l.is) in (a.1 ∙ ap (λ x. g ++ x) e ∙ append-nil g, sym (a.2 ∙ ap (λ x. x ++ r) e))

in-line-last : (g : List ℕ) (x : ℕ) (m : List ℕ) → list_all is_in_line (g ++ (x ∷ m)) ≡ true → (x == 10) ≡ false
in-line-last [] x m h = first (x == 10) (list_all is_in_line m) h where
  first : (t b : Bool) → (cond t false true && b) ≡ true → t ≡ false
  first true b h = cc
  first false b h = refl
in-line-last (y ∷ g) x m h = in-line-last g x m ((and_parts (is_in_line y) (list_all is_in_line (g ++ (x ∷ m))) h).1)

comment-stops : (f : List ℕ) (x : ℕ) (m : List ℕ) → is_comment f ≡ true → is_comment (f ++ (x ∷ m)) ≡ true → (x == 10) ≡ false
comment-stops [] x m c h = cc
comment-stops (a ∷ []) x m c h = cc
comment-stops (a ∷ b ∷ g) x m c h = in-line-last g x m ((and_parts (a == 47 && b == 47) (list_all is_in_line (g ++ (x ∷ m))) h).1)

comment-longest : (f r m s : List ℕ) → r ≡ m ++ s → is_comment f ≡ true → ends_line r ≡ true → is_comment (f ++ m) ≡ true → m ≡ []
comment-longest f r [] s w c l k = refl
comment-longest f r (x ∷ m) s w c l k = let a : (x == 10) ≡ true = subst (λ (z : List ℕ). ends_line z ≡ true) w l in let b : (x == 10) ≡ false = comment-stops f x m c k in cc

comment-once : (f r g s : List ℕ) → f ++ r ≡ g ++ s → is_comment f ≡ true → ends_line r ≡ true → is_comment g ≡ true → ends_line s ≡ true → Both f r g s
comment-once f r g s w c l d k = step (fronts f r g s w) where
  step : ((m : List ℕ) × (g ≡ f ++ m) × (r ≡ m ++ s)) ⊎ ((m : List ℕ) × (f ≡ g ++ m) × (s ≡ m ++ r)) → Both f r g s
  step (inl a) = let e : a.0 ≡ [] = comment-longest f r a.0 s a.2 c l (subst (λ x. is_comment x ≡ true) a.1 d) in (sym (a.1 ∙ ap (λ x. f ++ x) e ∙ append-nil f), a.2 ∙ ap (λ x. x ++ s) e)
  step (inr a) = let e : a.0 ≡ [] = comment-longest g s a.0 r a.2 d k (subst (λ x. is_comment x ≡ true) a.1 c) in (a.1 ∙ ap (λ x. g ++ x) e ∙ append-nil g, sym (a.2 ∙ ap (λ x. x ++ r) e))

-- a character that begins no word, number or text, and no sign
no-lexeme : (c : ℕ) (cs : List ℕ) → is_letter c ≡ false → is_digit c ≡ false → (c == 34) ≡ false → is_plain c ≡ false → is_lexeme (c ∷ cs) ≡ false
no-lexeme c cs l d q p = other-lexeme c cs l d q ∙ not-plain c cs p

blank-lexeme : (c : ℕ) (cs : List ℕ) → is_blank c ≡ true → is_lexeme (c ∷ cs) ≡ false
blank-lexeme c cs b = no-lexeme c cs (grind (arith, nat_tests)) (grind (arith, nat_tests)) (grind (arith, nat_tests)) (grind (arith, nat_tests))

blank-front : (c : ℕ) (cs f r : List ℕ) → c ∷ cs ≡ f ++ r → is_blank c ≡ true → is_lexeme f ≡ true → ⊥
blank-front c cs [] r w b l = cc
blank-front c cs (x ∷ f) r w b l = let e : c ≡ x = cc in cc (blank-lexeme x f (subst (λ (z : ℕ). is_blank z ≡ true) e b))

slash-first : (x : ℕ) (f : List ℕ) → is_comment (x ∷ f) ≡ true → (x == 47) ≡ true
slash-first x [] h = cc
slash-first x (y ∷ f) h = left (x == 47) (y == 47) (list_all is_in_line f) h where
  left : (a b c : Bool) → ((a && b) && c) ≡ true → a ≡ true
  left true b c h = refl
  left false b c h = cc

blank-comment : (c : ℕ) (cs f r : List ℕ) → c ∷ cs ≡ f ++ r → is_blank c ≡ true → is_comment f ≡ true → ⊥
blank-comment c cs [] r w b l = cc
blank-comment c cs (x ∷ f) r w b l = let e : c ≡ x = cc in let s : (x == 47) ≡ true = slash-first x f l in let t : is_blank x ≡ true = subst (λ (z : ℕ). is_blank z ≡ true) e b in apart x s t where
  apart : (x : ℕ) → (x == 47) ≡ true → is_blank x ≡ true → ⊥
  apart x s t = grind (arith, nat_tests)

slash-lexeme : (x : ℕ) (f : List ℕ) → (x == 47) ≡ true → is_lexeme (x ∷ f) ≡ false
slash-lexeme x f s = no-lexeme x f (grind (arith, nat_tests)) (grind (arith, nat_tests)) (grind (arith, nat_tests)) (grind (arith, nat_tests))

comment-token : (f r g s : List ℕ) → f ++ r ≡ g ++ s → is_comment f ≡ true → is_lexeme g ≡ true → ⊥
comment-token [] r g s w c l = cc
comment-token (x ∷ f) r [] s w c l = cc
comment-token (x ∷ f) r (y ∷ g) s w c l = let e : x ≡ y = cc in cc (slash-lexeme y g (subst (λ (z : ℕ). (z == 47) ≡ true) e (slash-first x f c)))

empty-lexeme : (f r : List ℕ) → [] ≡ f ++ r → is_lexeme f ≡ true → ⊥
empty-lexeme [] r w l = cc
empty-lexeme (x ∷ f) r w l = cc

empty-comment : (f r : List ℕ) → [] ≡ f ++ r → is_comment f ≡ true → ⊥
empty-comment [] r w l = cc
empty-comment (x ∷ f) r w l = cc

abbrev Same : List Token → Ending → List Token → Ending → Type 0
Same ts e us g = (ts ≡ us) × (e ≡ g)

at-end : {p : Position} {ds : List ℕ} {us : List Token} {g : Ending} → [] ≡ ds → Lexes p ds us g → Same [] Whole us g
at-end w nothing = (refl, refl)
at-end w (blank d ds b k) = cc
at-end w (comment f r v c l k) = absurd (empty-comment f r (w ∙ v) c)
at-end w (token f r v l s k) = absurd (empty-lexeme f r (w ∙ v) l.is)
at-end w (too_large f r v l s) = absurd (empty-lexeme f r (w ∙ v) l.is)
at-end w (strange d ds s) = cc

at-blank : {p : Position} {ds : List ℕ} {us : List Token} {g : Ending} (c : ℕ) (cs : List ℕ) (ts : List Token) (e : Ending) → is_blank c ≡ true → ((vs : List Token) (h : Ending) → Lexes (after p (c ∷ [])) cs vs h → Same ts e vs h) → c ∷ cs ≡ ds → Lexes p ds us g → Same ts e us g
at-blank c cs ts e b next w nothing = cc
at-blank {p} {us = us} {g = g} c cs ts e b next w (blank d ds b2 k) = next us g (subst (λ (x : ℕ). Lexes (after p (x ∷ [])) cs us g) (sym (head-is c d cs ds w)) (subst (λ x. Lexes (after p (d ∷ [])) x us g) (sym (tail-is c d cs ds w)) k))
at-blank c cs ts e b next w (comment f r v c2 l k) = absurd (blank-comment c cs f r (w ∙ v) b c2)
at-blank c cs ts e b next w (token f r v l s k) = absurd (blank-front c cs f r (w ∙ v) b l.is)
at-blank c cs ts e b next w (too_large f r v l s) = absurd (blank-front c cs f r (w ∙ v) b l.is)
at-blank c cs ts e b next w (strange d ds s) = let n : is_blank c ≡ false = subst (λ (x : ℕ). is_blank x ≡ false) (sym (head-is c d cs ds w)) s.no_blank in absurd (cc)

at-comment : {p : Position} {ds : List ℕ} {us : List Token} {g : Ending} (f r : List ℕ) (ts : List Token) (e : Ending) → is_comment f ≡ true → ends_line r ≡ true → ((vs : List Token) (h : Ending) → Lexes (after p f) r vs h → Same ts e vs h) → f ++ r ≡ ds → Lexes p ds us g → Same ts e us g
at-comment f r ts e c l next w nothing = absurd (empty-comment f r (sym w) c)
at-comment f r ts e c l next w (blank d ds b k) = absurd (blank-comment d ds f r (sym w) b c)
at-comment {p} {us = us} {g = g} f r ts e c l next w (comment f2 r2 v c2 l2 k) = let o = comment-once f r f2 r2 (w ∙ v) c l c2 l2 in next us g (subst (λ x. Lexes (after p x) r us g) (sym o.0) (subst (λ x. Lexes (after p f2) x us g) (sym o.1) k))
at-comment f r ts e c l next w (token f2 r2 v l2 s k) = absurd (comment-token f r f2 r2 (w ∙ v) c l2.is)
at-comment f r ts e c l next w (too_large f2 r2 v l2 s) = absurd (comment-token f r f2 r2 (w ∙ v) c l2.is)
at-comment f r ts e c l next w (strange d ds s) = let n : is_comment f ≡ false = s.no_comment f r (sym w) in absurd (cc)

at-token : {p : Position} {ds : List ℕ} {us : List Token} {g : Ending} (f r : List ℕ) (ts : List Token) (e : Ending) → IsLongest f r → token_value f < 2 ^ 63 → ((vs : List Token) (h : Ending) → Lexes (after p f) r vs h → Same ts e vs h) → f ++ r ≡ ds → Lexes p ds us g → Same (token_at p f ∷ ts) e us g
at-token f r ts e l s next w nothing = absurd (empty-lexeme f r (sym w) l.is)
at-token f r ts e l s next w (blank d ds b k) = absurd (blank-front d ds f r (sym w) b l.is)
at-token f r ts e l s next w (comment f2 r2 v c2 l2 k) = absurd (comment-token f2 r2 f r (sym (w ∙ v)) c2 l.is)
at-token {p} {g = g} f r ts e l s next w (token {ts = vs} f2 r2 v l2 s2 k) =
    let o = longest-once f r f2 r2 (w ∙ v) l l2 in
    let n : Same ts e vs g = next vs g (subst (λ x. Lexes (after p x) r vs g) (sym o.0) (subst (λ x. Lexes (after p f2) x vs g) (sym o.1) k)) in
    (ap (λ x. token_at p x ∷ ts) o.0 ∙ ap (λ x. token_at p f2 ∷ x) n.0, n.1)
at-token f r ts e l s next w (too_large f2 r2 v l2 s2) = let o = longest-once f r f2 r2 (w ∙ v) l l2 in let n : 2 ^ 63 ≤ token_value f = subst (λ x. 2 ^ 63 ≤ token_value x) (sym o.0) s2 in absurd (omega (arith, n, s))
at-token f r ts e l s next w (strange d ds t) = let n : is_lexeme f ≡ false = t.no_token f r (sym w) in absurd (cc (l.is))

at-large : {p : Position} {ds : List ℕ} {us : List Token} {g : Ending} (f r : List ℕ) → IsLongest f r → 2 ^ 63 ≤ token_value f → f ++ r ≡ ds → Lexes p ds us g → Same [] (TooLarge p) us g
at-large f r l s w nothing = absurd (empty-lexeme f r (sym w) l.is)
at-large f r l s w (blank d ds b k) = absurd (blank-front d ds f r (sym w) b l.is)
at-large f r l s w (comment f2 r2 v c2 l2 k) = absurd (comment-token f2 r2 f r (sym (w ∙ v)) c2 l.is)
at-large f r l s w (token f2 r2 v l2 s2 k) = let o = longest-once f r f2 r2 (w ∙ v) l l2 in let n : token_value f < 2 ^ 63 = subst (λ x. token_value x < 2 ^ 63) (sym o.0) s2 in absurd (omega (arith, n, s))
at-large f r l s w (too_large f2 r2 v l2 s2) = (refl, refl)
at-large f r l s w (strange d ds t) = let n : is_lexeme f ≡ false = t.no_token f r (sym w) in absurd (cc (l.is))

at-strange : {p : Position} {ds : List ℕ} {us : List Token} {g : Ending} (c : ℕ) (cs : List ℕ) → IsStrange c cs → c ∷ cs ≡ ds → Lexes p ds us g → Same [] (Strange p) us g
at-strange c cs t w nothing = cc
at-strange c cs t w (blank d ds b k) = let n : is_blank c ≡ true = subst (λ (x : ℕ). is_blank x ≡ true) (sym (head-is c d cs ds w)) b in absurd (cc (t.no_blank))
at-strange c cs t w (comment f2 r2 v c2 l2 k) = let n : is_comment f2 ≡ false = t.no_comment f2 r2 (w ∙ v) in absurd (cc)
at-strange c cs t w (token f2 r2 v l2 s2 k) = let n : is_lexeme f2 ≡ false = t.no_token f2 r2 (w ∙ v) in absurd (cc (l2.is))
at-strange c cs t w (too_large f2 r2 v l2 s2) = let n : is_lexeme f2 ≡ false = t.no_token f2 r2 (w ∙ v) in absurd (cc (l2.is))
at-strange c cs t w (strange d ds s) = (refl, refl)

pub lexed-once : {p : Position} {cs : List ℕ} {ts : List Token} {e : Ending} → Lexes p cs ts e → (us : List Token) (g : Ending) → Lexes p cs us g → Same ts e us g
lexed-once nothing us g k = at-end refl k
lexed-once (blank {ts} {e} c cs b l) us g k = at-blank c cs ts e b (lexed-once l) refl k
lexed-once (comment {ts} {e} f r v c l n) us g k = at-comment f r ts e c l (lexed-once n) (sym v) k
lexed-once (token {ts} {e} f r v l s n) us g k = at-token f r ts e l s (lexed-once n) (sym v) k
lexed-once (too_large f r v l s) us g k = at-large f r l s (sym v) k
lexed-once (strange c cs s) us g k = at-strange c cs s refl k
