use Rattle.std.proofs.Common.{ℕ, ◌+◌, ◌-◌, ◌<◌, ◌≤◌, ◌^◌, ◌≡◌, List, [], ◌∷◌, ◌++◌, length, take, drop, true, pos, refl, ap, sym, subst, ◌∙◌, arith, append_assoc, length-append}
use Rattle.std.specs.Bool.{⊤}
use Rattle.std.specs.List.{AllByRecursion}
use Rattle.std.proofs.lemmas.List.{take_at, drop_at}
use Rattle.hs_expr.specs.declared.Span.{Span}
use Rattle.hs_tokens.specs.declared.token.Token.{Token}
use Rattle.hs_tokens.specs.declared.token.Position.{Position}
use Rattle.hs_tokens.specs.Tokens.{is_lexeme, token_kind, token_value, after}
use Rattle.hs_tokens.specs.Lexing.{Ending, Lexes, nothing, blank, comment, token, too_large, strange}
use Rattle.hs_text.specs.Words.{slice}
use Rattle.hs_text.specs.WellFormed.{AreInOrder}

-- what a token is spelled with, in the text that it is of
pub record IsSpelt (source : List ℕ) (t : Token) : Type 0 where
  pub lexeme : is_lexeme (slice source t.span) ≡ true
  pub kind : t.kind ≡ token_kind (slice source t.span)
  pub number : t.number ≡ pos (token_value (slice source t.span))
  pub small : token_value (slice source t.span) < 2 ^ 63

-- a position moves on by as many characters as are read
abbrev pub PositionsMove : Type 0
PositionsMove = (p : Position) (cs : List ℕ) → (after p cs).index ≡ p.index + length cs

pub slice-at : (before front rest : List ℕ) (i : ℕ) → length before ≡ i → take (i + length front - i) (drop i (before ++ (front ++ rest))) ≡ front
slice-at before front rest i e =
    let d : drop i (before ++ (front ++ rest)) ≡ front ++ rest = drop_at before (front ++ rest) i e in
    let n : length front ≡ i + length front - i = omega arith in
    ap (λ x. take (i + length front - i) x) d ∙ take_at front rest (i + length front - i) n

-- the tokens' spans are slices in order
abbrev pub AreLaid : ℕ → List Token → Type 0
AreLaid from [] = ⊤
AreLaid from (t ∷ ts) = (from ≤ t.span.start) × (t.span.start ≤ t.span.end) × AreLaid t.span.end ts

laid-from : (a b : ℕ) (ts : List Token) → a ≤ b → AreLaid b ts → AreLaid a ts
laid-from a b [] h l = tt
laid-from a b (t ∷ ts) h l = (omega (arith, l.0), l.1, l.2)

abbrev pub AreSpelt : List ℕ → List Token → Type 0
AreSpelt source = AllByRecursion (IsSpelt source)

module _ (moves : PositionsMove) (source : List ℕ) where
  moved : (before front rest : List ℕ) (p : Position) (cs : List ℕ) → source ≡ before ++ cs → cs ≡ front ++ rest → length before ≡ p.index → (source ≡ (before ++ front) ++ rest) × (length (before ++ front) ≡ (after p front).index)
  moved before front rest p cs w v e = (
    w ∙ ap (λ x. before ++ x) v ∙ sym (append_assoc before front rest),
    length-append before front ∙ ap (λ n. n + length front) e ∙ sym (moves p front),
  )

  -- each token of a text is spelled with what is at its place
  pub tokens-spelt : (before : List ℕ) {p : Position} {cs : List ℕ} {ts : List Token} {e : Ending} → source ≡ before ++ cs → length before ≡ p.index → Lexes p cs ts e → AreSpelt source ts × AreLaid p.index ts
  tokens-spelt before w i nothing = (tt, tt)
  tokens-spelt before {p} w i (blank {ts} c cs b l) =
      let m = moved before (c ∷ []) cs p (c ∷ cs) w refl i in
      let r : AreSpelt source ts × AreLaid (after p (c ∷ [])).index ts = tokens-spelt (before ++ c ∷ []) m.0 m.1 l in
      (r.0, laid-from p.index (after p (c ∷ [])).index ts (omega (arith, moves p (c ∷ []))) r.1)
  tokens-spelt before {p} {cs} w i (comment {ts} front rest v c d l) =
      let m = moved before front rest p cs w v i in
      let r : AreSpelt source ts × AreLaid (after p front).index ts = tokens-spelt (before ++ front) m.0 m.1 l in
      (r.0, laid-from p.index (after p front).index ts (omega (arith, moves p front)) r.1)
  tokens-spelt before {p} {cs} w i (token {ts} front rest v long small l) =
      let m = moved before front rest p cs w v i in
      let r : AreSpelt source ts × AreLaid (after p front).index ts = tokens-spelt (before ++ front) m.0 m.1 l in
      let s : take (p.index + length front - p.index) (drop p.index source) ≡ front = ap (λ x. take (p.index + length front - p.index) (drop p.index x)) (w ∙ ap (λ x. before ++ x) v) ∙ slice-at before front rest p.index i in (
        (
          record {
            lexeme = subst (λ x. is_lexeme x ≡ true) (sym s) long.is;
            kind = ap token_kind (sym s);
            number = ap (λ x. pos (token_value x)) (sym s);
            small = subst (λ x. token_value x < 2 ^ 63) (sym s) small;
          },
          r.0,
        ),
        (omega arith, omega arith, subst (λ n. AreLaid n ts) (moves p front) r.1),
      )
  tokens-spelt before w i (too_large front rest v long large) = (tt, tt)
  tokens-spelt before w i (strange c cs s) = (tt, tt)

-- spans of some of the tokens, in their order
pub data AreAmong : List Span → List Token → Type 0 where
  none_left : AreAmong [] []
  passed : (t : Token) {ss : List Span} {ts : List Token} → AreAmong ss ts → AreAmong ss (t ∷ ts)
  taken : (t : Token) {ss : List Span} {ts : List Token} → AreAmong ss ts → AreAmong (t.span ∷ ss) (t ∷ ts)

pub among-both : {ss rs : List Span} {ts us : List Token} → AreAmong ss ts → AreAmong rs us → AreAmong (ss ++ rs) (ts ++ us)
among-both none_left b = b
among-both (passed t a) b = passed t (among-both a b)
among-both (taken t a) b = taken t (among-both a b)

order-from : (a b : ℕ) (ss : List Span) → a ≤ b → AreInOrder b ss → AreInOrder a ss
order-from a b [] h o = tt
order-from a b (s ∷ ss) h o = (omega (arith, o.0), o.1, o.2)

pub among-in-order : (from : ℕ) {ss : List Span} {ts : List Token} → AreAmong ss ts → AreLaid from ts → AreInOrder from ss
among-in-order from none_left l = tt
among-in-order from (passed t {ss} a) l = order-from from t.span.end ss (omega (arith, l.0, l.1)) (among-in-order t.span.end a l.2)
among-in-order from (taken t a) l = (l.0, l.1, among-in-order t.span.end a l.2)
