-- A text has the definitions of one syntax at most, one first fault at most, and never both.
use Rattle.std.proofs.Common.{ℕ, ◌≡◌, ◌⊎◌, inl, inr, List, [], ◌∷◌, ◌++◌, refl, ap, sym, subst, ◌∙◌, append_assoc}
use Rattle.hs_tokens.specs.declared.fault.FaultKind.{FaultKind}
use Rattle.hs_tokens.specs.declared.fault.FaultKind.TheVariants as fault
use Rattle.hs_tokens.specs.declared.fault.TextFault.{TextFault}
use Rattle.hs_tokens.specs.declared.token.Position.{Position}
use Rattle.hs_tokens.specs.declared.token.Token.{Token}
use Rattle.hs_tokens.specs.Lexing.{Ending, EndsSo, Lexes, Strange, TooLarge, Whole}
use Rattle.hs_tokens.specs.Tokens.{text_start}
use Rattle.hs_text.specs.declared.syntax.Definition.{Definition}
use Rattle.hs_text.specs.declared.syntax.Syntax.{Syntax}
use Rattle.hs_text.specs.Grammar.{IsText}
use Rattle.hs_text.specs.Parsing.{AreTokens, Begins, IsFirstWrong, IsSyntaxOf, IsTextFault, IsUnfinished}
use Rattle.hs_text.proofs.Judged.{no-wrong, one, text-right}

-- ---- the first wrong token

-- Two fronts of a list that end before an item are the same, or one has the other and its item in front.
abbrev Fronts : List Token → List Token → Token → Token → Type 0
Fronts xs ys t u = ((xs ≡ ys) × (t ≡ u)) ⊎ ((more : List Token) × (ys ≡ (xs ++ t ∷ []) ++ more)) ⊎ ((more : List Token) × (xs ≡ (ys ++ u ∷ []) ++ more))

head_of : {t u : Token} {bs cs : List Token} → t ∷ bs ≡ u ∷ cs → t ≡ u
head_of e = cc

tail_of : {t u : Token} {bs cs : List Token} → t ∷ bs ≡ u ∷ cs → bs ≡ cs
tail_of e = cc

longer : (x y t u : Token) (xs ys : List Token) → x ≡ y → Fronts xs ys t u → Fronts (x ∷ xs) (y ∷ ys) t u
longer x y t u xs ys e (inl same) = inl (cc, same.1)
longer x y t u xs ys e (inr (inl more)) = inr (inl (more.0, ap (λ z. z ∷ ys) (sym e) ∙ ap (λ zs. x ∷ zs) more.1))
longer x y t u xs ys e (inr (inr more)) = inr (inr (more.0, ap (λ z. z ∷ xs) e ∙ ap (λ zs. y ∷ zs) more.1))

fronts : (xs ys bs cs : List Token) (t u : Token) → xs ++ t ∷ bs ≡ ys ++ u ∷ cs → Fronts xs ys t u
fronts [] [] bs cs t u e = inl (refl, head_of e)
fronts [] (y ∷ ys) bs cs t u e = inr (inl (ys, ap (λ z. z ∷ ys) (sym (head_of e))))
fronts (x ∷ xs) [] bs cs t u e = inr (inr (xs, ap (λ z. z ∷ xs) (head_of e)))
fronts (x ∷ xs) (y ∷ ys) bs cs t u e = longer x y t u xs ys (head_of e) (fronts xs ys bs cs t u (tail_of e))

-- What a text begins with, a text begins with the front of it.
begins-front : (source : List ℕ) (front whole more : List Token) → whole ≡ front ++ more → Begins source whole → Begins source front
begins-front source front whole more e begins =
    (more ++ begins.0, begins.1, subst (λ (ts : List Token). IsText source ts begins.1) (ap (λ ts. ts ++ begins.0) e ∙ append_assoc front more begins.0) begins.2)

one-wrong : (source : List ℕ) (ts : List Token) (t u : Token) → IsFirstWrong source ts t → IsFirstWrong source ts u → t ≡ u
one-wrong source ts t u w v = go (fronts w.front v.front w.rest v.rest t u (sym w.parts ∙ v.parts))
  where
    go : Fronts w.front v.front t u → t ≡ u
    go (inl same) = same.1
    go (inr (inl more)) = absurd (w.wrong (begins-front source (w.front ++ t ∷ []) v.front more.0 more.1 v.begins))
    go (inr (inr more)) = absurd (v.wrong (begins-front source (v.front ++ u ∷ []) w.front more.0 more.1 w.begins))

-- ---- the first fault

abbrev SameFault : ℕ → ℕ → FaultKind → ℕ → ℕ → FaultKind → Type 0
SameFault l c k m d j = (l ≡ m) × (c ≡ d) × (k ≡ j)

same-ending : (l c m d : ℕ) (k j : FaultKind) (e : Ending) → EndsSo k l c e → EndsSo j m d e → SameFault l c k m d j
same-ending l c m d fault.Character fault.Character (Strange p) a b = (sym a.0 ∙ b.0, sym a.1 ∙ b.1, refl)
same-ending l c m d fault.Number fault.Number (TooLarge p) a b = (sym a.0 ∙ b.0, sym a.1 ∙ b.1, refl)
same-ending l c m d fault.Character j Whole a b = absurd a
same-ending l c m d fault.Character j (TooLarge p) a b = absurd a
same-ending l c m d fault.Number j Whole a b = absurd a
same-ending l c m d fault.Number j (Strange p) a b = absurd a
same-ending l c m d fault.Character fault.Number (Strange p) a b = absurd b
same-ending l c m d fault.Character fault.Order (Strange p) a b = absurd b
same-ending l c m d fault.Character fault.End (Strange p) a b = absurd b
same-ending l c m d fault.Number fault.Character (TooLarge p) a b = absurd b
same-ending l c m d fault.Number fault.Order (TooLarge p) a b = absurd b
same-ending l c m d fault.Number fault.End (TooLarge p) a b = absurd b
same-ending l c m d fault.Order j e a b = absurd a
same-ending l c m d fault.End j e a b = absurd a

-- Characters that aren't all tokens: where and why.
abbrev TokenFault : List ℕ → ℕ → ℕ → FaultKind → Type 0
TokenFault source l c k = (ts : List Token) × (e : Ending) × Lexes text_start source ts e × EndsSo k l c e

whole-fault : (k : FaultKind) (l c : ℕ) → EndsSo k l c Whole → ⊥
whole-fault fault.Character l c a = a
whole-fault fault.Number l c a = a
whole-fault fault.Order l c a = a
whole-fault fault.End l c a = a

fault-same : (l c m d : ℕ) (k j : FaultKind) → SameFault l c k m d j → (λ (f : TextFault). f) (record { line = l; column = c; kind = k }) ≡ record { line = m; column = d; kind = j }
fault-same l c m d k j same = let line = same.0 in let column = same.1 in let kind = same.2 in cc

-- characters are tokens in at most one way
abbrev pub LexedOnce : Type 0
LexedOnce = (p : Position) (cs : List ℕ) (ts us : List Token) (e g : Ending) → Lexes p cs ts e → Lexes p cs us g → (ts ≡ us) × (e ≡ g)

module _ (lexed_once : LexedOnce) where
  -- Characters are the same tokens, whoever reads them.
  same-tokens : (source : List ℕ) (ts us : List Token) → AreTokens source ts → AreTokens source us → us ≡ ts
  same-tokens source ts us a b = (lexed_once text_start source us ts Whole Whole b a).0

  one-token-fault : (source : List ℕ) (l c m d : ℕ) (k j : FaultKind) → TokenFault source l c k → TokenFault source m d j → SameFault l c k m d j
  one-token-fault source l c m d k j a b =
      let same = lexed_once text_start source a.0 b.0 a.1 b.1 a.2 b.2 in
      same-ending l c m d k j b.1 (subst (λ (e : Ending). EndsSo k l c e) same.1 a.3) b.3

  no-tokens : (source : List ℕ) (l c : ℕ) (k : FaultKind) (ts : List Token) → TokenFault source l c k → AreTokens source ts → ⊥
  no-tokens source l c k ts a tokens = whole-fault k l c (subst (λ (e : Ending). EndsSo k l c e) (lexed_once text_start source a.0 ts a.1 Whole a.2 tokens).1 a.3)

  -- Order and end, at the same tokens.
  order-end : (source : List ℕ) (ts us : List Token) (t : Token) → AreTokens source ts → AreTokens source us → IsFirstWrong source ts t → IsUnfinished source us → ⊥
  order-end source ts us t a b w u = no-wrong source ts t (subst (λ (xs : List Token). Begins source xs) (same-tokens source ts us a b) u.begins) w

  one-by-kind : (source : List ℕ) (l c m d : ℕ) (k j : FaultKind) → IsTextFault source (record { line = l; column = c; kind = k }) → IsTextFault source (record { line = m; column = d; kind = j }) → SameFault l c k m d j
  one-by-kind source l c m d fault.Character fault.Character a b = one-token-fault source l c m d fault.Character fault.Character a b
  one-by-kind source l c m d fault.Character fault.Number a b = one-token-fault source l c m d fault.Character fault.Number a b
  one-by-kind source l c m d fault.Number fault.Character a b = one-token-fault source l c m d fault.Number fault.Character a b
  one-by-kind source l c m d fault.Number fault.Number a b = one-token-fault source l c m d fault.Number fault.Number a b
  one-by-kind source l c m d fault.Character fault.Order a b = absurd (no-tokens source l c fault.Character b.0 a b.1)
  one-by-kind source l c m d fault.Character fault.End a b = absurd (no-tokens source l c fault.Character b.0 a b.1)
  one-by-kind source l c m d fault.Number fault.Order a b = absurd (no-tokens source l c fault.Number b.0 a b.1)
  one-by-kind source l c m d fault.Number fault.End a b = absurd (no-tokens source l c fault.Number b.0 a b.1)
  one-by-kind source l c m d fault.Order fault.Character a b = absurd (no-tokens source m d fault.Character a.0 b a.1)
  one-by-kind source l c m d fault.Order fault.Number a b = absurd (no-tokens source m d fault.Number a.0 b a.1)
  one-by-kind source l c m d fault.End fault.Character a b = absurd (no-tokens source m d fault.Character a.0 b a.1)
  one-by-kind source l c m d fault.End fault.Number a b = absurd (no-tokens source m d fault.Number a.0 b a.1)
  one-by-kind source l c m d fault.Order fault.End a b = absurd (order-end source a.0 b.0 a.2.0 a.1 b.1 a.2.1 b.2.0)
  one-by-kind source l c m d fault.End fault.Order a b = absurd (order-end source b.0 a.0 b.2.0 b.1 a.1 b.2.1 a.2.0)
  one-by-kind source l c m d fault.End fault.End a b = (a.2.1 ∙ sym b.2.1, a.2.2 ∙ sym b.2.2, refl)
  one-by-kind source l c m d fault.Order fault.Order a b =
      let same : a.2.0 ≡ b.2.0 = one-wrong source a.0 a.2.0 b.2.0 a.2.1 (subst (λ (ts : List Token). IsFirstWrong source ts b.2.0) (same-tokens source a.0 b.0 a.1 b.1) b.2.1) in
      (a.2.2 ∙ ap (λ (t : Token). t.span.line) same ∙ sym b.2.2, a.2.3 ∙ ap (λ (t : Token). t.span.column) same ∙ sym b.2.3, refl)

  pub one-fault : (source : List ℕ) (f g : TextFault) → IsTextFault source f → IsTextFault source g → f ≡ g
  one-fault source f g a b = fault-same f.line f.column g.line g.column f.kind g.kind (one-by-kind source f.line f.column g.line g.column f.kind g.kind a b)

  -- ---- a syntax, and a syntax and a fault

  -- Characters have the same rules and units, whoever reads them.
  pub same-made : (source : List ℕ) (ts us : List Token) (ds es : List Definition) → AreTokens source ts → IsText source ts ds → AreTokens source us → IsText source us es → ds ≡ es
  same-made source ts us ds es a x b y = one source ts ds es x (subst (λ (vs : List Token). IsText source vs es) (same-tokens source ts us a b) y)

  pub one-syntax : (source : List ℕ) (s t : Syntax) → IsSyntaxOf source s → IsSyntaxOf source t → s.definitions ≡ t.definitions
  one-syntax source s t a b = same-made source a.0 b.0 s.definitions t.definitions a.1 a.2 b.1 b.2

  none-by-kind : (source : List ℕ) (s : Syntax) (l c : ℕ) (k : FaultKind) → IsSyntaxOf source s → IsTextFault source (record { line = l; column = c; kind = k }) → ⊥
  none-by-kind source s l c fault.Character is a = no-tokens source l c fault.Character is.0 a is.1
  none-by-kind source s l c fault.Number is a = no-tokens source l c fault.Number is.0 a is.1
  none-by-kind source s l c fault.Order is a =
      no-wrong source a.0 a.2.0 (text-right source a.0 s.definitions (subst (λ (ts : List Token). IsText source ts s.definitions) (same-tokens source a.0 is.0 a.1 is.1) is.2)) a.2.1
  none-by-kind source s l c fault.End is a =
      a.2.0.no_text s.definitions (subst (λ (ts : List Token). IsText source ts s.definitions) (same-tokens source a.0 is.0 a.1 is.1) is.2)

  pub no-fault : (source : List ℕ) (s : Syntax) (f : TextFault) → IsSyntaxOf source s → IsTextFault source f → ⊥
  no-fault source s f is a = none-by-kind source s f.line f.column f.kind is a
