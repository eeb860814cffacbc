-- Which tokens a text is, and how it ends.
use Rattle.std.specs.Prelude.{ℕ, ◌^◌, ◌<◌, ◌≤◌, ◌≡◌, true, false, List, [], ◌∷◌, ◌++◌}
use Rattle.hs_tokens.specs.declared.token.Token.{Token}
use Rattle.hs_tokens.specs.declared.token.Position.{Position}
use Rattle.hs_tokens.specs.declared.fault.FaultKind.{FaultKind}
use Rattle.hs_tokens.specs.declared.fault.FaultKind.TheVariants as fault
use Rattle.hs_tokens.specs.declared.fault.TextFault.{TextFault}
use Rattle.hs_tokens.specs.Tokens.{text_start, is_blank, is_lexeme, is_comment, ends_line, token_value, after, token_at}

-- The characters in front are a token, and with more of those after them they wouldn't be one.
pub record IsLongest (front rest : List ℕ) : Type 0 where
  pub is : is_lexeme front ≡ true
  pub longest : (more others : List ℕ) → rest ≡ more ++ others → is_lexeme (front ++ more) ≡ true
      → more ≡ []

-- Neither a token nor a separator begins here.
pub record IsStrange (c : ℕ) (cs : List ℕ) : Type 0 where
  pub no_blank : is_blank c ≡ false
  pub no_comment : (front rest : List ℕ) → c ∷ cs ≡ front ++ rest → is_comment front ≡ false
  pub no_token : (front rest : List ℕ) → c ∷ cs ≡ front ++ rest → is_lexeme front ≡ false

-- How a text ends as tokens: it is all tokens, or there is a first token that is wrong, an integer
-- that is too large or a position where no token begins.
pub data Ending : Type 0 where
  Whole : Ending
  TooLarge : Position → Ending
  Strange : Position → Ending

-- The characters from a position on are these tokens, up to their ending. Blanks and comments
-- separate.
pub data Lexes : Position → List ℕ → List Token → Ending → Type 0 where
  nothing : {p : Position} → Lexes p [] [] Whole
  blank : {p : Position} {ts : List Token} {e : Ending} (c : ℕ) (cs : List ℕ) → is_blank c ≡ true
      → Lexes (after p (c ∷ [])) cs ts e → Lexes p (c ∷ cs) ts e
  comment : {p : Position} {cs : List ℕ} {ts : List Token} {e : Ending} (front rest : List ℕ)
      → cs ≡ front ++ rest → is_comment front ≡ true → ends_line rest ≡ true
      → Lexes (after p front) rest ts e → Lexes p cs ts e
  token : {p : Position} {cs : List ℕ} {ts : List Token} {e : Ending} (front rest : List ℕ)
      → cs ≡ front ++ rest → IsLongest front rest → token_value front < 2 ^ 63
      → Lexes (after p front) rest ts e → Lexes p cs (token_at p front ∷ ts) e
  too_large : {p : Position} {cs : List ℕ} (front rest : List ℕ) → cs ≡ front ++ rest
      → IsLongest front rest → 2 ^ 63 ≤ token_value front → Lexes p cs [] (TooLarge p)
  strange : {p : Position} (c : ℕ) (cs : List ℕ) → IsStrange c cs → Lexes p (c ∷ cs) [] (Strange p)

-- The ending for which a fault of this kind is reported at this line and column. Other kinds aren't
-- faults of tokens.
abbrev pub EndsSo : FaultKind → ℕ → ℕ → Ending → Type 0
EndsSo fault.Character line column (Strange p) = (p.line ≡ line) × (p.column ≡ column)
EndsSo fault.Number line column (TooLarge p) = (p.line ≡ line) × (p.column ≡ column)
EndsSo kind line column ending = ⊥

-- Why a text is not all tokens.
abbrev pub IsTokenFault : List ℕ → TextFault → Type 0
IsTokenFault cs f =
    (ts : List Token) × (e : Ending) × Lexes text_start cs ts e × EndsSo f.kind f.line f.column e
