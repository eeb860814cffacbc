-- What parsing a text finds: its syntax, or its first fault.
use Rattle.std.specs.Prelude.{ℕ, ◌≡◌, List, [], ◌∷◌, ◌++◌}
use Rattle.hs_tokens.specs.declared.token.Token.{Token}
use Rattle.hs_tokens.specs.declared.token.Position.{Position}
use Rattle.hs_tokens.specs.declared.fault.FaultKind.{FaultKind}
use Rattle.hs_tokens.specs.declared.fault.FaultKind.TheVariants as fault
use Rattle.hs_tokens.specs.declared.fault.TextFault.{TextFault}
use Rattle.hs_tokens.specs.Tokens.{text_start, after}
use Rattle.hs_tokens.specs.Lexing.{Whole, Lexes, IsTokenFault}
use Rattle.hs_text.specs.declared.syntax.Definition.{Definition}
use Rattle.hs_text.specs.declared.syntax.Syntax.{Syntax}
use Rattle.hs_text.specs.Grammar.{IsText}

-- The characters are tokens, these and no others.
abbrev pub AreTokens : List ℕ → List Token → Type 0
AreTokens source ts = Lexes text_start source ts Whole

-- The characters are a text with this syntax.
abbrev pub IsSyntaxOf : List ℕ → Syntax → Type 0
IsSyntaxOf source s = (ts : List Token) × AreTokens source ts × IsText source ts s.definitions

-- Some text of the grammar begins with the tokens.
abbrev pub Begins : List ℕ → List Token → Type 0
Begins source ts = (more : List Token) × (ds : List Definition) × IsText source (ts ++ more) ds

-- The tokens before this one begin a text of the grammar; with it they begin none.
pub record IsFirstWrong (source : List ℕ) (ts : List Token) (t : Token) : Type 0 where
  pub front : List Token
  pub rest : List Token
  pub parts : ts ≡ front ++ t ∷ rest
  pub begins : Begins source front
  pub wrong : Begins source (front ++ t ∷ []) → ⊥

-- A text begins with the tokens, and they aren't one themselves.
pub record IsUnfinished (source : List ℕ) (ts : List Token) : Type 0 where
  pub begins : Begins source ts
  pub no_text : (ds : List Definition) → IsText source ts ds → ⊥

-- Why tokens aren't a text, by the kind of the fault: of order at a token, or an end before the
-- grammar's, which is reported at the position where the text ends.
abbrev pub IsGrammarFaultBy : FaultKind → List ℕ → List Token → Position → TextFault → Type 0
IsGrammarFaultBy fault.Order source ts end f =
    (t : Token) × IsFirstWrong source ts t × (f.line ≡ t.span.line) × (f.column ≡ t.span.column)
IsGrammarFaultBy fault.End source ts end f =
    IsUnfinished source ts × (f.line ≡ end.line) × (f.column ≡ end.column)
IsGrammarFaultBy kind source ts end f = ⊥

abbrev pub IsGrammarFault : List ℕ → List Token → Position → TextFault → Type 0
IsGrammarFault source ts end f = IsGrammarFaultBy f.kind source ts end f

-- Why characters aren't a text, by the kind of the fault: a wrong token, or, where all are tokens,
-- a fault of the grammar.
abbrev pub IsTextFaultBy : FaultKind → List ℕ → TextFault → Type 0
IsTextFaultBy fault.Order source f =
    (ts : List Token) × AreTokens source ts × IsGrammarFault source ts (after text_start source) f
IsTextFaultBy fault.End source f =
    (ts : List Token) × AreTokens source ts × IsGrammarFault source ts (after text_start source) f
IsTextFaultBy kind source f = IsTokenFault source f

abbrev pub IsTextFault : List ℕ → TextFault → Type 0
IsTextFault source f = IsTextFaultBy f.kind source f
