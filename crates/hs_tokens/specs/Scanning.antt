-- How a text is read token by token.
use Rattle.std.specs.Prelude.{ℕ, ◌+◌, ◌<◌, ◌≤◌, ◌++◌, drop, option_to_list, ◌==◌, Bool, true, false, nat_le, if◌then◌else◌, List, [], ◌∷◌, take, length, Option, Some, None, unwrap_or, min}
use Rattle.std.specs.List.{prefix_len}
use Rattle.hs_expr.specs.Characters.{is_letter, is_digit, is_word_part}
use Rattle.hs_tokens.specs.declared.token.Kind.{Kind}
use Rattle.hs_tokens.specs.declared.token.Kind.TheVariants as kind
use Rattle.hs_tokens.specs.declared.scan.Element.{Element}
use Rattle.hs_tokens.specs.declared.scan.Element.TheVariants.{Skipped, Integer, Lexeme, Unknown}
use Rattle.hs_tokens.specs.declared.token.Token.{Token}
use Rattle.hs_tokens.specs.declared.token.Position.{Position}
use Rattle.hs_tokens.specs.declared.fault.FaultKind.{FaultKind}
use Rattle.hs_tokens.specs.declared.fault.FaultKind.TheVariants as fault
use Rattle.hs_tokens.specs.Lexing.{Ending, TooLarge, Strange, Lexes}
use Rattle.hs_tokens.specs.Tokens.{after, is_blank, is_escaped, is_in_line, lookup, reserved_words, signs}

-- This many more.
abbrev pub farther : ℕ → Option ℕ → Option ℕ
farther n None = None
farther n (Some m) = Some (n + m)

-- How many characters close a text that is open.
abbrev pub closing_len : Bool → List ℕ → Option ℕ
closing_len escaped [] = None
closing_len true (c ∷ cs) = if is_escaped c then farther 1 (closing_len false cs) else None
closing_len false (c ∷ cs) =
    if c == 34 then Some 1
    else if c == 92 then farther 1 (closing_len true cs)
    else if nat_le 32 c then farther 1 (closing_len false cs)
    else None

-- How many letters and digits after the first letter belong to a word.
abbrev pub word_rest_len : List ℕ → ℕ
word_rest_len cs = min (prefix_len is_word_part cs) 63

abbrev pub word_kind : List ℕ → Kind
word_kind word = unwrap_or (lookup reserved_words word) kind.Name

abbrev pub text_element : Option ℕ → Element
text_element None = Unknown
text_element (Some n) = Lexeme kind.Text (1 + n)

abbrev pub sign_element : ℕ → Option Kind → Element
sign_element n None = Unknown
sign_element n (Some k) = Lexeme k n

-- The first element, unless it is unknown.
abbrev pub known_or : Element → Element → Element
known_or Unknown e = e
known_or (Skipped n) e = Skipped n
known_or (Integer n) e = Integer n
known_or (Lexeme k n) e = Lexeme k n

abbrev pub sign_at : ℕ → List ℕ → Element
sign_at c [] = sign_element 1 (lookup signs (c ∷ []))
sign_at c (d ∷ cs) =
    known_or (sign_element 2 (lookup signs (c ∷ d ∷ []))) (sign_element 1 (lookup signs (c ∷ [])))

abbrev pub slash_at : List ℕ → Element
slash_at [] = Unknown
slash_at (d ∷ cs) = if d == 47 then Skipped (2 + prefix_len is_in_line cs) else Unknown

-- What begins with these characters.
abbrev pub element_at : ℕ → List ℕ → Element
element_at c cs =
    if is_blank c then Skipped 1
    else if is_letter c then Lexeme (word_kind (take (1 + word_rest_len cs) (c ∷ cs)))
    (1 + word_rest_len cs)
    else if is_digit c then Integer (1 + prefix_len is_digit cs)
    else if c == 34 then text_element (closing_len false cs)
    else if c == 47 then slash_at cs
    else sign_at c cs

-- From a position on, n characters are a token or separate, whatever follows them.
pub record Advances (p : Position) (cs : List ℕ) (n : ℕ) (found : Option Token) : Type 0 where
  pub some : 0 < n
  pub within : n ≤ length cs
  pub on : (ts : List Token) (e : Ending) → Lexes (after p (take n cs)) (drop n cs) ts e
      → Lexes p cs (option_to_list found ++ ts) e

-- This fault is that of the characters from a position on, which begin with a wrong token.
abbrev pub FaultIs : Position → FaultKind → List ℕ → Type 0
FaultIs p fault.Character cs = Lexes p cs [] (Strange p)
FaultIs p fault.Number cs = Lexes p cs [] (TooLarge p)
FaultIs p fault.Order cs = ⊥
FaultIs p fault.End cs = ⊥
