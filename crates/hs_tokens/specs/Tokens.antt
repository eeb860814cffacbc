-- What the tokens of a text are. Characters are their code points, and a text is a list of them.
use Rattle.std.specs.Prelude.{ℕ, ◌+◌, ◌-◌, ◌*◌, ◌==◌, nat_le, nat_eq, Bool, true, false, ◌||◌, ◌&&◌, if◌then◌else◌, List, [], ◌∷◌, length, Option, Some, None, is_some, unwrap_or, codes, pos}
use Rattle.std.specs.List.{list_all}
use Rattle.std.specs.Cmp.Lexicographic.{pointwise}
use Rattle.hs_expr.specs.Characters.{is_letter, is_digit, is_word_part}
use Rattle.hs_tokens.specs.declared.token.Kind.{Kind}
use Rattle.hs_tokens.specs.declared.token.Kind.TheVariants as kind
use Rattle.hs_tokens.specs.declared.token.Token.{Token}
use Rattle.hs_tokens.specs.declared.token.Position.{Position}

-- A space, a tab, a carriage return or a line feed.
abbrev pub is_blank : ℕ → Bool
is_blank c = c == 32 || c == 9 || c == 13 || c == 10

-- A word is a letter and then letters and digits, at most 64 characters in all.
abbrev pub is_word : List ℕ → Bool
is_word [] = false
is_word (c ∷ cs) = is_letter c && list_all is_word_part cs && nat_le (length cs) 63

-- An integer is one or more digits.
abbrev pub is_integer : List ℕ → Bool
is_integer [] = false
is_integer (c ∷ cs) = is_digit c && list_all is_digit cs

abbrev pub is_nil : List ℕ → Bool
is_nil [] = true
is_nil (c ∷ cs) = false

-- What may follow a backslash: a double quote, a backslash, `n` or `t`.
abbrev pub is_escaped : ℕ → Bool
is_escaped c = c == 34 || c == 92 || c == 110 || c == 116

-- Whether the characters are the rest of an open text, up to and with its last quote: characters
-- from U+0020 on, and escapes. The first argument says whether a backslash is before them.
abbrev pub closes : Bool → List ℕ → Bool
closes escaped [] = false
closes true (c ∷ cs) = is_escaped c && closes false cs
closes false (c ∷ cs) =
    if c == 34 then is_nil cs
    else if c == 92 then closes true cs
    else nat_le 32 c && closes false cs

-- A text is a double quote and what closes it.
abbrev pub is_text : List ℕ → Bool
is_text [] = false
is_text (c ∷ cs) = c == 34 && closes false cs

-- The reserved words.
abbrev pub reserved_words : List (List ℕ × Kind)
reserved_words =
    (codes "rule", kind.Rule) ∷
    (codes "unit", kind.Unit) ∷
    (codes "in", kind.In) ∷
    (codes "out", kind.Out) ∷
    (codes "int", kind.IntWord) ∷
    (codes "bool", kind.Bool) ∷
    (codes "text", kind.TextWord) ∷
    (codes "preserve", kind.Preserve) ∷
    (codes "create", kind.Create) ∷
    (codes "delete", kind.Delete) ∷
    (codes "forbid", kind.Forbid) ∷
    (codes "require", kind.Require) ∷
    (codes "multi", kind.Multi) ∷
    (codes "node", kind.Node) ∷
    (codes "edge", kind.Edge) ∷
    (codes "set", kind.Set) ∷
    (codes "where", kind.Where) ∷
    (codes "sequential", kind.Sequential) ∷
    (codes "independent", kind.Independent) ∷
    (codes "priority", kind.Priority) ∷
    (codes "conditional", kind.Conditional) ∷
    (codes "if", kind.If) ∷
    (codes "then", kind.Then) ∷
    (codes "else", kind.Else) ∷
    (codes "loop", kind.Loop) ∷
    (codes "iterated", kind.Iterated) ∷
    (codes "and", kind.And) ∷
    (codes "or", kind.Or) ∷
    (codes "not", kind.Not) ∷
    (codes "true", kind.True) ∷
    (codes "false", kind.False) ∷
    []

-- The signs.
abbrev pub signs : List (List ℕ × Kind)
signs =
    (codes "(", kind.LeftParen) ∷
    (codes ")", kind.RightParen) ∷
    (codes "{", kind.LeftBrace) ∷
    (codes "}", kind.RightBrace) ∷
    (codes ":", kind.Colon) ∷
    (codes ";", kind.Semicolon) ∷
    (codes ",", kind.Comma) ∷
    (codes ".", kind.Dot) ∷
    (codes "->", kind.Arrow) ∷
    (codes "=", kind.Assign) ∷
    (codes "==", kind.Equal) ∷
    (codes "!=", kind.NotEqual) ∷
    (codes "<", kind.Less) ∷
    (codes "<=", kind.AtMost) ∷
    (codes ">", kind.Greater) ∷
    (codes ">=", kind.AtLeast) ∷
    (codes "+", kind.Plus) ∷
    (codes "-", kind.Minus) ∷
    (codes "*", kind.Times) ∷
    []

-- The kind beside a spelling in a table.
abbrev pub lookup : List (List ℕ × Kind) → List ℕ → Option Kind
lookup [] cs = None
lookup (entry ∷ table) cs = if pointwise nat_eq entry.0 cs then Some entry.1 else lookup table cs

abbrev pub is_sign : List ℕ → Bool
is_sign cs = is_some (lookup signs cs)

-- Whether the characters are a token.
abbrev pub is_lexeme : List ℕ → Bool
is_lexeme cs = is_word cs || is_integer cs || is_text cs || is_sign cs

-- The kind of a token that is spelled so.
abbrev pub token_kind : List ℕ → Kind
token_kind cs =
    if is_integer cs then kind.Int
    else if is_text cs then kind.Text
    else if is_word cs then unwrap_or (lookup reserved_words cs) kind.Name
    else unwrap_or (lookup signs cs) kind.Name

-- The number that digits denote, after those that denote n.
abbrev pub decimal_from : ℕ → List ℕ → ℕ
decimal_from n [] = n
decimal_from n (c ∷ cs) = decimal_from (10 * n + (c - 48)) cs

-- The number that digits denote.
abbrev pub decimal : List ℕ → ℕ
decimal cs = decimal_from 0 cs

-- The value that a token has: that of an integer, and 0 for any other.
abbrev pub token_value : List ℕ → ℕ
token_value cs = if is_integer cs then decimal cs else 0

-- A comment is `//` and what follows in its line.
abbrev pub is_in_line : ℕ → Bool
is_in_line c = if c == 10 then false else true

abbrev pub is_comment : List ℕ → Bool
is_comment [] = false
is_comment (c ∷ []) = false
is_comment (c ∷ d ∷ cs) = c == 47 && d == 47 && list_all is_in_line cs

-- What follows a comment: nothing, or the line feed.
abbrev pub ends_line : List ℕ → Bool
ends_line [] = true
ends_line (c ∷ cs) = c == 10

-- The position after a character.
abbrev pub next : Position → ℕ → Position
next p c =
    if c == 10 then record { index = p.index + 1; line = p.line + 1; column = 1 }
    else record { index = p.index + 1; line = p.line; column = p.column + 1 }

-- The position after some characters.
abbrev pub after : Position → List ℕ → Position
after p [] = p
after p (c ∷ cs) = after (next p c) cs

-- The position at which a text begins.
abbrev pub text_start : Position
text_start = record { index = 0; line = 1; column = 1 }

-- The token that is spelled so, at this position.
abbrev pub token_at : Position → List ℕ → Token
token_at p cs = record {
  kind = token_kind cs;
  number = pos (token_value cs);
  span = record { start = p.index; end = p.index + length cs; line = p.line; column = p.column };
}
