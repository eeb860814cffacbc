-- What the tokens of a text mean. A text is its characters; syntax has texts in UTF-8.
use Rattle.std.specs.Prelude.{ℕ, ◌-◌, ◌==◌, Bool, true, false, if◌then◌else◌, List, [], ◌∷◌, drop, take, encode_utf8_all}
use Rattle.hs_expr.specs.declared.Span.{Span}
use Rattle.hs_expr.specs.declared.Name.{Name}
use Rattle.hs_expr.specs.declared.Sign.{Sign}
use Rattle.hs_expr.specs.declared.Sign.TheVariants as sign
use Rattle.hs_expr.specs.declared.Piece.{Piece}
use Rattle.hs_expr.specs.declared.Piece.TheVariants as piece
use Rattle.hs_tokens.specs.declared.token.Kind.{Kind}
use Rattle.hs_tokens.specs.declared.token.Kind.TheVariants as kind
use Rattle.hs_tokens.specs.declared.token.Token.{Token}
use Rattle.hs_text.specs.declared.syntax.Direction.{Direction}
use Rattle.hs_text.specs.declared.syntax.Direction.TheVariants as direction
use Rattle.hs_text.specs.declared.syntax.Mark.{Mark}
use Rattle.hs_text.specs.declared.syntax.Mark.TheVariants as mark
use Rattle.hs_text.specs.declared.syntax.Atom.{Atom}
use Rattle.hs_text.specs.declared.syntax.Atom.TheVariants as atom
use Rattle.hs_text.specs.declared.syntax.Count.{Count}
use Rattle.hs_text.specs.declared.syntax.Count.TheVariants as count
use Rattle.hs_text.specs.declared.syntax.Call.{Call}
use Rattle.hs_text.specs.declared.syntax.Body.{Body}
use Rattle.hs_text.specs.declared.syntax.Body.TheVariants as body

-- The characters of a span.
abbrev pub slice : List ℕ → Span → List ℕ
slice source span = take (span.end - span.start) (drop span.start source)

-- A word as a name with its span.
abbrev pub name_of : List ℕ → Token → Name
name_of source t = record { text = encode_utf8_all (slice source t.span); span = t.span }

-- What an escape means, by the character after its backslash: `n` for a line feed, `t` for a tab,
-- and else the character itself.
abbrev pub escape_value : ℕ → ℕ
escape_value c = if c == 110 then 10 else if c == 116 then 9 else c

-- The characters that a text means, from after its first quote on. The first argument says whether
-- a backslash is before them.
abbrev pub content : Bool → List ℕ → List ℕ
content after_backslash [] = []
content true (c ∷ cs) = escape_value c ∷ content false cs
content false (c ∷ cs) =
    if c == 34 then []
    else if c == 92 then content true cs
    else c ∷ content false cs

-- The text that a token in quotes means.
abbrev pub text_in : List ℕ → Token → List ℕ
text_in source t = encode_utf8_all (content false (drop 1 (slice source t.span)))

abbrev pub direction_of : Kind → Direction
direction_of kind.Out = direction.Out
direction_of _ = direction.In

abbrev pub mark_of : Kind → Mark
mark_of kind.Create = mark.Create
mark_of kind.Delete = mark.Delete
mark_of _ = mark.Preserve

abbrev pub sign_of : Kind → Sign
sign_of kind.And = sign.And
sign_of kind.Equal = sign.Equal
sign_of kind.NotEqual = sign.NotEqual
sign_of kind.Less = sign.Less
sign_of kind.AtMost = sign.AtMost
sign_of kind.Greater = sign.Greater
sign_of kind.AtLeast = sign.AtLeast
sign_of kind.Plus = sign.Plus
sign_of kind.Minus = sign.Minus
sign_of kind.Times = sign.Times
sign_of _ = sign.Or

abbrev pub is_true : Kind → Bool
is_true kind.True = true
is_true _ = false

-- The part of an expression that a literal is.
abbrev pub literal_by : Kind → List ℕ → Token → Piece
literal_by kind.Int source t = piece.Int t.number t.span
literal_by kind.Text source t = piece.Text (text_in source t) t.span
literal_by k source t = piece.Bool (is_true k) t.span

abbrev pub literal_of : List ℕ → Token → Piece
literal_of source t = literal_by t.kind source t

-- The value that a token is in a call.
abbrev pub atom_by : Kind → List ℕ → Token → Atom
atom_by kind.Int source t = atom.Int false t.number t.span
atom_by kind.Text source t = atom.Text (text_in source t) t.span
atom_by kind.Name source t = atom.Name (name_of source t)
atom_by k source t = atom.Bool (is_true k) t.span

abbrev pub atom_of : List ℕ → Token → Atom
atom_of source t = atom_by t.kind source t

abbrev pub count_by : Kind → List ℕ → Token → Count
count_by kind.Int source t = count.Int t.number t.span
count_by k source t = count.Param (name_of source t)

abbrev pub count_of : List ℕ → Token → Count
count_of source t = count_by t.kind source t

-- The body that has its calls in a list.
abbrev pub list_body : Kind → List Call → Body
list_body kind.Independent calls = body.Independent calls
list_body kind.Priority calls = body.Priority calls
list_body _ calls = body.Sequential calls
