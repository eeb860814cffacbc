-- Kinds of tokens, compared by their numbers.
use Rattle.std.specs.Prelude.{ℕ, Bool, nat_eq}
use Rattle.hs_tokens.specs.declared.token.Kind.{Kind}
use Rattle.hs_tokens.specs.declared.token.Kind.TheVariants as kind

-- The number of a kind.
abbrev pub code : Kind → ℕ
code kind.Name = 0
code kind.Int = 1
code kind.Text = 2
code kind.Rule = 3
code kind.Unit = 4
code kind.In = 5
code kind.Out = 6
code kind.Preserve = 7
code kind.Create = 8
code kind.Delete = 9
code kind.Forbid = 10
code kind.Require = 11
code kind.Multi = 12
code kind.Node = 13
code kind.Edge = 14
code kind.Set = 15
code kind.Where = 16
code kind.Sequential = 17
code kind.Independent = 18
code kind.Priority = 19
code kind.Conditional = 20
code kind.If = 21
code kind.Then = 22
code kind.Else = 23
code kind.Loop = 24
code kind.Iterated = 25
code kind.And = 26
code kind.Or = 27
code kind.Not = 28
code kind.True = 29
code kind.False = 30
code kind.IntWord = 31
code kind.Bool = 32
code kind.TextWord = 33
code kind.LeftParen = 34
code kind.RightParen = 35
code kind.LeftBrace = 36
code kind.RightBrace = 37
code kind.Colon = 38
code kind.Semicolon = 39
code kind.Comma = 40
code kind.Dot = 41
code kind.Arrow = 42
code kind.Assign = 43
code kind.Equal = 44
code kind.NotEqual = 45
code kind.Less = 46
code kind.AtMost = 47
code kind.Greater = 48
code kind.AtLeast = 49
code kind.Plus = 50
code kind.Minus = 51
code kind.Times = 52

-- Whether two kinds are the same.
abbrev pub same : Kind → Kind → Bool
same a b = nat_eq (code a) (code b)
