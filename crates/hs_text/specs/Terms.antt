-- Which tokens may be where the grammar has a term.
use Rattle.std.specs.Prelude.{◌≡◌, Bool, true, false}
use Rattle.hs_tokens.specs.declared.token.Kind.{Kind}
use Rattle.hs_tokens.specs.declared.token.Kind.TheVariants as kind
use Rattle.hs_text.specs.declared.grammar.Term.{Term}
use Rattle.hs_text.specs.declared.grammar.Term.TheVariants as term
use Rattle.hs_tokens.specs.declared.token.Token.{Token}
use Rattle.hs_tokens.specs.Kinds.{same}

-- Whether a token of this kind may be where the grammar has this term.
abbrev pub matches : Term → Kind → Bool
matches (term.Just j) k = same j k
matches term.Word kind.Name = true
matches term.Word kind.Rule = true
matches term.Word kind.Unit = true
matches term.Word kind.In = true
matches term.Word kind.Out = true
matches term.Word kind.Preserve = true
matches term.Word kind.Create = true
matches term.Word kind.Delete = true
matches term.Word kind.Forbid = true
matches term.Word kind.Require = true
matches term.Word kind.Multi = true
matches term.Word kind.Node = true
matches term.Word kind.Edge = true
matches term.Word kind.Set = true
matches term.Word kind.Where = true
matches term.Word kind.Sequential = true
matches term.Word kind.Independent = true
matches term.Word kind.Priority = true
matches term.Word kind.Conditional = true
matches term.Word kind.If = true
matches term.Word kind.Then = true
matches term.Word kind.Else = true
matches term.Word kind.Loop = true
matches term.Word kind.Iterated = true
matches term.Word kind.And = true
matches term.Word kind.Or = true
matches term.Word kind.Not = true
matches term.Word kind.True = true
matches term.Word kind.False = true
matches term.Word kind.IntWord = true
matches term.Word kind.Bool = true
matches term.Word kind.TextWord = true
matches term.Word _ = false
matches term.Direction kind.In = true
matches term.Direction kind.Out = true
matches term.Direction _ = false
matches term.Mark kind.Preserve = true
matches term.Mark kind.Create = true
matches term.Mark kind.Delete = true
matches term.Mark _ = false
matches term.Comparison kind.Equal = true
matches term.Comparison kind.NotEqual = true
matches term.Comparison kind.Less = true
matches term.Comparison kind.AtMost = true
matches term.Comparison kind.Greater = true
matches term.Comparison kind.AtLeast = true
matches term.Comparison _ = false
matches term.Addition kind.Plus = true
matches term.Addition kind.Minus = true
matches term.Addition _ = false
matches term.Literal kind.Int = true
matches term.Literal kind.Text = true
matches term.Literal kind.True = true
matches term.Literal kind.False = true
matches term.Literal _ = false
matches term.Order kind.Sequential = true
matches term.Order kind.Independent = true
matches term.Order kind.Priority = true
matches term.Order _ = false
matches term.Count kind.Int = true
matches term.Count kind.Name = true
matches term.Count _ = false
matches term.Atom kind.Int = true
matches term.Atom kind.Text = true
matches term.Atom kind.True = true
matches term.Atom kind.False = true
matches term.Atom kind.Name = true
matches term.Atom _ = false

-- The token is one of those.
abbrev pub Is : Term → Token → Type 0
Is term t = matches term t.kind ≡ true
