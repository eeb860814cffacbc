-- The grammar as an LL(1) table: productions, the one that a part takes at a token, and what a text
-- of symbols derives.
use Rattle.std.specs.Prelude.{ℕ, ◌≡◌, ◌↔◌, Bool, true, false, ◌||◌, ◌&&◌, List, [], ◌∷◌, ◌++◌, Option, Some, None, is_some}
use Rattle.hs_tokens.specs.declared.token.Kind.{Kind}
use Rattle.hs_tokens.specs.declared.token.Kind.TheVariants as kind
use Rattle.hs_text.specs.declared.grammar.Term.{Term}
use Rattle.hs_text.specs.declared.grammar.Term.TheVariants as term
use Rattle.hs_tokens.specs.declared.token.Token.{Token}
use Rattle.hs_text.specs.declared.grammar.Part.{Part}
use Rattle.hs_text.specs.declared.grammar.Part.TheVariants as part
use Rattle.hs_text.specs.declared.grammar.Production.{Production}
use Rattle.hs_text.specs.declared.grammar.Production.TheVariants as production
use Rattle.hs_text.specs.declared.grammar.Action.{Action}
use Rattle.hs_text.specs.declared.grammar.Action.TheVariants as action
use Rattle.hs_text.specs.declared.grammar.Symbol.{Symbol}
use Rattle.hs_text.specs.declared.grammar.Symbol.TheVariants.{Skip, Keep, Sub, Act}
use Rattle.hs_tokens.specs.Kinds.{same}
use Rattle.hs_text.specs.declared.builder.Builder.{Builder}
use Rattle.hs_text.specs.Terms.{matches}
use Rattle.hs_text.specs.Building.{with_token, builder_after}

-- The part that a production writes.
abbrev pub part_of : Production → Part
part_of production.TextMore = part.Text
part_of production.TextEnd = part.Text
part_of production.RuleDefinition = part.Definition
part_of production.UnitDefinition = part.Definition
part_of production.Params = part.Params
part_of production.ParamFirst = part.ParamList
part_of production.ParamNone = part.ParamList
part_of production.ParamNext = part.ParamsTail
part_of production.ParamLast = part.ParamsTail
part_of production.Param = part.Param
part_of production.ItemMore = part.Items
part_of production.ItemEnd = part.Items
part_of production.ItemSimple = part.Item
part_of production.ItemForbid = part.Item
part_of production.ItemRequire = part.Item
part_of production.ItemMulti = part.Item
part_of production.ElementMore = part.Elements
part_of production.ElementEnd = part.Elements
part_of production.SimpleMore = part.Simples
part_of production.SimpleEnd = part.Simples
part_of production.SimpleElement = part.Simple
part_of production.SimpleSet = part.Simple
part_of production.SimpleWhere = part.Simple
part_of production.ElementNode = part.Element
part_of production.ElementEdge = part.Element
part_of production.Expr = part.Expr
part_of production.OrMore = part.OrTail
part_of production.OrEnd = part.OrTail
part_of production.Conj = part.Conj
part_of production.AndMore = part.AndTail
part_of production.AndEnd = part.AndTail
part_of production.NegNot = part.Neg
part_of production.NegCmp = part.Neg
part_of production.Cmp = part.Cmp
part_of production.CmpMore = part.CmpTail
part_of production.CmpEnd = part.CmpTail
part_of production.Sum = part.Sum
part_of production.SumMore = part.SumTail
part_of production.SumEnd = part.SumTail
part_of production.Prod = part.Prod
part_of production.ProdMore = part.ProdTail
part_of production.ProdEnd = part.ProdTail
part_of production.FactLiteral = part.Fact
part_of production.FactName = part.Fact
part_of production.FactParens = part.Fact
part_of production.FactMinus = part.Fact
part_of production.SlotDot = part.Slot
part_of production.SlotNone = part.Slot
part_of production.BodyListed = part.Body
part_of production.BodyConditional = part.Body
part_of production.BodyLoop = part.Body
part_of production.BodyIterated = part.Body
part_of production.ElseSome = part.Else
part_of production.ElseNone = part.Else
part_of production.CallMore = part.Calls
part_of production.CallEnd = part.Calls
part_of production.Call = part.Call
part_of production.BindFirst = part.BindList
part_of production.BindNone = part.BindList
part_of production.BindNext = part.BindsTail
part_of production.BindLast = part.BindsTail
part_of production.Bind = part.Bind
part_of production.BoundValue = part.Bound
part_of production.BoundVariable = part.Bound
part_of production.ValueAtom = part.Value
part_of production.ValueMinus = part.Value

-- What a production is made of.
abbrev pub right_side : Production → List Symbol
right_side production.TextMore = Sub part.Definition ∷ Sub part.Text ∷ []
right_side production.TextEnd = []
right_side production.RuleDefinition =
    Skip kind.Rule ∷ Keep (term.Just kind.Name) ∷ Sub part.Params ∷ Skip kind.LeftBrace
    ∷ Sub part.Items ∷ Skip kind.RightBrace ∷ Act action.Rule ∷ []
right_side production.UnitDefinition =
    Skip kind.Unit ∷ Keep (term.Just kind.Name) ∷ Sub part.Params ∷ Sub part.Body ∷ []
right_side production.Params = Skip kind.LeftParen ∷ Sub part.ParamList ∷ Skip kind.RightParen ∷ []
right_side production.ParamFirst = Sub part.Param ∷ Sub part.ParamsTail ∷ []
right_side production.ParamNone = []
right_side production.ParamNext = Skip kind.Comma ∷ Sub part.Param ∷ Sub part.ParamsTail ∷ []
right_side production.ParamLast = []
right_side production.Param =
    Keep term.Direction ∷ Keep (term.Just kind.Name) ∷ Skip kind.Colon ∷ Keep term.Word
    ∷ Act action.Param ∷ []
right_side production.ItemMore = Sub part.Item ∷ Sub part.Items ∷ []
right_side production.ItemEnd = []
right_side production.ItemSimple = Sub part.Simple ∷ Act action.Plain ∷ []
right_side production.ItemForbid =
    Skip kind.Forbid ∷ Skip kind.LeftBrace ∷ Sub part.Elements ∷ Skip kind.RightBrace
    ∷ Act action.Forbid ∷ []
right_side production.ItemRequire =
    Skip kind.Require ∷ Skip kind.LeftBrace ∷ Sub part.Elements ∷ Skip kind.RightBrace
    ∷ Act action.Require ∷ []
right_side production.ItemMulti =
    Skip kind.Multi ∷ Skip kind.LeftBrace ∷ Sub part.Simples ∷ Skip kind.RightBrace
    ∷ Act action.Multi ∷ []
right_side production.ElementMore = Sub part.Element ∷ Skip kind.Semicolon ∷ Sub part.Elements ∷ []
right_side production.ElementEnd = []
right_side production.SimpleMore = Sub part.Simple ∷ Sub part.Simples ∷ []
right_side production.SimpleEnd = []
right_side production.SimpleElement =
    Keep term.Mark ∷ Sub part.Element ∷ Skip kind.Semicolon ∷ Act action.Marked ∷ []
right_side production.SimpleSet =
    Skip kind.Set ∷ Keep (term.Just kind.Name) ∷ Skip kind.Dot ∷ Keep term.Word ∷ Skip kind.Assign
    ∷ Sub part.Expr ∷ Skip kind.Semicolon ∷ Act action.Set ∷ []
right_side production.SimpleWhere =
    Keep (term.Just kind.Where) ∷ Sub part.Expr ∷ Skip kind.Semicolon ∷ Act action.Where ∷ []
right_side production.ElementNode =
    Skip kind.Node ∷ Keep (term.Just kind.Name) ∷ Skip kind.Colon ∷ Keep term.Word ∷ Act action.Node
    ∷ []
right_side production.ElementEdge =
    Skip kind.Edge ∷ Keep (term.Just kind.Name) ∷ Skip kind.Arrow ∷ Keep (term.Just kind.Name)
    ∷ Skip kind.Colon ∷ Keep term.Word ∷ Act action.Edge ∷ []
right_side production.Expr = Sub part.Conj ∷ Sub part.OrTail ∷ []
right_side production.OrMore =
    Keep (term.Just kind.Or) ∷ Sub part.Conj ∷ Act action.Binary ∷ Sub part.OrTail ∷ []
right_side production.OrEnd = []
right_side production.Conj = Sub part.Neg ∷ Sub part.AndTail ∷ []
right_side production.AndMore =
    Keep (term.Just kind.And) ∷ Sub part.Neg ∷ Act action.Binary ∷ Sub part.AndTail ∷ []
right_side production.AndEnd = []
right_side production.NegNot = Keep (term.Just kind.Not) ∷ Sub part.Neg ∷ Act action.Not ∷ []
right_side production.NegCmp = Sub part.Cmp ∷ []
right_side production.Cmp = Sub part.Sum ∷ Sub part.CmpTail ∷ []
right_side production.CmpMore = Keep term.Comparison ∷ Sub part.Sum ∷ Act action.Binary ∷ []
right_side production.CmpEnd = []
right_side production.Sum = Sub part.Prod ∷ Sub part.SumTail ∷ []
right_side production.SumMore =
    Keep term.Addition ∷ Sub part.Prod ∷ Act action.Binary ∷ Sub part.SumTail ∷ []
right_side production.SumEnd = []
right_side production.Prod = Sub part.Fact ∷ Sub part.ProdTail ∷ []
right_side production.ProdMore =
    Keep (term.Just kind.Times) ∷ Sub part.Fact ∷ Act action.Binary ∷ Sub part.ProdTail ∷ []
right_side production.ProdEnd = []
right_side production.FactLiteral = Keep term.Literal ∷ Act action.Literal ∷ []
right_side production.FactName = Keep (term.Just kind.Name) ∷ Sub part.Slot ∷ []
right_side production.FactParens = Skip kind.LeftParen ∷ Sub part.Expr ∷ Skip kind.RightParen ∷ []
right_side production.FactMinus =
    Keep (term.Just kind.Minus) ∷ Sub part.Fact ∷ Act action.Minus ∷ []
right_side production.SlotDot = Skip kind.Dot ∷ Keep term.Word ∷ Act action.Slot ∷ []
right_side production.SlotNone = Act action.Name ∷ []
right_side production.BodyListed =
    Keep term.Order ∷ Skip kind.LeftBrace ∷ Sub part.Calls ∷ Skip kind.RightBrace
    ∷ Act action.Listed ∷ []
right_side production.BodyConditional =
    Skip kind.Conditional ∷ Skip kind.LeftBrace ∷ Skip kind.If ∷ Sub part.Call ∷ Skip kind.Semicolon
    ∷ Skip kind.Then ∷ Sub part.Call ∷ Skip kind.Semicolon ∷ Sub part.Else ∷ []
right_side production.BodyLoop =
    Skip kind.Loop ∷ Skip kind.LeftBrace ∷ Sub part.Call ∷ Skip kind.Semicolon
    ∷ Skip kind.RightBrace ∷ Act action.Loop ∷ []
right_side production.BodyIterated =
    Skip kind.Iterated ∷ Keep term.Count ∷ Skip kind.LeftBrace ∷ Sub part.Call ∷ Skip kind.Semicolon
    ∷ Skip kind.RightBrace ∷ Act action.Iterated ∷ []
right_side production.ElseSome =
    Skip kind.Else ∷ Sub part.Call ∷ Skip kind.Semicolon ∷ Skip kind.RightBrace ∷ Act action.IfElse
    ∷ []
right_side production.ElseNone = Skip kind.RightBrace ∷ Act action.If ∷ []
right_side production.CallMore = Sub part.Call ∷ Skip kind.Semicolon ∷ Sub part.Calls ∷ []
right_side production.CallEnd = []
right_side production.Call =
    Keep (term.Just kind.Name) ∷ Skip kind.LeftParen ∷ Sub part.BindList ∷ Skip kind.RightParen
    ∷ Act action.Call ∷ []
right_side production.BindFirst = Sub part.Bind ∷ Sub part.BindsTail ∷ []
right_side production.BindNone = []
right_side production.BindNext = Skip kind.Comma ∷ Sub part.Bind ∷ Sub part.BindsTail ∷ []
right_side production.BindLast = []
right_side production.Bind = Keep (term.Just kind.Name) ∷ Sub part.Bound ∷ []
right_side production.BoundValue = Skip kind.Assign ∷ Sub part.Value ∷ []
right_side production.BoundVariable =
    Skip kind.Greater ∷ Keep (term.Just kind.Name) ∷ Act action.Variable ∷ []
right_side production.ValueAtom = Keep term.Atom ∷ Act action.Atom ∷ []
right_side production.ValueMinus =
    Skip kind.Minus ∷ Keep (term.Just kind.Int) ∷ Act action.MinusAtom ∷ []

-- The production that begins with a token of this kind.
abbrev pub choice_of : Part → Kind → Option Production
choice_of part.Text kind.Rule = Some production.TextMore
choice_of part.Text kind.Unit = Some production.TextMore
choice_of part.Definition kind.Rule = Some production.RuleDefinition
choice_of part.Definition kind.Unit = Some production.UnitDefinition
choice_of part.Params kind.LeftParen = Some production.Params
choice_of part.ParamList kind.In = Some production.ParamFirst
choice_of part.ParamList kind.Out = Some production.ParamFirst
choice_of part.ParamsTail kind.Comma = Some production.ParamNext
choice_of part.Param kind.In = Some production.Param
choice_of part.Param kind.Out = Some production.Param
choice_of part.Items kind.Preserve = Some production.ItemMore
choice_of part.Items kind.Create = Some production.ItemMore
choice_of part.Items kind.Delete = Some production.ItemMore
choice_of part.Items kind.Forbid = Some production.ItemMore
choice_of part.Items kind.Require = Some production.ItemMore
choice_of part.Items kind.Multi = Some production.ItemMore
choice_of part.Items kind.Set = Some production.ItemMore
choice_of part.Items kind.Where = Some production.ItemMore
choice_of part.Item kind.Preserve = Some production.ItemSimple
choice_of part.Item kind.Create = Some production.ItemSimple
choice_of part.Item kind.Delete = Some production.ItemSimple
choice_of part.Item kind.Set = Some production.ItemSimple
choice_of part.Item kind.Where = Some production.ItemSimple
choice_of part.Item kind.Forbid = Some production.ItemForbid
choice_of part.Item kind.Require = Some production.ItemRequire
choice_of part.Item kind.Multi = Some production.ItemMulti
choice_of part.Elements kind.Node = Some production.ElementMore
choice_of part.Elements kind.Edge = Some production.ElementMore
choice_of part.Simples kind.Preserve = Some production.SimpleMore
choice_of part.Simples kind.Create = Some production.SimpleMore
choice_of part.Simples kind.Delete = Some production.SimpleMore
choice_of part.Simples kind.Set = Some production.SimpleMore
choice_of part.Simples kind.Where = Some production.SimpleMore
choice_of part.Simple kind.Preserve = Some production.SimpleElement
choice_of part.Simple kind.Create = Some production.SimpleElement
choice_of part.Simple kind.Delete = Some production.SimpleElement
choice_of part.Simple kind.Set = Some production.SimpleSet
choice_of part.Simple kind.Where = Some production.SimpleWhere
choice_of part.Element kind.Node = Some production.ElementNode
choice_of part.Element kind.Edge = Some production.ElementEdge
choice_of part.Expr kind.Name = Some production.Expr
choice_of part.Expr kind.Int = Some production.Expr
choice_of part.Expr kind.Text = Some production.Expr
choice_of part.Expr kind.Not = Some production.Expr
choice_of part.Expr kind.True = Some production.Expr
choice_of part.Expr kind.False = Some production.Expr
choice_of part.Expr kind.LeftParen = Some production.Expr
choice_of part.Expr kind.Minus = Some production.Expr
choice_of part.OrTail kind.Or = Some production.OrMore
choice_of part.Conj kind.Name = Some production.Conj
choice_of part.Conj kind.Int = Some production.Conj
choice_of part.Conj kind.Text = Some production.Conj
choice_of part.Conj kind.Not = Some production.Conj
choice_of part.Conj kind.True = Some production.Conj
choice_of part.Conj kind.False = Some production.Conj
choice_of part.Conj kind.LeftParen = Some production.Conj
choice_of part.Conj kind.Minus = Some production.Conj
choice_of part.AndTail kind.And = Some production.AndMore
choice_of part.Neg kind.Not = Some production.NegNot
choice_of part.Neg kind.Name = Some production.NegCmp
choice_of part.Neg kind.Int = Some production.NegCmp
choice_of part.Neg kind.Text = Some production.NegCmp
choice_of part.Neg kind.True = Some production.NegCmp
choice_of part.Neg kind.False = Some production.NegCmp
choice_of part.Neg kind.LeftParen = Some production.NegCmp
choice_of part.Neg kind.Minus = Some production.NegCmp
choice_of part.Cmp kind.Name = Some production.Cmp
choice_of part.Cmp kind.Int = Some production.Cmp
choice_of part.Cmp kind.Text = Some production.Cmp
choice_of part.Cmp kind.True = Some production.Cmp
choice_of part.Cmp kind.False = Some production.Cmp
choice_of part.Cmp kind.LeftParen = Some production.Cmp
choice_of part.Cmp kind.Minus = Some production.Cmp
choice_of part.CmpTail kind.Equal = Some production.CmpMore
choice_of part.CmpTail kind.NotEqual = Some production.CmpMore
choice_of part.CmpTail kind.Less = Some production.CmpMore
choice_of part.CmpTail kind.AtMost = Some production.CmpMore
choice_of part.CmpTail kind.Greater = Some production.CmpMore
choice_of part.CmpTail kind.AtLeast = Some production.CmpMore
choice_of part.Sum kind.Name = Some production.Sum
choice_of part.Sum kind.Int = Some production.Sum
choice_of part.Sum kind.Text = Some production.Sum
choice_of part.Sum kind.True = Some production.Sum
choice_of part.Sum kind.False = Some production.Sum
choice_of part.Sum kind.LeftParen = Some production.Sum
choice_of part.Sum kind.Minus = Some production.Sum
choice_of part.SumTail kind.Plus = Some production.SumMore
choice_of part.SumTail kind.Minus = Some production.SumMore
choice_of part.Prod kind.Name = Some production.Prod
choice_of part.Prod kind.Int = Some production.Prod
choice_of part.Prod kind.Text = Some production.Prod
choice_of part.Prod kind.True = Some production.Prod
choice_of part.Prod kind.False = Some production.Prod
choice_of part.Prod kind.LeftParen = Some production.Prod
choice_of part.Prod kind.Minus = Some production.Prod
choice_of part.ProdTail kind.Times = Some production.ProdMore
choice_of part.Fact kind.Int = Some production.FactLiteral
choice_of part.Fact kind.Text = Some production.FactLiteral
choice_of part.Fact kind.True = Some production.FactLiteral
choice_of part.Fact kind.False = Some production.FactLiteral
choice_of part.Fact kind.Name = Some production.FactName
choice_of part.Fact kind.LeftParen = Some production.FactParens
choice_of part.Fact kind.Minus = Some production.FactMinus
choice_of part.Slot kind.Dot = Some production.SlotDot
choice_of part.Body kind.Sequential = Some production.BodyListed
choice_of part.Body kind.Independent = Some production.BodyListed
choice_of part.Body kind.Priority = Some production.BodyListed
choice_of part.Body kind.Conditional = Some production.BodyConditional
choice_of part.Body kind.Loop = Some production.BodyLoop
choice_of part.Body kind.Iterated = Some production.BodyIterated
choice_of part.Else kind.Else = Some production.ElseSome
choice_of part.Else kind.RightBrace = Some production.ElseNone
choice_of part.Calls kind.Name = Some production.CallMore
choice_of part.Call kind.Name = Some production.Call
choice_of part.BindList kind.Name = Some production.BindFirst
choice_of part.BindsTail kind.Comma = Some production.BindNext
choice_of part.Bind kind.Name = Some production.Bind
choice_of part.Bound kind.Assign = Some production.BoundValue
choice_of part.Bound kind.Greater = Some production.BoundVariable
choice_of part.Value kind.Name = Some production.ValueAtom
choice_of part.Value kind.Int = Some production.ValueAtom
choice_of part.Value kind.Text = Some production.ValueAtom
choice_of part.Value kind.True = Some production.ValueAtom
choice_of part.Value kind.False = Some production.ValueAtom
choice_of part.Value kind.Minus = Some production.ValueMinus
choice_of _ _ = None

-- The production by which a part is nothing.
abbrev pub empty_of : Part → Option Production
empty_of part.Text = Some production.TextEnd
empty_of part.ParamList = Some production.ParamNone
empty_of part.ParamsTail = Some production.ParamLast
empty_of part.Items = Some production.ItemEnd
empty_of part.Elements = Some production.ElementEnd
empty_of part.Simples = Some production.SimpleEnd
empty_of part.OrTail = Some production.OrEnd
empty_of part.AndTail = Some production.AndEnd
empty_of part.CmpTail = Some production.CmpEnd
empty_of part.SumTail = Some production.SumEnd
empty_of part.ProdTail = Some production.ProdEnd
empty_of part.Slot = Some production.SlotNone
empty_of part.Calls = Some production.CallEnd
empty_of part.BindList = Some production.BindNone
empty_of part.BindsTail = Some production.BindLast
empty_of _ = None

abbrev pub choice_or : Option Production → Option Production → Option Production
choice_or (Some p) o = Some p
choice_or None o = o

-- The production that a part takes at a token of this kind.
abbrev pub production_of : Part → Kind → Option Production
production_of n k = choice_or (choice_of n k) (empty_of n)

-- The tokens are a text of these symbols, and reading them takes the one builder to the other. The
-- characters are those of the text.
pub data Derives (source : List ℕ) : List Symbol → List Token → Builder → Builder → Type 0 where
  done : {b : Builder} → Derives source [] [] b b
  skip : {k : Kind} {t : Token} {ss : List Symbol} {ts : List Token} {b f : Builder}
      → same k t.kind ≡ true → Derives source ss ts b f → Derives source (Skip k ∷ ss) (t ∷ ts) b f
  keep : {w : Term} {t : Token} {ss : List Symbol} {ts : List Token} {b f : Builder}
      → matches w t.kind ≡ true → Derives source ss ts (with_token t b) f
      → Derives source (Keep w ∷ ss) (t ∷ ts) b f
  act : {a : Action} {ss : List Symbol} {ts : List Token} {b f : Builder}
      → Derives source ss ts (builder_after source a b) f → Derives source (Act a ∷ ss) ts b f
  by : {n : Part} {ss : List Symbol} {ts : List Token} {b f : Builder} (p : Production) → part_of p
      ≡ n → Derives source (right_side p ++ ss) ts b f → Derives source (Sub n ∷ ss) ts b f

-- Whether a text of these symbols may begin with a token of this kind.
abbrev pub begins : List Symbol → Kind → Bool
begins [] k = false
begins (Skip j ∷ ss) k = same j k
begins (Keep w ∷ ss) k = matches w k
begins (Act a ∷ ss) k = begins ss k
begins (Sub n ∷ ss) k = is_some (choice_of n k) || (is_some (empty_of n) && begins ss k)

-- Whether a token of this kind may follow a part.
abbrev pub follows : Part → Kind → Bool
follows part.Definition kind.Rule = true
follows part.Definition kind.Unit = true
follows part.Params kind.Sequential = true
follows part.Params kind.Independent = true
follows part.Params kind.Priority = true
follows part.Params kind.Conditional = true
follows part.Params kind.Loop = true
follows part.Params kind.Iterated = true
follows part.Params kind.LeftBrace = true
follows part.ParamList kind.RightParen = true
follows part.ParamsTail kind.RightParen = true
follows part.Param kind.RightParen = true
follows part.Param kind.Comma = true
follows part.Items kind.RightBrace = true
follows part.Item kind.Preserve = true
follows part.Item kind.Create = true
follows part.Item kind.Delete = true
follows part.Item kind.Forbid = true
follows part.Item kind.Require = true
follows part.Item kind.Multi = true
follows part.Item kind.Set = true
follows part.Item kind.Where = true
follows part.Item kind.RightBrace = true
follows part.Elements kind.RightBrace = true
follows part.Simples kind.RightBrace = true
follows part.Simple kind.Preserve = true
follows part.Simple kind.Create = true
follows part.Simple kind.Delete = true
follows part.Simple kind.Forbid = true
follows part.Simple kind.Require = true
follows part.Simple kind.Multi = true
follows part.Simple kind.Set = true
follows part.Simple kind.Where = true
follows part.Simple kind.RightBrace = true
follows part.Element kind.Semicolon = true
follows part.Expr kind.RightParen = true
follows part.Expr kind.Semicolon = true
follows part.OrTail kind.RightParen = true
follows part.OrTail kind.Semicolon = true
follows part.Conj kind.Or = true
follows part.Conj kind.RightParen = true
follows part.Conj kind.Semicolon = true
follows part.AndTail kind.Or = true
follows part.AndTail kind.RightParen = true
follows part.AndTail kind.Semicolon = true
follows part.Neg kind.And = true
follows part.Neg kind.Or = true
follows part.Neg kind.RightParen = true
follows part.Neg kind.Semicolon = true
follows part.Cmp kind.And = true
follows part.Cmp kind.Or = true
follows part.Cmp kind.RightParen = true
follows part.Cmp kind.Semicolon = true
follows part.CmpTail kind.And = true
follows part.CmpTail kind.Or = true
follows part.CmpTail kind.RightParen = true
follows part.CmpTail kind.Semicolon = true
follows part.Sum kind.And = true
follows part.Sum kind.Or = true
follows part.Sum kind.RightParen = true
follows part.Sum kind.Semicolon = true
follows part.Sum kind.Equal = true
follows part.Sum kind.NotEqual = true
follows part.Sum kind.Less = true
follows part.Sum kind.AtMost = true
follows part.Sum kind.Greater = true
follows part.Sum kind.AtLeast = true
follows part.SumTail kind.And = true
follows part.SumTail kind.Or = true
follows part.SumTail kind.RightParen = true
follows part.SumTail kind.Semicolon = true
follows part.SumTail kind.Equal = true
follows part.SumTail kind.NotEqual = true
follows part.SumTail kind.Less = true
follows part.SumTail kind.AtMost = true
follows part.SumTail kind.Greater = true
follows part.SumTail kind.AtLeast = true
follows part.Prod kind.And = true
follows part.Prod kind.Or = true
follows part.Prod kind.RightParen = true
follows part.Prod kind.Semicolon = true
follows part.Prod kind.Equal = true
follows part.Prod kind.NotEqual = true
follows part.Prod kind.Less = true
follows part.Prod kind.AtMost = true
follows part.Prod kind.Greater = true
follows part.Prod kind.AtLeast = true
follows part.Prod kind.Plus = true
follows part.Prod kind.Minus = true
follows part.ProdTail kind.And = true
follows part.ProdTail kind.Or = true
follows part.ProdTail kind.RightParen = true
follows part.ProdTail kind.Semicolon = true
follows part.ProdTail kind.Equal = true
follows part.ProdTail kind.NotEqual = true
follows part.ProdTail kind.Less = true
follows part.ProdTail kind.AtMost = true
follows part.ProdTail kind.Greater = true
follows part.ProdTail kind.AtLeast = true
follows part.ProdTail kind.Plus = true
follows part.ProdTail kind.Minus = true
follows part.Fact kind.And = true
follows part.Fact kind.Or = true
follows part.Fact kind.RightParen = true
follows part.Fact kind.Semicolon = true
follows part.Fact kind.Equal = true
follows part.Fact kind.NotEqual = true
follows part.Fact kind.Less = true
follows part.Fact kind.AtMost = true
follows part.Fact kind.Greater = true
follows part.Fact kind.AtLeast = true
follows part.Fact kind.Plus = true
follows part.Fact kind.Minus = true
follows part.Fact kind.Times = true
follows part.Slot kind.And = true
follows part.Slot kind.Or = true
follows part.Slot kind.RightParen = true
follows part.Slot kind.Semicolon = true
follows part.Slot kind.Equal = true
follows part.Slot kind.NotEqual = true
follows part.Slot kind.Less = true
follows part.Slot kind.AtMost = true
follows part.Slot kind.Greater = true
follows part.Slot kind.AtLeast = true
follows part.Slot kind.Plus = true
follows part.Slot kind.Minus = true
follows part.Slot kind.Times = true
follows part.Body kind.Rule = true
follows part.Body kind.Unit = true
follows part.Else kind.Rule = true
follows part.Else kind.Unit = true
follows part.Calls kind.RightBrace = true
follows part.Call kind.Semicolon = true
follows part.BindList kind.RightParen = true
follows part.BindsTail kind.RightParen = true
follows part.Bind kind.RightParen = true
follows part.Bind kind.Comma = true
follows part.Bound kind.RightParen = true
follows part.Bound kind.Comma = true
follows part.Value kind.RightParen = true
follows part.Value kind.Comma = true
follows _ _ = false

-- Each part is followed by what may follow it.
abbrev pub Fine : List Symbol → Type 0
Fine [] = Unit {0}
Fine (Skip k ∷ ss) = Fine ss
Fine (Keep w ∷ ss) = Fine ss
Fine (Act a ∷ ss) = Fine ss
Fine (Sub n ∷ ss) = ((k : Kind) → begins ss k ≡ true → follows n k ≡ true) × Fine ss

-- The token is taken: what follows it in a text of the old symbols is a text of the new ones.
pub record TakesToken (source : List ℕ) (old : List Symbol) (b : Builder) (t : Token)
    (new : List Symbol) (c : Builder) : Type 0 where
  pub fine : Fine new
  pub same_texts : (u : List Token) (f : Builder)
      → Derives source old (t ∷ u) b f ↔ Derives source new u c f

-- No text of the symbols begins with the token.
abbrev pub RefusesToken : List ℕ → List Symbol → Builder → Token → Type 0
RefusesToken source old b t = (u : List Token) (f : Builder) → Derives source old (t ∷ u) b f → ⊥

-- The text is at its end: of the symbols the empty text is one, and it leads to this builder alone.
abbrev pub IsEnd : List ℕ → List Symbol → Builder → Builder → Type 0
IsEnd source old b c = (f : Builder) → Derives source old [] b f ↔ (f ≡ c)

-- The empty text is none of these symbols.
abbrev pub IsCutOff : List ℕ → List Symbol → Builder → Type 0
IsCutOff source old b = (f : Builder) → Derives source old [] b f → ⊥
