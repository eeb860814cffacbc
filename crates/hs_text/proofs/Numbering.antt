use Rattle.std.proofs.Common.{ℕ, zero, suc, ◌≡◌, Bool, true, List, [], ◌∷◌, nat_eq, get_or, refl, ap, sym, subst, ◌∙◌, arith}
use Rattle.std.proofs.lemmas.Bool.{and_parts}
use Rattle.std.specs.List.{list_all}
use Rattle.hs_tokens.specs.declared.token.Kind.{Kind}
use Rattle.hs_tokens.specs.declared.token.Kind.TheVariants as kind
use Rattle.hs_tokens.specs.Kinds.{code}
use Rattle.hs_text.specs.declared.grammar.Part.{Part}
use Rattle.hs_text.specs.declared.grammar.Part.TheVariants as part
use Rattle.hs_text.specs.declared.grammar.Production.{Production}
use Rattle.hs_text.specs.declared.grammar.Production.TheVariants as production

-- Kinds, productions and parts by numbers, to go over all kinds and to distinguish two by computation.

unfoldable pub kinds : List Kind
kinds = kind.Name ∷ kind.Int ∷ kind.Text ∷ kind.Rule ∷ kind.Unit ∷ kind.In ∷ kind.Out ∷ kind.Preserve ∷ kind.Create ∷ kind.Delete ∷ kind.Forbid ∷ kind.Require ∷ kind.Multi ∷ kind.Node ∷ kind.Edge ∷ kind.Set ∷ kind.Where ∷ kind.Sequential ∷ kind.Independent ∷ kind.Priority ∷ kind.Conditional ∷ kind.If ∷ kind.Then ∷ kind.Else ∷ kind.Loop ∷ kind.Iterated ∷ kind.And ∷ kind.Or ∷ kind.Not ∷ kind.True ∷ kind.False ∷ kind.IntWord ∷ kind.Bool ∷ kind.TextWord ∷ kind.LeftParen ∷ kind.RightParen ∷ kind.LeftBrace ∷ kind.RightBrace ∷ kind.Colon ∷ kind.Semicolon ∷ kind.Comma ∷ kind.Dot ∷ kind.Arrow ∷ kind.Assign ∷ kind.Equal ∷ kind.NotEqual ∷ kind.Less ∷ kind.AtMost ∷ kind.Greater ∷ kind.AtLeast ∷ kind.Plus ∷ kind.Minus ∷ kind.Times ∷ []

at-code : (k : Kind) → get_or kinds (code k) kind.Name ≡ k
unfolding kinds
at-code kind.Name = refl
at-code kind.Int = refl
at-code kind.Text = refl
at-code kind.Rule = refl
at-code kind.Unit = refl
at-code kind.In = refl
at-code kind.Out = refl
at-code kind.Preserve = refl
at-code kind.Create = refl
at-code kind.Delete = refl
at-code kind.Forbid = refl
at-code kind.Require = refl
at-code kind.Multi = refl
at-code kind.Node = refl
at-code kind.Edge = refl
at-code kind.Set = refl
at-code kind.Where = refl
at-code kind.Sequential = refl
at-code kind.Independent = refl
at-code kind.Priority = refl
at-code kind.Conditional = refl
at-code kind.If = refl
at-code kind.Then = refl
at-code kind.Else = refl
at-code kind.Loop = refl
at-code kind.Iterated = refl
at-code kind.And = refl
at-code kind.Or = refl
at-code kind.Not = refl
at-code kind.True = refl
at-code kind.False = refl
at-code kind.IntWord = refl
at-code kind.Bool = refl
at-code kind.TextWord = refl
at-code kind.LeftParen = refl
at-code kind.RightParen = refl
at-code kind.LeftBrace = refl
at-code kind.RightBrace = refl
at-code kind.Colon = refl
at-code kind.Semicolon = refl
at-code kind.Comma = refl
at-code kind.Dot = refl
at-code kind.Arrow = refl
at-code kind.Assign = refl
at-code kind.Equal = refl
at-code kind.NotEqual = refl
at-code kind.Less = refl
at-code kind.AtMost = refl
at-code kind.Greater = refl
at-code kind.AtLeast = refl
at-code kind.Plus = refl
at-code kind.Minus = refl
at-code kind.Times = refl

all-at : {A : Type 0} (p : A → Bool) (xs : List A) (i : ℕ) (d : A) → list_all p xs ≡ true → p d ≡ true → p (get_or xs i d) ≡ true
all-at p [] i d h e = e
all-at p (x ∷ xs) zero d h e = (and_parts (p x) (list_all p xs) h).0
all-at p (x ∷ xs) (suc i) d h e = all-at p xs i d ((and_parts (p x) (list_all p xs) h).1) e

-- what holds of each kind in the list holds of each kind
pub every : (p : Kind → Bool) → list_all p kinds ≡ true → (k : Kind) → p k ≡ true
unfolding kinds
every p h k = subst (λ x. p x ≡ true) (at-code k) (all-at p kinds (code k) kind.Name h ((and_parts (p kind.Name) _ h).0))

productions : List Production
productions = production.TextMore ∷ production.TextEnd ∷ production.RuleDefinition ∷ production.UnitDefinition ∷ production.Params ∷ production.ParamFirst ∷ production.ParamNone ∷ production.ParamNext ∷ production.ParamLast ∷ production.Param ∷ production.ItemMore ∷ production.ItemEnd ∷ production.ItemSimple ∷ production.ItemForbid ∷ production.ItemRequire ∷ production.ItemMulti ∷ production.ElementMore ∷ production.ElementEnd ∷ production.SimpleMore ∷ production.SimpleEnd ∷ production.SimpleElement ∷ production.SimpleSet ∷ production.SimpleWhere ∷ production.ElementNode ∷ production.ElementEdge ∷ production.Expr ∷ production.OrMore ∷ production.OrEnd ∷ production.Conj ∷ production.AndMore ∷ production.AndEnd ∷ production.NegNot ∷ production.NegCmp ∷ production.Cmp ∷ production.CmpMore ∷ production.CmpEnd ∷ production.Sum ∷ production.SumMore ∷ production.SumEnd ∷ production.Prod ∷ production.ProdMore ∷ production.ProdEnd ∷ production.FactLiteral ∷ production.FactName ∷ production.FactParens ∷ production.FactMinus ∷ production.SlotDot ∷ production.SlotNone ∷ production.BodyListed ∷ production.BodyConditional ∷ production.BodyLoop ∷ production.BodyIterated ∷ production.ElseSome ∷ production.ElseNone ∷ production.CallMore ∷ production.CallEnd ∷ production.Call ∷ production.BindFirst ∷ production.BindNone ∷ production.BindNext ∷ production.BindLast ∷ production.Bind ∷ production.BoundValue ∷ production.BoundVariable ∷ production.ValueAtom ∷ production.ValueMinus ∷ []

unfoldable pub rank : Production → ℕ
rank production.TextMore = 0
rank production.TextEnd = 1
rank production.RuleDefinition = 2
rank production.UnitDefinition = 3
rank production.Params = 4
rank production.ParamFirst = 5
rank production.ParamNone = 6
rank production.ParamNext = 7
rank production.ParamLast = 8
rank production.Param = 9
rank production.ItemMore = 10
rank production.ItemEnd = 11
rank production.ItemSimple = 12
rank production.ItemForbid = 13
rank production.ItemRequire = 14
rank production.ItemMulti = 15
rank production.ElementMore = 16
rank production.ElementEnd = 17
rank production.SimpleMore = 18
rank production.SimpleEnd = 19
rank production.SimpleElement = 20
rank production.SimpleSet = 21
rank production.SimpleWhere = 22
rank production.ElementNode = 23
rank production.ElementEdge = 24
rank production.Expr = 25
rank production.OrMore = 26
rank production.OrEnd = 27
rank production.Conj = 28
rank production.AndMore = 29
rank production.AndEnd = 30
rank production.NegNot = 31
rank production.NegCmp = 32
rank production.Cmp = 33
rank production.CmpMore = 34
rank production.CmpEnd = 35
rank production.Sum = 36
rank production.SumMore = 37
rank production.SumEnd = 38
rank production.Prod = 39
rank production.ProdMore = 40
rank production.ProdEnd = 41
rank production.FactLiteral = 42
rank production.FactName = 43
rank production.FactParens = 44
rank production.FactMinus = 45
rank production.SlotDot = 46
rank production.SlotNone = 47
rank production.BodyListed = 48
rank production.BodyConditional = 49
rank production.BodyLoop = 50
rank production.BodyIterated = 51
rank production.ElseSome = 52
rank production.ElseNone = 53
rank production.CallMore = 54
rank production.CallEnd = 55
rank production.Call = 56
rank production.BindFirst = 57
rank production.BindNone = 58
rank production.BindNext = 59
rank production.BindLast = 60
rank production.Bind = 61
rank production.BoundValue = 62
rank production.BoundVariable = 63
rank production.ValueAtom = 64
rank production.ValueMinus = 65

at-rank : (p : Production) → get_or productions (rank p) production.TextEnd ≡ p
unfolding productions rank
at-rank production.TextMore = refl
at-rank production.TextEnd = refl
at-rank production.RuleDefinition = refl
at-rank production.UnitDefinition = refl
at-rank production.Params = refl
at-rank production.ParamFirst = refl
at-rank production.ParamNone = refl
at-rank production.ParamNext = refl
at-rank production.ParamLast = refl
at-rank production.Param = refl
at-rank production.ItemMore = refl
at-rank production.ItemEnd = refl
at-rank production.ItemSimple = refl
at-rank production.ItemForbid = refl
at-rank production.ItemRequire = refl
at-rank production.ItemMulti = refl
at-rank production.ElementMore = refl
at-rank production.ElementEnd = refl
at-rank production.SimpleMore = refl
at-rank production.SimpleEnd = refl
at-rank production.SimpleElement = refl
at-rank production.SimpleSet = refl
at-rank production.SimpleWhere = refl
at-rank production.ElementNode = refl
at-rank production.ElementEdge = refl
at-rank production.Expr = refl
at-rank production.OrMore = refl
at-rank production.OrEnd = refl
at-rank production.Conj = refl
at-rank production.AndMore = refl
at-rank production.AndEnd = refl
at-rank production.NegNot = refl
at-rank production.NegCmp = refl
at-rank production.Cmp = refl
at-rank production.CmpMore = refl
at-rank production.CmpEnd = refl
at-rank production.Sum = refl
at-rank production.SumMore = refl
at-rank production.SumEnd = refl
at-rank production.Prod = refl
at-rank production.ProdMore = refl
at-rank production.ProdEnd = refl
at-rank production.FactLiteral = refl
at-rank production.FactName = refl
at-rank production.FactParens = refl
at-rank production.FactMinus = refl
at-rank production.SlotDot = refl
at-rank production.SlotNone = refl
at-rank production.BodyListed = refl
at-rank production.BodyConditional = refl
at-rank production.BodyLoop = refl
at-rank production.BodyIterated = refl
at-rank production.ElseSome = refl
at-rank production.ElseNone = refl
at-rank production.CallMore = refl
at-rank production.CallEnd = refl
at-rank production.Call = refl
at-rank production.BindFirst = refl
at-rank production.BindNone = refl
at-rank production.BindNext = refl
at-rank production.BindLast = refl
at-rank production.Bind = refl
at-rank production.BoundValue = refl
at-rank production.BoundVariable = refl
at-rank production.ValueAtom = refl
at-rank production.ValueMinus = refl

nat-same : (a b : ℕ) → nat_eq a b ≡ true → a ≡ b
nat-same a b h = grind arith

pub rank-same : (p q : Production) → nat_eq (rank p) (rank q) ≡ true → p ≡ q
rank-same p q h = sym (at-rank p) ∙ ap (λ i. get_or productions i production.TextEnd) (nat-same (rank p) (rank q) h) ∙ at-rank q

parts : List Part
parts = part.Text ∷ part.Definition ∷ part.Params ∷ part.ParamList ∷ part.ParamsTail ∷ part.Param ∷ part.Items ∷ part.Item ∷ part.Elements ∷ part.Simples ∷ part.Simple ∷ part.Element ∷ part.Expr ∷ part.OrTail ∷ part.Conj ∷ part.AndTail ∷ part.Neg ∷ part.Cmp ∷ part.CmpTail ∷ part.Sum ∷ part.SumTail ∷ part.Prod ∷ part.ProdTail ∷ part.Fact ∷ part.Slot ∷ part.Body ∷ part.Else ∷ part.Calls ∷ part.Call ∷ part.BindList ∷ part.BindsTail ∷ part.Bind ∷ part.Bound ∷ part.Value ∷ []

unfoldable pub order : Part → ℕ
order part.Text = 0
order part.Definition = 1
order part.Params = 2
order part.ParamList = 3
order part.ParamsTail = 4
order part.Param = 5
order part.Items = 6
order part.Item = 7
order part.Elements = 8
order part.Simples = 9
order part.Simple = 10
order part.Element = 11
order part.Expr = 12
order part.OrTail = 13
order part.Conj = 14
order part.AndTail = 15
order part.Neg = 16
order part.Cmp = 17
order part.CmpTail = 18
order part.Sum = 19
order part.SumTail = 20
order part.Prod = 21
order part.ProdTail = 22
order part.Fact = 23
order part.Slot = 24
order part.Body = 25
order part.Else = 26
order part.Calls = 27
order part.Call = 28
order part.BindList = 29
order part.BindsTail = 30
order part.Bind = 31
order part.Bound = 32
order part.Value = 33

at-order : (n : Part) → get_or parts (order n) part.Text ≡ n
unfolding parts order
at-order part.Text = refl
at-order part.Definition = refl
at-order part.Params = refl
at-order part.ParamList = refl
at-order part.ParamsTail = refl
at-order part.Param = refl
at-order part.Items = refl
at-order part.Item = refl
at-order part.Elements = refl
at-order part.Simples = refl
at-order part.Simple = refl
at-order part.Element = refl
at-order part.Expr = refl
at-order part.OrTail = refl
at-order part.Conj = refl
at-order part.AndTail = refl
at-order part.Neg = refl
at-order part.Cmp = refl
at-order part.CmpTail = refl
at-order part.Sum = refl
at-order part.SumTail = refl
at-order part.Prod = refl
at-order part.ProdTail = refl
at-order part.Fact = refl
at-order part.Slot = refl
at-order part.Body = refl
at-order part.Else = refl
at-order part.Calls = refl
at-order part.Call = refl
at-order part.BindList = refl
at-order part.BindsTail = refl
at-order part.Bind = refl
at-order part.Bound = refl
at-order part.Value = refl

pub order-same : (m n : Part) → nat_eq (order m) (order n) ≡ true → m ≡ n
order-same m n h = sym (at-order m) ∙ ap (λ i. get_or parts i part.Text) (nat-same (order m) (order n) h) ∙ at-order n
