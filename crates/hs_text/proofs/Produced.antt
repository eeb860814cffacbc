use Rattle.std.proofs.Common.{ℕ, ◌≡◌, true, List, [], ◌∷◌, ◌++◌, refl, pos}
use Rattle.hs_tokens.specs.declared.token.Kind.{Kind}
use Rattle.hs_tokens.specs.declared.token.Kind.TheVariants as kind
use Rattle.hs_tokens.specs.declared.token.Token.{Token}
use Rattle.hs_tokens.specs.Kinds.{same}
use Rattle.hs_text.specs.declared.grammar.Part.{Part}
use Rattle.hs_text.specs.declared.grammar.Part.TheVariants as part
use Rattle.hs_text.specs.declared.grammar.Production.{Production}
use Rattle.hs_text.specs.declared.grammar.Production.TheVariants as production
use Rattle.hs_text.specs.declared.grammar.Action.{Action}
use Rattle.hs_text.specs.declared.grammar.Action.TheVariants as action
use Rattle.hs_text.specs.declared.grammar.Symbol.{Symbol}
use Rattle.hs_text.specs.declared.grammar.Symbol.TheVariants.{Skip, Keep, Sub, Act}
use Rattle.hs_text.specs.declared.grammar.Term.{Term}
use Rattle.hs_text.specs.declared.grammar.Term.TheVariants as term
use Rattle.hs_text.specs.declared.builder.Builder.{Builder}
use Rattle.hs_text.specs.Terms.{matches}
use Rattle.hs_text.specs.Building.{with_token, builder_after}
use Rattle.hs_text.specs.Machine.{Derives, done, skip, keep, act, by, part_of, right_side}

-- EVERY STACK HAS A TEXT

-- a token of this kind, anywhere
sample : Kind → Token
sample k = record { kind = k; number = pos 0; span = record { start = 0; end = 0; line = 1; column = 1 } }

-- one kind of token that may be where a term is
term-kind : Term → Kind
term-kind (term.Just k) = k
term-kind term.Word = kind.Name
term-kind term.Direction = kind.In
term-kind term.Mark = kind.Create
term-kind term.Comparison = kind.Less
term-kind term.Addition = kind.Plus
term-kind term.Literal = kind.True
term-kind term.Order = kind.Priority
term-kind term.Count = kind.Name
term-kind term.Atom = kind.Name

nat-self : (k : Kind) → same k k ≡ true
nat-self kind.Name = refl
nat-self kind.Int = refl
nat-self kind.Text = refl
nat-self kind.Rule = refl
nat-self kind.Unit = refl
nat-self kind.In = refl
nat-self kind.Out = refl
nat-self kind.Preserve = refl
nat-self kind.Create = refl
nat-self kind.Delete = refl
nat-self kind.Forbid = refl
nat-self kind.Require = refl
nat-self kind.Multi = refl
nat-self kind.Node = refl
nat-self kind.Edge = refl
nat-self kind.Set = refl
nat-self kind.Where = refl
nat-self kind.Sequential = refl
nat-self kind.Independent = refl
nat-self kind.Priority = refl
nat-self kind.Conditional = refl
nat-self kind.If = refl
nat-self kind.Then = refl
nat-self kind.Else = refl
nat-self kind.Loop = refl
nat-self kind.Iterated = refl
nat-self kind.And = refl
nat-self kind.Or = refl
nat-self kind.Not = refl
nat-self kind.True = refl
nat-self kind.False = refl
nat-self kind.IntWord = refl
nat-self kind.Bool = refl
nat-self kind.TextWord = refl
nat-self kind.LeftParen = refl
nat-self kind.RightParen = refl
nat-self kind.LeftBrace = refl
nat-self kind.RightBrace = refl
nat-self kind.Colon = refl
nat-self kind.Semicolon = refl
nat-self kind.Comma = refl
nat-self kind.Dot = refl
nat-self kind.Arrow = refl
nat-self kind.Assign = refl
nat-self kind.Equal = refl
nat-self kind.NotEqual = refl
nat-self kind.Less = refl
nat-self kind.AtMost = refl
nat-self kind.Greater = refl
nat-self kind.AtLeast = refl
nat-self kind.Plus = refl
nat-self kind.Minus = refl
nat-self kind.Times = refl

term-sample : (w : Term) → matches w (term-kind w) ≡ true
unfolding term-kind
term-sample (term.Just k) = nat-self k
term-sample term.Word = refl
term-sample term.Direction = refl
term-sample term.Mark = refl
term-sample term.Comparison = refl
term-sample term.Addition = refl
term-sample term.Literal = refl
term-sample term.Order = refl
term-sample term.Count = refl
term-sample term.Atom = refl

module _ (source : List ℕ) where
  -- whatever is built, some tokens are a text of the symbols
  HasText : List Symbol → Type 0
  HasText ss = (b : Builder) → (us : List Token) × (f : Builder) × Derives source ss us b f

  text-skip : (k : Kind) (ss : List Symbol) → HasText ss → HasText (Skip k ∷ ss)
  unfolding HasText sample
  text-skip k ss h b = let d = h b in (sample k ∷ d.0, d.1, skip (nat-self k) d.2)

  text-keep : (w : Term) (ss : List Symbol) → HasText ss → HasText (Keep w ∷ ss)
  unfolding HasText sample
  text-keep w ss h b = let t = sample (term-kind w) in let d = h (with_token t b) in (t ∷ d.0, d.1, keep (term-sample w) d.2)

  text-act : (a : Action) (ss : List Symbol) → HasText ss → HasText (Act a ∷ ss)
  unfolding HasText
  text-act a ss h b = let d = h (builder_after source a b) in (d.0, d.1, act d.2)

  text-by : (p : Production) (ss : List Symbol) → HasText (right_side p ++ ss) → HasText (Sub (part_of p) ∷ ss)
  unfolding HasText
  text-by p ss h b = let d = h b in (d.0, d.1, by p refl d.2)

  text-text-part : (ss : List Symbol) → HasText ss → HasText (Sub part.Text ∷ ss)
  text-text-part ss h = text-by production.TextEnd ss h

  text-param-list-part : (ss : List Symbol) → HasText ss → HasText (Sub part.ParamList ∷ ss)
  text-param-list-part ss h = text-by production.ParamNone ss h

  text-params-tail-part : (ss : List Symbol) → HasText ss → HasText (Sub part.ParamsTail ∷ ss)
  text-params-tail-part ss h = text-by production.ParamLast ss h

  text-param-part : (ss : List Symbol) → HasText ss → HasText (Sub part.Param ∷ ss)
  text-param-part ss h = text-by production.Param ss (text-keep term.Direction _ (text-keep (term.Just kind.Name) _ (text-skip kind.Colon _ (text-keep term.Word _ (text-act action.Param _ h)))))

  text-items-part : (ss : List Symbol) → HasText ss → HasText (Sub part.Items ∷ ss)
  text-items-part ss h = text-by production.ItemEnd ss h

  text-elements-part : (ss : List Symbol) → HasText ss → HasText (Sub part.Elements ∷ ss)
  text-elements-part ss h = text-by production.ElementEnd ss h

  text-simples-part : (ss : List Symbol) → HasText ss → HasText (Sub part.Simples ∷ ss)
  text-simples-part ss h = text-by production.SimpleEnd ss h

  text-element-part : (ss : List Symbol) → HasText ss → HasText (Sub part.Element ∷ ss)
  text-element-part ss h = text-by production.ElementNode ss (text-skip kind.Node _ (text-keep (term.Just kind.Name) _ (text-skip kind.Colon _ (text-keep term.Word _ (text-act action.Node _ h)))))

  text-or-tail-part : (ss : List Symbol) → HasText ss → HasText (Sub part.OrTail ∷ ss)
  text-or-tail-part ss h = text-by production.OrEnd ss h

  text-and-tail-part : (ss : List Symbol) → HasText ss → HasText (Sub part.AndTail ∷ ss)
  text-and-tail-part ss h = text-by production.AndEnd ss h

  text-cmp-tail-part : (ss : List Symbol) → HasText ss → HasText (Sub part.CmpTail ∷ ss)
  text-cmp-tail-part ss h = text-by production.CmpEnd ss h

  text-sum-tail-part : (ss : List Symbol) → HasText ss → HasText (Sub part.SumTail ∷ ss)
  text-sum-tail-part ss h = text-by production.SumEnd ss h

  text-prod-tail-part : (ss : List Symbol) → HasText ss → HasText (Sub part.ProdTail ∷ ss)
  text-prod-tail-part ss h = text-by production.ProdEnd ss h

  text-fact-part : (ss : List Symbol) → HasText ss → HasText (Sub part.Fact ∷ ss)
  text-fact-part ss h = text-by production.FactLiteral ss (text-keep term.Literal _ (text-act action.Literal _ h))

  text-slot-part : (ss : List Symbol) → HasText ss → HasText (Sub part.Slot ∷ ss)
  text-slot-part ss h = text-by production.SlotDot ss (text-skip kind.Dot _ (text-keep term.Word _ (text-act action.Slot _ h)))

  text-else-part : (ss : List Symbol) → HasText ss → HasText (Sub part.Else ∷ ss)
  text-else-part ss h = text-by production.ElseNone ss (text-skip kind.RightBrace _ (text-act action.If _ h))

  text-calls-part : (ss : List Symbol) → HasText ss → HasText (Sub part.Calls ∷ ss)
  text-calls-part ss h = text-by production.CallEnd ss h

  text-bind-list-part : (ss : List Symbol) → HasText ss → HasText (Sub part.BindList ∷ ss)
  text-bind-list-part ss h = text-by production.BindNone ss h

  text-binds-tail-part : (ss : List Symbol) → HasText ss → HasText (Sub part.BindsTail ∷ ss)
  text-binds-tail-part ss h = text-by production.BindLast ss h

  text-bound-part : (ss : List Symbol) → HasText ss → HasText (Sub part.Bound ∷ ss)
  text-bound-part ss h = text-by production.BoundVariable ss (text-skip kind.Greater _ (text-keep (term.Just kind.Name) _ (text-act action.Variable _ h)))

  text-value-part : (ss : List Symbol) → HasText ss → HasText (Sub part.Value ∷ ss)
  text-value-part ss h = text-by production.ValueAtom ss (text-keep term.Atom _ (text-act action.Atom _ h))

  text-params-part : (ss : List Symbol) → HasText ss → HasText (Sub part.Params ∷ ss)
  text-params-part ss h = text-by production.Params ss (text-skip kind.LeftParen _ (text-param-list-part _ (text-skip kind.RightParen _ h)))

  text-item-part : (ss : List Symbol) → HasText ss → HasText (Sub part.Item ∷ ss)
  text-item-part ss h = text-by production.ItemForbid ss (text-skip kind.Forbid _ (text-skip kind.LeftBrace _ (text-elements-part _ (text-skip kind.RightBrace _ (text-act action.Forbid _ h)))))

  text-simple-part : (ss : List Symbol) → HasText ss → HasText (Sub part.Simple ∷ ss)
  text-simple-part ss h = text-by production.SimpleElement ss (text-keep term.Mark _ (text-element-part _ (text-skip kind.Semicolon _ (text-act action.Marked _ h))))

  text-prod-part : (ss : List Symbol) → HasText ss → HasText (Sub part.Prod ∷ ss)
  text-prod-part ss h = text-by production.Prod ss (text-fact-part _ (text-prod-tail-part _ h))

  text-body-part : (ss : List Symbol) → HasText ss → HasText (Sub part.Body ∷ ss)
  text-body-part ss h = text-by production.BodyListed ss (text-keep term.Order _ (text-skip kind.LeftBrace _ (text-calls-part _ (text-skip kind.RightBrace _ (text-act action.Listed _ h)))))

  text-call-part : (ss : List Symbol) → HasText ss → HasText (Sub part.Call ∷ ss)
  text-call-part ss h = text-by production.Call ss (text-keep (term.Just kind.Name) _ (text-skip kind.LeftParen _ (text-bind-list-part _ (text-skip kind.RightParen _ (text-act action.Call _ h)))))

  text-bind-part : (ss : List Symbol) → HasText ss → HasText (Sub part.Bind ∷ ss)
  text-bind-part ss h = text-by production.Bind ss (text-keep (term.Just kind.Name) _ (text-bound-part _ h))

  text-definition-part : (ss : List Symbol) → HasText ss → HasText (Sub part.Definition ∷ ss)
  text-definition-part ss h = text-by production.RuleDefinition ss (text-skip kind.Rule _ (text-keep (term.Just kind.Name) _ (text-params-part _ (text-skip kind.LeftBrace _ (text-items-part _ (text-skip kind.RightBrace _ (text-act action.Rule _ h)))))))

  text-sum-part : (ss : List Symbol) → HasText ss → HasText (Sub part.Sum ∷ ss)
  text-sum-part ss h = text-by production.Sum ss (text-prod-part _ (text-sum-tail-part _ h))

  text-cmp-part : (ss : List Symbol) → HasText ss → HasText (Sub part.Cmp ∷ ss)
  text-cmp-part ss h = text-by production.Cmp ss (text-sum-part _ (text-cmp-tail-part _ h))

  text-neg-part : (ss : List Symbol) → HasText ss → HasText (Sub part.Neg ∷ ss)
  text-neg-part ss h = text-by production.NegCmp ss (text-cmp-part _ h)

  text-conj-part : (ss : List Symbol) → HasText ss → HasText (Sub part.Conj ∷ ss)
  text-conj-part ss h = text-by production.Conj ss (text-neg-part _ (text-and-tail-part _ h))

  text-expr-part : (ss : List Symbol) → HasText ss → HasText (Sub part.Expr ∷ ss)
  text-expr-part ss h = text-by production.Expr ss (text-conj-part _ (text-or-tail-part _ h))

  text-part : (n : Part) (ss : List Symbol) → HasText ss → HasText (Sub n ∷ ss)
  text-part part.Text ss h = text-text-part ss h
  text-part part.Definition ss h = text-definition-part ss h
  text-part part.Params ss h = text-params-part ss h
  text-part part.ParamList ss h = text-param-list-part ss h
  text-part part.ParamsTail ss h = text-params-tail-part ss h
  text-part part.Param ss h = text-param-part ss h
  text-part part.Items ss h = text-items-part ss h
  text-part part.Item ss h = text-item-part ss h
  text-part part.Elements ss h = text-elements-part ss h
  text-part part.Simples ss h = text-simples-part ss h
  text-part part.Simple ss h = text-simple-part ss h
  text-part part.Element ss h = text-element-part ss h
  text-part part.Expr ss h = text-expr-part ss h
  text-part part.OrTail ss h = text-or-tail-part ss h
  text-part part.Conj ss h = text-conj-part ss h
  text-part part.AndTail ss h = text-and-tail-part ss h
  text-part part.Neg ss h = text-neg-part ss h
  text-part part.Cmp ss h = text-cmp-part ss h
  text-part part.CmpTail ss h = text-cmp-tail-part ss h
  text-part part.Sum ss h = text-sum-part ss h
  text-part part.SumTail ss h = text-sum-tail-part ss h
  text-part part.Prod ss h = text-prod-part ss h
  text-part part.ProdTail ss h = text-prod-tail-part ss h
  text-part part.Fact ss h = text-fact-part ss h
  text-part part.Slot ss h = text-slot-part ss h
  text-part part.Body ss h = text-body-part ss h
  text-part part.Else ss h = text-else-part ss h
  text-part part.Calls ss h = text-calls-part ss h
  text-part part.Call ss h = text-call-part ss h
  text-part part.BindList ss h = text-bind-list-part ss h
  text-part part.BindsTail ss h = text-binds-tail-part ss h
  text-part part.Bind ss h = text-bind-part ss h
  text-part part.Bound ss h = text-bound-part ss h
  text-part part.Value ss h = text-value-part ss h

  text-all : (ss : List Symbol) → HasText ss
  unfolding HasText
  text-all [] = λ b. ([], b, done)
  text-all (Skip k ∷ ss) = text-skip k ss (text-all ss)
  text-all (Keep w ∷ ss) = text-keep w ss (text-all ss)
  text-all (Act a ∷ ss) = text-act a ss (text-all ss)
  text-all (Sub n ∷ ss) = text-part n ss (text-all ss)

  pub produced : (ss : List Symbol) (b : Builder) → (us : List Token) × (f : Builder) × Derives source ss us b f
  unfolding HasText
  produced ss b = text-all ss b
