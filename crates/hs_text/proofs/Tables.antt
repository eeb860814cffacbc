use Rattle.std.proofs.Common.{ℕ, ◌<◌, ◌≡◌, Bool, true, false, ◌||◌, ◌&&◌, List, [], ◌∷◌, Option, Some, None, is_some, nat_eq, nat_lt, refl, ap, lit<}
use Rattle.std.proofs.lemmas.Bool.{and_parts}
use Rattle.std.specs.List.{list_all}
use Rattle.hs_tokens.specs.declared.token.Kind.{Kind}
use Rattle.hs_text.specs.declared.grammar.Part.{Part}
use Rattle.hs_text.specs.declared.grammar.Part.TheVariants as part
use Rattle.hs_text.specs.declared.grammar.Production.{Production}
use Rattle.hs_text.specs.declared.grammar.Production.TheVariants as production
use Rattle.hs_text.specs.declared.grammar.Symbol.{Symbol}
use Rattle.hs_text.specs.declared.grammar.Symbol.TheVariants.{Skip, Keep, Sub, Act}
use Rattle.hs_tokens.specs.Kinds.{same}
use Rattle.hs_text.specs.Terms.{matches}
use Rattle.hs_text.specs.Machine.{part_of, right_side, choice_of, empty_of, begins, follows}
use Rattle.hs_text.proofs.Numbering.{kinds, every, rank, rank-same, order, order-same}

-- Tests that are computed: of each production or part, for each kind.

-- the production is that of the option
chosen : Option Production → Production → Bool
chosen (Some q) p = nat_eq (rank q) (rank p)
chosen None p = false

chosen-is : (o : Option Production) (p : Production) → chosen o p ≡ true → o ≡ Some p
unfolding chosen
chosen-is (Some q) p h = ap (λ r. Some r) (rank-same q p h)
chosen-is None p h = cc

abbrev pub implies : Bool → Bool → Bool
implies true b = b
implies false b = true

implied : (a b : Bool) → implies a b ≡ true → a ≡ true → b ≡ true
implied true b h e = h
implied false b h e = cc

abbrev negated : Bool → Bool
negated true = false
negated false = true

-- whether the empty text is one of these symbols
abbrev pub empties : List Symbol → Bool
empties [] = true
empties (Skip k ∷ ss) = false
empties (Keep w ∷ ss) = false
empties (Act a ∷ ss) = empties ss
empties (Sub n ∷ ss) = is_some (empty_of n) && empties ss

-- 1. the production that begins with a kind is the one that is chosen at it
chosen_row : Production → Bool
chosen_row p = list_all (λ k. implies (begins (right_side p) k) (chosen (choice_of (part_of p) k) p)) kinds

chosen_rows : (p : Production) → chosen_row p ≡ true
unfolding chosen_row chosen rank kinds
chosen_rows production.TextMore = refl
chosen_rows production.TextEnd = refl
chosen_rows production.RuleDefinition = refl
chosen_rows production.UnitDefinition = refl
chosen_rows production.Params = refl
chosen_rows production.ParamFirst = refl
chosen_rows production.ParamNone = refl
chosen_rows production.ParamNext = refl
chosen_rows production.ParamLast = refl
chosen_rows production.Param = refl
chosen_rows production.ItemMore = refl
chosen_rows production.ItemEnd = refl
chosen_rows production.ItemSimple = refl
chosen_rows production.ItemForbid = refl
chosen_rows production.ItemRequire = refl
chosen_rows production.ItemMulti = refl
chosen_rows production.ElementMore = refl
chosen_rows production.ElementEnd = refl
chosen_rows production.SimpleMore = refl
chosen_rows production.SimpleEnd = refl
chosen_rows production.SimpleElement = refl
chosen_rows production.SimpleSet = refl
chosen_rows production.SimpleWhere = refl
chosen_rows production.ElementNode = refl
chosen_rows production.ElementEdge = refl
chosen_rows production.Expr = refl
chosen_rows production.OrMore = refl
chosen_rows production.OrEnd = refl
chosen_rows production.Conj = refl
chosen_rows production.AndMore = refl
chosen_rows production.AndEnd = refl
chosen_rows production.NegNot = refl
chosen_rows production.NegCmp = refl
chosen_rows production.Cmp = refl
chosen_rows production.CmpMore = refl
chosen_rows production.CmpEnd = refl
chosen_rows production.Sum = refl
chosen_rows production.SumMore = refl
chosen_rows production.SumEnd = refl
chosen_rows production.Prod = refl
chosen_rows production.ProdMore = refl
chosen_rows production.ProdEnd = refl
chosen_rows production.FactLiteral = refl
chosen_rows production.FactName = refl
chosen_rows production.FactParens = refl
chosen_rows production.FactMinus = refl
chosen_rows production.SlotDot = refl
chosen_rows production.SlotNone = refl
chosen_rows production.BodyListed = refl
chosen_rows production.BodyConditional = refl
chosen_rows production.BodyLoop = refl
chosen_rows production.BodyIterated = refl
chosen_rows production.ElseSome = refl
chosen_rows production.ElseNone = refl
chosen_rows production.CallMore = refl
chosen_rows production.CallEnd = refl
chosen_rows production.Call = refl
chosen_rows production.BindFirst = refl
chosen_rows production.BindNone = refl
chosen_rows production.BindNext = refl
chosen_rows production.BindLast = refl
chosen_rows production.Bind = refl
chosen_rows production.BoundValue = refl
chosen_rows production.BoundVariable = refl
chosen_rows production.ValueAtom = refl
chosen_rows production.ValueMinus = refl

pub begins-chosen : (p : Production) (k : Kind) → begins (right_side p) k ≡ true → choice_of (part_of p) k ≡ Some p
unfolding chosen_row
begins-chosen p k h = chosen-is (choice_of (part_of p) k) p (implied (begins (right_side p) k) (chosen (choice_of (part_of p) k) p) (every (λ j. implies (begins (right_side p) j) (chosen (choice_of (part_of p) j) p)) (chosen_rows p) k) h)

-- 2. the production that may be nothing is the one by which its part is nothing
empty_row : Production → Bool
empty_row p = implies (empties (right_side p)) (chosen (empty_of (part_of p)) p)

empty_rows : (p : Production) → empty_row p ≡ true
unfolding empty_row chosen rank
empty_rows production.TextMore = refl
empty_rows production.TextEnd = refl
empty_rows production.RuleDefinition = refl
empty_rows production.UnitDefinition = refl
empty_rows production.Params = refl
empty_rows production.ParamFirst = refl
empty_rows production.ParamNone = refl
empty_rows production.ParamNext = refl
empty_rows production.ParamLast = refl
empty_rows production.Param = refl
empty_rows production.ItemMore = refl
empty_rows production.ItemEnd = refl
empty_rows production.ItemSimple = refl
empty_rows production.ItemForbid = refl
empty_rows production.ItemRequire = refl
empty_rows production.ItemMulti = refl
empty_rows production.ElementMore = refl
empty_rows production.ElementEnd = refl
empty_rows production.SimpleMore = refl
empty_rows production.SimpleEnd = refl
empty_rows production.SimpleElement = refl
empty_rows production.SimpleSet = refl
empty_rows production.SimpleWhere = refl
empty_rows production.ElementNode = refl
empty_rows production.ElementEdge = refl
empty_rows production.Expr = refl
empty_rows production.OrMore = refl
empty_rows production.OrEnd = refl
empty_rows production.Conj = refl
empty_rows production.AndMore = refl
empty_rows production.AndEnd = refl
empty_rows production.NegNot = refl
empty_rows production.NegCmp = refl
empty_rows production.Cmp = refl
empty_rows production.CmpMore = refl
empty_rows production.CmpEnd = refl
empty_rows production.Sum = refl
empty_rows production.SumMore = refl
empty_rows production.SumEnd = refl
empty_rows production.Prod = refl
empty_rows production.ProdMore = refl
empty_rows production.ProdEnd = refl
empty_rows production.FactLiteral = refl
empty_rows production.FactName = refl
empty_rows production.FactParens = refl
empty_rows production.FactMinus = refl
empty_rows production.SlotDot = refl
empty_rows production.SlotNone = refl
empty_rows production.BodyListed = refl
empty_rows production.BodyConditional = refl
empty_rows production.BodyLoop = refl
empty_rows production.BodyIterated = refl
empty_rows production.ElseSome = refl
empty_rows production.ElseNone = refl
empty_rows production.CallMore = refl
empty_rows production.CallEnd = refl
empty_rows production.Call = refl
empty_rows production.BindFirst = refl
empty_rows production.BindNone = refl
empty_rows production.BindNext = refl
empty_rows production.BindLast = refl
empty_rows production.Bind = refl
empty_rows production.BoundValue = refl
empty_rows production.BoundVariable = refl
empty_rows production.ValueAtom = refl
empty_rows production.ValueMinus = refl

pub empties-chosen : (p : Production) → empties (right_side p) ≡ true → empty_of (part_of p) ≡ Some p
unfolding empty_row
empties-chosen p h = chosen-is (empty_of (part_of p)) p (implied (empties (right_side p)) (chosen (empty_of (part_of p)) p) (empty_rows p) h)

-- 3. what may follow a part that may be nothing begins none of its productions
apart_row : Part → Bool
apart_row n = list_all (λ k. implies (is_some (empty_of n) && follows n k) (negated (is_some (choice_of n k)))) kinds

apart_rows : (n : Part) → apart_row n ≡ true
unfolding apart_row kinds
apart_rows part.Text = refl
apart_rows part.Definition = refl
apart_rows part.Params = refl
apart_rows part.ParamList = refl
apart_rows part.ParamsTail = refl
apart_rows part.Param = refl
apart_rows part.Items = refl
apart_rows part.Item = refl
apart_rows part.Elements = refl
apart_rows part.Simples = refl
apart_rows part.Simple = refl
apart_rows part.Element = refl
apart_rows part.Expr = refl
apart_rows part.OrTail = refl
apart_rows part.Conj = refl
apart_rows part.AndTail = refl
apart_rows part.Neg = refl
apart_rows part.Cmp = refl
apart_rows part.CmpTail = refl
apart_rows part.Sum = refl
apart_rows part.SumTail = refl
apart_rows part.Prod = refl
apart_rows part.ProdTail = refl
apart_rows part.Fact = refl
apart_rows part.Slot = refl
apart_rows part.Body = refl
apart_rows part.Else = refl
apart_rows part.Calls = refl
apart_rows part.Call = refl
apart_rows part.BindList = refl
apart_rows part.BindsTail = refl
apart_rows part.Bind = refl
apart_rows part.Bound = refl
apart_rows part.Value = refl

pub apart : (n : Part) (k : Kind) (p : Production) → empty_of n ≡ Some p → follows n k ≡ true → choice_of n k ≡ None
unfolding apart_row
apart n k p e f =
    let both : (is_some (empty_of n) && follows n k) ≡ true = rw (e, f) refl in
    no-choice (choice_of n k) (implied (is_some (empty_of n) && follows n k) (negated (is_some (choice_of n k))) (every (λ j. implies (is_some (empty_of n) && follows n j) (negated (is_some (choice_of n j)))) (apart_rows n) k) both)
  where
    no-choice : (o : Option Production) → negated (is_some o) ≡ true → o ≡ None
    no-choice None h = refl
    no-choice (Some q) h = cc

-- 4. the production that is chosen is one of the part, and goes down to the token
pub level : Part → ℕ
level part.Text = 2
level part.Definition = 1
level part.Params = 1
level part.ParamList = 2
level part.ParamsTail = 1
level part.Param = 1
level part.Items = 3
level part.Item = 2
level part.Elements = 2
level part.Simples = 2
level part.Simple = 1
level part.Element = 1
level part.Expr = 7
level part.OrTail = 1
level part.Conj = 6
level part.AndTail = 1
level part.Neg = 5
level part.Cmp = 4
level part.CmpTail = 1
level part.Sum = 3
level part.SumTail = 1
level part.Prod = 2
level part.ProdTail = 1
level part.Fact = 1
level part.Slot = 1
level part.Body = 1
level part.Else = 1
level part.Calls = 2
level part.Call = 1
level part.BindList = 2
level part.BindsTail = 1
level part.Bind = 1
level part.Bound = 1
level part.Value = 1

abbrev pub lower : List Symbol → Part → Kind → Bool
lower [] n k = false
lower (Skip j ∷ ss) n k = true
lower (Keep w ∷ ss) n k = true
lower (Act a ∷ ss) n k = false
lower (Sub m ∷ ss) n k = is_some (choice_of m k) && nat_lt (level m) (level n)

descends : Part → Kind → Option Production → Bool
descends n k None = true
descends n k (Some p) = nat_eq (order (part_of p)) (order n) && lower (right_side p) n k

descent_row : Part → Bool
descent_row n = list_all (λ k. descends n k (choice_of n k)) kinds

descent_rows : (n : Part) → descent_row n ≡ true
unfolding descent_row descends level order kinds
descent_rows part.Text = refl
descent_rows part.Definition = refl
descent_rows part.Params = refl
descent_rows part.ParamList = refl
descent_rows part.ParamsTail = refl
descent_rows part.Param = refl
descent_rows part.Items = refl
descent_rows part.Item = refl
descent_rows part.Elements = refl
descent_rows part.Simples = refl
descent_rows part.Simple = refl
descent_rows part.Element = refl
descent_rows part.Expr = refl
descent_rows part.OrTail = refl
descent_rows part.Conj = refl
descent_rows part.AndTail = refl
descent_rows part.Neg = refl
descent_rows part.Cmp = refl
descent_rows part.CmpTail = refl
descent_rows part.Sum = refl
descent_rows part.SumTail = refl
descent_rows part.Prod = refl
descent_rows part.ProdTail = refl
descent_rows part.Fact = refl
descent_rows part.Slot = refl
descent_rows part.Body = refl
descent_rows part.Else = refl
descent_rows part.Calls = refl
descent_rows part.Call = refl
descent_rows part.BindList = refl
descent_rows part.BindsTail = refl
descent_rows part.Bind = refl
descent_rows part.Bound = refl
descent_rows part.Value = refl

choice-descends : (n : Part) (k : Kind) (p : Production) → choice_of n k ≡ Some p → (nat_eq (order (part_of p)) (order n) && lower (right_side p) n k) ≡ true
unfolding descent_row descends
choice-descends n k p e = rw e at (every (λ j. descends n j (choice_of n j)) (descent_rows n) k)

pub choice-part : (n : Part) (k : Kind) (p : Production) → choice_of n k ≡ Some p → part_of p ≡ n
choice-part n k p e = order-same (part_of p) n ((and_parts (nat_eq (order (part_of p)) (order n)) (lower (right_side p) n k) (choice-descends n k p e)).0)

pub choice-lower : (n : Part) (k : Kind) (p : Production) → choice_of n k ≡ Some p → lower (right_side p) n k ≡ true
choice-lower n k p e = (and_parts (nat_eq (order (part_of p)) (order n)) (lower (right_side p) n k) (choice-descends n k p e)).1

pub level-bounds : (n : Part) → (0 < level n) × (level n < 8)
unfolding level
level-bounds part.Text = (lit< tt, lit< tt)
level-bounds part.Definition = (lit< tt, lit< tt)
level-bounds part.Params = (lit< tt, lit< tt)
level-bounds part.ParamList = (lit< tt, lit< tt)
level-bounds part.ParamsTail = (lit< tt, lit< tt)
level-bounds part.Param = (lit< tt, lit< tt)
level-bounds part.Items = (lit< tt, lit< tt)
level-bounds part.Item = (lit< tt, lit< tt)
level-bounds part.Elements = (lit< tt, lit< tt)
level-bounds part.Simples = (lit< tt, lit< tt)
level-bounds part.Simple = (lit< tt, lit< tt)
level-bounds part.Element = (lit< tt, lit< tt)
level-bounds part.Expr = (lit< tt, lit< tt)
level-bounds part.OrTail = (lit< tt, lit< tt)
level-bounds part.Conj = (lit< tt, lit< tt)
level-bounds part.AndTail = (lit< tt, lit< tt)
level-bounds part.Neg = (lit< tt, lit< tt)
level-bounds part.Cmp = (lit< tt, lit< tt)
level-bounds part.CmpTail = (lit< tt, lit< tt)
level-bounds part.Sum = (lit< tt, lit< tt)
level-bounds part.SumTail = (lit< tt, lit< tt)
level-bounds part.Prod = (lit< tt, lit< tt)
level-bounds part.ProdTail = (lit< tt, lit< tt)
level-bounds part.Fact = (lit< tt, lit< tt)
level-bounds part.Slot = (lit< tt, lit< tt)
level-bounds part.Body = (lit< tt, lit< tt)
level-bounds part.Else = (lit< tt, lit< tt)
level-bounds part.Calls = (lit< tt, lit< tt)
level-bounds part.Call = (lit< tt, lit< tt)
level-bounds part.BindList = (lit< tt, lit< tt)
level-bounds part.BindsTail = (lit< tt, lit< tt)
level-bounds part.Bind = (lit< tt, lit< tt)
level-bounds part.Bound = (lit< tt, lit< tt)
level-bounds part.Value = (lit< tt, lit< tt)

-- the production by which a part is nothing is one of the part, and has at most one action
pub empty-part : (n : Part) (p : Production) → empty_of n ≡ Some p → part_of p ≡ n
empty-part part.Text p e = let f : p ≡ production.TextEnd = cc in rw f refl
empty-part part.Definition p e = cc
empty-part part.Params p e = cc
empty-part part.ParamList p e = let f : p ≡ production.ParamNone = cc in rw f refl
empty-part part.ParamsTail p e = let f : p ≡ production.ParamLast = cc in rw f refl
empty-part part.Param p e = cc
empty-part part.Items p e = let f : p ≡ production.ItemEnd = cc in rw f refl
empty-part part.Item p e = cc
empty-part part.Elements p e = let f : p ≡ production.ElementEnd = cc in rw f refl
empty-part part.Simples p e = let f : p ≡ production.SimpleEnd = cc in rw f refl
empty-part part.Simple p e = cc
empty-part part.Element p e = cc
empty-part part.Expr p e = cc
empty-part part.OrTail p e = let f : p ≡ production.OrEnd = cc in rw f refl
empty-part part.Conj p e = cc
empty-part part.AndTail p e = let f : p ≡ production.AndEnd = cc in rw f refl
empty-part part.Neg p e = cc
empty-part part.Cmp p e = cc
empty-part part.CmpTail p e = let f : p ≡ production.CmpEnd = cc in rw f refl
empty-part part.Sum p e = cc
empty-part part.SumTail p e = let f : p ≡ production.SumEnd = cc in rw f refl
empty-part part.Prod p e = cc
empty-part part.ProdTail p e = let f : p ≡ production.ProdEnd = cc in rw f refl
empty-part part.Fact p e = cc
empty-part part.Slot p e = let f : p ≡ production.SlotNone = cc in rw f refl
empty-part part.Body p e = cc
empty-part part.Else p e = cc
empty-part part.Calls p e = let f : p ≡ production.CallEnd = cc in rw f refl
empty-part part.Call p e = cc
empty-part part.BindList p e = let f : p ≡ production.BindNone = cc in rw f refl
empty-part part.BindsTail p e = let f : p ≡ production.BindLast = cc in rw f refl
empty-part part.Bind p e = cc
empty-part part.Bound p e = cc
empty-part part.Value p e = cc

abbrev pub is_short : List Symbol → Bool
is_short [] = true
is_short (Act a ∷ []) = true
is_short _ = false

pub empty-short : (n : Part) (p : Production) → empty_of n ≡ Some p → is_short (right_side p) ≡ true
empty-short part.Text p e = let f : p ≡ production.TextEnd = cc in rw f refl
empty-short part.Definition p e = cc
empty-short part.Params p e = cc
empty-short part.ParamList p e = let f : p ≡ production.ParamNone = cc in rw f refl
empty-short part.ParamsTail p e = let f : p ≡ production.ParamLast = cc in rw f refl
empty-short part.Param p e = cc
empty-short part.Items p e = let f : p ≡ production.ItemEnd = cc in rw f refl
empty-short part.Item p e = cc
empty-short part.Elements p e = let f : p ≡ production.ElementEnd = cc in rw f refl
empty-short part.Simples p e = let f : p ≡ production.SimpleEnd = cc in rw f refl
empty-short part.Simple p e = cc
empty-short part.Element p e = cc
empty-short part.Expr p e = cc
empty-short part.OrTail p e = let f : p ≡ production.OrEnd = cc in rw f refl
empty-short part.Conj p e = cc
empty-short part.AndTail p e = let f : p ≡ production.AndEnd = cc in rw f refl
empty-short part.Neg p e = cc
empty-short part.Cmp p e = cc
empty-short part.CmpTail p e = let f : p ≡ production.CmpEnd = cc in rw f refl
empty-short part.Sum p e = cc
empty-short part.SumTail p e = let f : p ≡ production.SumEnd = cc in rw f refl
empty-short part.Prod p e = cc
empty-short part.ProdTail p e = let f : p ≡ production.ProdEnd = cc in rw f refl
empty-short part.Fact p e = cc
empty-short part.Slot p e = let f : p ≡ production.SlotNone = cc in rw f refl
empty-short part.Body p e = cc
empty-short part.Else p e = cc
empty-short part.Calls p e = let f : p ≡ production.CallEnd = cc in rw f refl
empty-short part.Call p e = cc
empty-short part.BindList p e = let f : p ≡ production.BindNone = cc in rw f refl
empty-short part.BindsTail p e = let f : p ≡ production.BindLast = cc in rw f refl
empty-short part.Bind p e = cc
empty-short part.Bound p e = cc
empty-short part.Value p e = cc

-- 5. the parts of what a production is made of are followed by what may follow them
abbrev pub begins_then : List Symbol → Kind → Bool → Bool
begins_then [] k b = b
begins_then (Skip j ∷ ss) k b = same j k
begins_then (Keep w ∷ ss) k b = matches w k
begins_then (Act a ∷ ss) k b = begins_then ss k b
begins_then (Sub m ∷ ss) k b = is_some (choice_of m k) || (is_some (empty_of m) && begins_then ss k b)

abbrev pub kept : List Symbol → Kind → Bool → Bool
kept [] k b = true
kept (Skip j ∷ ss) k b = kept ss k b
kept (Keep w ∷ ss) k b = kept ss k b
kept (Act a ∷ ss) k b = kept ss k b
kept (Sub m ∷ ss) k b = implies (begins_then ss k b) (follows m k) && kept ss k b

kept_row : Production → Bool
kept_row p = list_all (λ k. kept (right_side p) k (follows (part_of p) k)) kinds

kept_rows : (p : Production) → kept_row p ≡ true
unfolding kept_row kinds
kept_rows production.TextMore = refl
kept_rows production.TextEnd = refl
kept_rows production.RuleDefinition = refl
kept_rows production.UnitDefinition = refl
kept_rows production.Params = refl
kept_rows production.ParamFirst = refl
kept_rows production.ParamNone = refl
kept_rows production.ParamNext = refl
kept_rows production.ParamLast = refl
kept_rows production.Param = refl
kept_rows production.ItemMore = refl
kept_rows production.ItemEnd = refl
kept_rows production.ItemSimple = refl
kept_rows production.ItemForbid = refl
kept_rows production.ItemRequire = refl
kept_rows production.ItemMulti = refl
kept_rows production.ElementMore = refl
kept_rows production.ElementEnd = refl
kept_rows production.SimpleMore = refl
kept_rows production.SimpleEnd = refl
kept_rows production.SimpleElement = refl
kept_rows production.SimpleSet = refl
kept_rows production.SimpleWhere = refl
kept_rows production.ElementNode = refl
kept_rows production.ElementEdge = refl
kept_rows production.Expr = refl
kept_rows production.OrMore = refl
kept_rows production.OrEnd = refl
kept_rows production.Conj = refl
kept_rows production.AndMore = refl
kept_rows production.AndEnd = refl
kept_rows production.NegNot = refl
kept_rows production.NegCmp = refl
kept_rows production.Cmp = refl
kept_rows production.CmpMore = refl
kept_rows production.CmpEnd = refl
kept_rows production.Sum = refl
kept_rows production.SumMore = refl
kept_rows production.SumEnd = refl
kept_rows production.Prod = refl
kept_rows production.ProdMore = refl
kept_rows production.ProdEnd = refl
kept_rows production.FactLiteral = refl
kept_rows production.FactName = refl
kept_rows production.FactParens = refl
kept_rows production.FactMinus = refl
kept_rows production.SlotDot = refl
kept_rows production.SlotNone = refl
kept_rows production.BodyListed = refl
kept_rows production.BodyConditional = refl
kept_rows production.BodyLoop = refl
kept_rows production.BodyIterated = refl
kept_rows production.ElseSome = refl
kept_rows production.ElseNone = refl
kept_rows production.CallMore = refl
kept_rows production.CallEnd = refl
kept_rows production.Call = refl
kept_rows production.BindFirst = refl
kept_rows production.BindNone = refl
kept_rows production.BindNext = refl
kept_rows production.BindLast = refl
kept_rows production.Bind = refl
kept_rows production.BoundValue = refl
kept_rows production.BoundVariable = refl
kept_rows production.ValueAtom = refl
kept_rows production.ValueMinus = refl

pub keeps : (p : Production) (k : Kind) → kept (right_side p) k (follows (part_of p) k) ≡ true
unfolding kept_row
keeps p k = every (λ j. kept (right_side p) j (follows (part_of p) j)) (kept_rows p) k
