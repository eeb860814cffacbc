-- What the parts of a syntax are: such as the grammar can have at their places, and in the order of
-- a text.
use Rattle.std.specs.Prelude.{ℕ, ℤ, pos, negsuc, ◌≡◌, ◌≤◌, ◌^◌, ◌==◌, ◌||◌, ⊤, nat_le, nat_lt, Bool, true, false, List, [], ◌∷◌, ◌++◌, Option, Some, None, is_some}
use Rattle.std.proofs.Math.Bool.{Bool-set}
use Rattle.std.specs.Coded.{×_prop, Unit-prop, le_prop}
use Rattle.std.specs.List.{list_all, flat_map, AllByRecursion, AllByRecursion-prop}
use Rattle.std.specs.Str.{chars, is_utf8}
use Rattle.hs_expr.specs.declared.Span.{Span}
use Rattle.hs_expr.specs.declared.Name.{Name}
use Rattle.hs_expr.specs.declared.NameExpr.{NameExpr}
use Rattle.hs_expr.specs.declared.Piece.{Piece}
use Rattle.hs_expr.specs.declared.Piece.TheVariants as piece
use Rattle.hs_tokens.specs.Tokens.{is_word, lookup, reserved_words}
use Rattle.hs_text.specs.declared.syntax.Param.{Param}
use Rattle.hs_text.specs.declared.syntax.Element.{Element}
use Rattle.hs_text.specs.declared.syntax.Element.TheVariants as element
use Rattle.hs_text.specs.declared.syntax.Simple.{Simple}
use Rattle.hs_text.specs.declared.syntax.Simple.TheVariants as simple
use Rattle.hs_text.specs.declared.syntax.Item.{Item}
use Rattle.hs_text.specs.declared.syntax.Item.TheVariants as item
use Rattle.hs_text.specs.declared.syntax.Atom.{Atom}
use Rattle.hs_text.specs.declared.syntax.Atom.TheVariants as atom
use Rattle.hs_text.specs.declared.syntax.Bind.{Bind}
use Rattle.hs_text.specs.declared.syntax.Bind.TheVariants as bind
use Rattle.hs_text.specs.declared.syntax.Call.{Call}
use Rattle.hs_text.specs.declared.syntax.Count.{Count}
use Rattle.hs_text.specs.declared.syntax.Count.TheVariants as count
use Rattle.hs_text.specs.declared.syntax.Body.{Body}
use Rattle.hs_text.specs.declared.syntax.Body.TheVariants as body
use Rattle.hs_text.specs.declared.syntax.Definition.{Definition}
use Rattle.hs_text.specs.declared.syntax.Definition.TheVariants as definition
use Rattle.hs_expr.specs.Trees.{Tree, Leaf, Not, Minus, Binary}
use Rattle.hs_expr.specs.NameExprs.{expr_tree}

-- A word, which may be reserved.
abbrev pub IsWord : Name → Type 0
IsWord name = is_word name.text ≡ true

-- A word that is not reserved.
abbrev pub IsName : Name → Type 0
IsName name = (is_word name.text ≡ true) × (is_some (lookup reserved_words name.text) ≡ false)

-- An integer that can be written: 0 to 9,223,372,036,854,775,807.
abbrev pub is_literal : ℤ → Bool
is_literal (pos n) = nat_lt n (2 ^ 63)
is_literal (negsuc n) = false

-- A line feed, a tab, or a character from U+0020 on.
abbrev pub is_allowed : ℕ → Bool
is_allowed c = c == 10 || c == 9 || nat_le 32 c

-- Allowed characters, in UTF-8.
abbrev pub IsAllowed : List ℕ → Type 0
IsAllowed bytes = (is_utf8 bytes ≡ true) × (list_all is_allowed (chars bytes) ≡ true)

-- A piece of an expression: its value can be written, and the node of a slot is a name.
abbrev pub IsPieceFine : Piece → Type 0
IsPieceFine (piece.Int value span) = is_literal value ≡ true
IsPieceFine (piece.Text value span) = IsAllowed value
IsPieceFine (piece.Bool value span) = ⊤
IsPieceFine (piece.Name name) = IsName name
IsPieceFine (piece.Slot node attribute) = IsName node × IsWord attribute
IsPieceFine (piece.Not span) = ⊤
IsPieceFine (piece.Minus span) = ⊤
IsPieceFine (piece.Binary sign span) = ⊤

abbrev pub IsExprFine : NameExpr → Type 0
IsExprFine expr = AllByRecursion IsPieceFine expr.pieces

-- The kind of a parameter, as the class of a node, may be spelled as a reserved word.
abbrev pub IsParamFine : Param → Type 0
IsParamFine param = IsName param.name × IsWord param.kind

abbrev pub IsElementFine : Element → Type 0
IsElementFine (element.Node name class) = IsName name × IsWord class
IsElementFine (element.Edge source target reference) =
    IsName source × IsName target × IsWord reference

-- A simple item, with its names and the pieces of its expression.
abbrev pub IsSimpleFine : Simple → Type 0
IsSimpleFine (simple.Marked mark element) = IsElementFine element
IsSimpleFine (simple.Set node attribute value) = IsName node × IsWord attribute × IsExprFine value
IsSimpleFine (simple.Where word test) = IsExprFine test

-- An item, with all its parts.
abbrev pub IsItemFine : Item → Type 0
IsItemFine (item.Simple simple) = IsSimpleFine simple
IsItemFine (item.Forbid elements) = AllByRecursion IsElementFine elements
IsItemFine (item.Require elements) = AllByRecursion IsElementFine elements
IsItemFine (item.Multi simples) = AllByRecursion IsSimpleFine simples

-- A value in a call; its minus sign is apart from its number.
abbrev pub IsAtomFine : Atom → Type 0
IsAtomFine (atom.Int minus value span) = is_literal value ≡ true
IsAtomFine (atom.Text value span) = IsAllowed value
IsAtomFine (atom.Bool value span) = ⊤
IsAtomFine (atom.Name name) = IsName name

-- What a call ties: a parameter of the callee, and a value or a variable.
abbrev pub IsBindFine : Bind → Type 0
IsBindFine (bind.Give parameter value) = IsName parameter × IsAtomFine value
IsBindFine (bind.Take parameter variable) = IsName parameter × IsName variable

abbrev pub IsCallFine : Call → Type 0
IsCallFine call = IsName call.callee × AllByRecursion IsBindFine call.binds

abbrev pub IsCountFine : Count → Type 0
IsCountFine (count.Int value span) = is_literal value ≡ true
IsCountFine (count.Param name) = IsName name

abbrev pub IsElseFine : Option Call → Type 0
IsElseFine None = ⊤
IsElseFine (Some call) = IsCallFine call

-- The calls of a body, and how often one is made.
abbrev pub IsBodyFine : Body → Type 0
IsBodyFine (body.Sequential calls) = AllByRecursion IsCallFine calls
IsBodyFine (body.Independent calls) = AllByRecursion IsCallFine calls
IsBodyFine (body.Priority calls) = AllByRecursion IsCallFine calls
IsBodyFine (body.Conditional test then otherwise) =
    IsCallFine test × IsCallFine then × IsElseFine otherwise
IsBodyFine (body.Loop call) = IsCallFine call
IsBodyFine (body.Iterated count call) = IsCountFine count × IsCallFine call

-- A rule or a unit, with its name, its parameters and its parts.
abbrev pub IsDefinitionFine : Definition → Type 0
IsDefinitionFine (definition.Rule rule) =
    IsName rule.name × AllByRecursion IsParamFine rule.params × AllByRecursion IsItemFine rule.items
IsDefinitionFine (definition.Unit unit) =
    IsName unit.name × AllByRecursion IsParamFine unit.params × IsBodyFine unit.body

-- The spans of each part, in the order of the text.
abbrev pub piece_spans : Piece → List Span
piece_spans (piece.Int value span) = span ∷ []
piece_spans (piece.Text value span) = span ∷ []
piece_spans (piece.Bool value span) = span ∷ []
piece_spans (piece.Name name) = name.span ∷ []
piece_spans (piece.Slot node attribute) = node.span ∷ attribute.span ∷ []
piece_spans (piece.Not span) = span ∷ []
piece_spans (piece.Minus span) = span ∷ []
piece_spans (piece.Binary sign span) = span ∷ []

abbrev pub tree_spans : Tree → List Span
tree_spans (Leaf p) = piece_spans p
tree_spans (Not span a) = span ∷ tree_spans a
tree_spans (Minus span a) = span ∷ tree_spans a
tree_spans (Binary sign span a b) = tree_spans a ++ span ∷ tree_spans b

abbrev pub expr_spans : NameExpr → List Span
expr_spans expr = tree_spans (expr_tree expr)

abbrev pub param_spans : Param → List Span
param_spans param = param.name.span ∷ param.kind.span ∷ []

abbrev pub element_spans : Element → List Span
element_spans (element.Node name class) = name.span ∷ class.span ∷ []
element_spans (element.Edge source target reference) =
    source.span ∷ target.span ∷ reference.span ∷ []

abbrev pub simple_spans : Simple → List Span
simple_spans (simple.Marked mark element) = element_spans element
simple_spans (simple.Set node attribute value) = node.span ∷ attribute.span ∷ expr_spans value
simple_spans (simple.Where word test) = word ∷ expr_spans test

abbrev pub item_spans : Item → List Span
item_spans (item.Simple simple) = simple_spans simple
item_spans (item.Forbid elements) = flat_map element_spans elements
item_spans (item.Require elements) = flat_map element_spans elements
item_spans (item.Multi simples) = flat_map simple_spans simples

abbrev pub atom_spans : Atom → List Span
atom_spans (atom.Int minus value span) = span ∷ []
atom_spans (atom.Text value span) = span ∷ []
atom_spans (atom.Bool value span) = span ∷ []
atom_spans (atom.Name name) = name.span ∷ []

abbrev pub bind_spans : Bind → List Span
bind_spans (bind.Give parameter value) = parameter.span ∷ atom_spans value
bind_spans (bind.Take parameter variable) = parameter.span ∷ variable.span ∷ []

abbrev pub call_spans : Call → List Span
call_spans call = call.callee.span ∷ flat_map bind_spans call.binds

abbrev pub count_spans : Count → List Span
count_spans (count.Int value span) = span ∷ []
count_spans (count.Param name) = name.span ∷ []

abbrev pub else_spans : Option Call → List Span
else_spans None = []
else_spans (Some call) = call_spans call

abbrev pub body_spans : Body → List Span
body_spans (body.Sequential calls) = flat_map call_spans calls
body_spans (body.Independent calls) = flat_map call_spans calls
body_spans (body.Priority calls) = flat_map call_spans calls
body_spans (body.Conditional test then otherwise) =
    call_spans test ++ (call_spans then ++ else_spans otherwise)
body_spans (body.Loop call) = call_spans call
body_spans (body.Iterated count call) = count_spans count ++ call_spans call

abbrev pub definition_spans : Definition → List Span
definition_spans (definition.Rule rule) =
    rule.name.span ∷ (flat_map param_spans rule.params ++ flat_map item_spans rule.items)
definition_spans (definition.Unit unit) =
    unit.name.span ∷ (flat_map param_spans unit.params ++ body_spans unit.body)

-- Each span ends where it begins or after, and begins where the one before it ends, or after; the
-- first begins at this character or after.
abbrev pub AreInOrder : ℕ → List Span → Type 0
AreInOrder from [] = ⊤
AreInOrder from (span ∷ spans) =
    (from ≤ span.start) × (span.start ≤ span.end) × AreInOrder span.end spans

-- The definitions have parts that the grammar can have at their places, and spans that are slices
-- of a text, in order.
abbrev pub AreWellFormed : List Definition → Type 0
AreWellFormed definitions =
    AllByRecursion IsDefinitionFine definitions
    × AreInOrder 0 (flat_map definition_spans definitions)

-- Each of these has one proof at most, as a type's own facts must have.

name-prop : (n : Name) → IsProp (IsName n)
name-prop n = hlevel Bool-set

piece-prop : (p : Piece) → IsProp (IsPieceFine p)
piece-prop (piece.Int value span) = hlevel Bool-set
piece-prop (piece.Text value span) = hlevel Bool-set
piece-prop (piece.Bool value span) = hlevel Bool-set
piece-prop (piece.Name name) = hlevel Bool-set
piece-prop (piece.Slot node attribute) = hlevel Bool-set
piece-prop (piece.Not span) = hlevel Bool-set
piece-prop (piece.Minus span) = hlevel Bool-set
piece-prop (piece.Binary sign span) = hlevel Bool-set

expr-prop : (e : NameExpr) → IsProp (IsExprFine e)
expr-prop e = AllByRecursion-prop IsPieceFine piece-prop e.pieces

element-prop : (e : Element) → IsProp (IsElementFine e)
element-prop (element.Node name class) = hlevel Bool-set
element-prop (element.Edge source target reference) = hlevel Bool-set

simple-prop : (s : Simple) → IsProp (IsSimpleFine s)
simple-prop (simple.Marked mark element) = element-prop element
simple-prop (simple.Set node attribute value) = hlevel (Bool-set, expr-prop value)
simple-prop (simple.Where word test) = expr-prop test

item-prop : (i : Item) → IsProp (IsItemFine i)
item-prop (item.Simple s) = simple-prop s
item-prop (item.Forbid elements) = AllByRecursion-prop IsElementFine element-prop elements
item-prop (item.Require elements) = AllByRecursion-prop IsElementFine element-prop elements
item-prop (item.Multi simples) = AllByRecursion-prop IsSimpleFine simple-prop simples

param-prop : (p : Param) → IsProp (IsParamFine p)
param-prop p = hlevel Bool-set

atom-prop : (a : Atom) → IsProp (IsAtomFine a)
atom-prop (atom.Int minus value span) = hlevel Bool-set
atom-prop (atom.Text value span) = hlevel Bool-set
atom-prop (atom.Bool value span) = hlevel Bool-set
atom-prop (atom.Name name) = hlevel Bool-set

bind-prop : (b : Bind) → IsProp (IsBindFine b)
bind-prop (bind.Give parameter value) = ×_prop (name-prop parameter) (atom-prop value)
bind-prop (bind.Take parameter variable) = hlevel Bool-set

call-prop : (c : Call) → IsProp (IsCallFine c)
call-prop c = ×_prop (name-prop c.callee) (AllByRecursion-prop IsBindFine bind-prop c.binds)

count-prop : (c : Count) → IsProp (IsCountFine c)
count-prop (count.Int value span) = hlevel Bool-set
count-prop (count.Param name) = hlevel Bool-set

else-prop : (c : Option Call) → IsProp (IsElseFine c)
else-prop None = Unit-prop
else-prop (Some c) = call-prop c

body-prop : (b : Body) → IsProp (IsBodyFine b)
body-prop (body.Sequential calls) = AllByRecursion-prop IsCallFine call-prop calls
body-prop (body.Independent calls) = AllByRecursion-prop IsCallFine call-prop calls
body-prop (body.Priority calls) = AllByRecursion-prop IsCallFine call-prop calls
body-prop (body.Conditional test then otherwise) =
    hlevel (Bool-set, call-prop test, call-prop then, else-prop otherwise)
body-prop (body.Loop call) = call-prop call
body-prop (body.Iterated count call) = ×_prop (count-prop count) (call-prop call)

definition-prop : (d : Definition) → IsProp (IsDefinitionFine d)
definition-prop (definition.Rule rule) =
    hlevel (
      Bool-set,
      AllByRecursion-prop IsParamFine param-prop rule.params,
      AllByRecursion-prop IsItemFine item-prop rule.items,
    )
definition-prop (definition.Unit unit) =
    hlevel (Bool-set, AllByRecursion-prop IsParamFine param-prop unit.params, body-prop unit.body)

order-prop : (from : ℕ) (spans : List Span) → IsProp (AreInOrder from spans)
order-prop from [] = Unit-prop
order-prop from (span ∷ spans) = hlevel (le_prop, order-prop span.end spans)

pub AreWellFormed-prop : (ds : List Definition) → IsProp (AreWellFormed ds)
AreWellFormed-prop ds =
    ×_prop (AllByRecursion-prop IsDefinitionFine definition-prop ds)
    (order-prop 0 (flat_map definition_spans ds))
