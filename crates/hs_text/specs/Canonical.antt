-- The canonical text of a syntax, in UTF-8.
use Rattle.std.specs.Prelude.{ℕ, ◌==◌, Bool, true, false, if◌then◌else◌, List, [], ◌∷◌, ◌++◌, map, Option, Some, None, codes}
use Rattle.std.specs.Fmt.{signed_decimal}
use Rattle.std.specs.List.{flat_map}
use Rattle.hs_expr.specs.declared.Sign.{Sign}
use Rattle.hs_expr.specs.declared.Sign.TheVariants as sign
use Rattle.hs_expr.specs.declared.NameExpr.{NameExpr}
use Rattle.hs_expr.specs.declared.Piece.{Piece}
use Rattle.hs_expr.specs.declared.Piece.TheVariants as piece
use Rattle.hs_text.specs.declared.syntax.Direction.{Direction}
use Rattle.hs_text.specs.declared.syntax.Direction.TheVariants as direction
use Rattle.hs_text.specs.declared.syntax.Param.{Param}
use Rattle.hs_text.specs.declared.syntax.Mark.{Mark}
use Rattle.hs_text.specs.declared.syntax.Mark.TheVariants as mark
use Rattle.hs_text.specs.declared.syntax.Element.{Element}
use Rattle.hs_text.specs.declared.syntax.Element.TheVariants as element
use Rattle.hs_text.specs.declared.syntax.Simple.{Simple}
use Rattle.hs_text.specs.declared.syntax.Simple.TheVariants as simple
use Rattle.hs_text.specs.declared.syntax.Item.{Item}
use Rattle.hs_text.specs.declared.syntax.Item.TheVariants as item
use Rattle.hs_text.specs.declared.syntax.Atom.{Atom}
use Rattle.hs_text.specs.declared.syntax.Atom.TheVariants as atom
use Rattle.hs_text.specs.declared.syntax.Bind.{Bind}
use Rattle.hs_text.specs.declared.syntax.Bind.TheVariants as bind
use Rattle.hs_text.specs.declared.syntax.Call.{Call}
use Rattle.hs_text.specs.declared.syntax.Count.{Count}
use Rattle.hs_text.specs.declared.syntax.Count.TheVariants as count
use Rattle.hs_text.specs.declared.syntax.Body.{Body}
use Rattle.hs_text.specs.declared.syntax.Body.TheVariants as body
use Rattle.hs_text.specs.declared.syntax.Definition.{Definition}
use Rattle.hs_text.specs.declared.syntax.Definition.TheVariants as definition
use Rattle.hs_expr.specs.Trees.{Tree, Leaf, Not, Minus, Binary}
use Rattle.hs_expr.specs.NameExprs.{expr_tree}

-- A character of a text as it is written: a double quote, a backslash, a line feed and a tab by an
-- escape, and any other as it is.
abbrev pub escape : ℕ → List ℕ
escape c =
    if c == 34 then codes "\\\""
    else if c == 92 then codes "\\\\"
    else if c == 10 then codes "\\n"
    else if c == 9 then codes "\\t"
    else c ∷ []

-- A text in double quotes.
abbrev pub quoted_text : List ℕ → List ℕ
quoted_text value = codes "\"" ++ flat_map escape value ++ codes "\""

abbrev pub truth_text : Bool → List ℕ
truth_text true = codes "true"
truth_text false = codes "false"

-- A sign or a word between two operands.
abbrev pub sign_text : Sign → List ℕ
sign_text sign.Or = codes "or"
sign_text sign.And = codes "and"
sign_text sign.Equal = codes "=="
sign_text sign.NotEqual = codes "!="
sign_text sign.Less = codes "<"
sign_text sign.AtMost = codes "<="
sign_text sign.Greater = codes ">"
sign_text sign.AtLeast = codes ">="
sign_text sign.Plus = codes "+"
sign_text sign.Minus = codes "-"
sign_text sign.Times = codes "*"

-- A piece by itself, with the spaces that it has: one on either side of a sign between two
-- operands, one after `not`, none after a minus sign of one operand.
abbrev pub piece_text : Piece → List ℕ
piece_text (piece.Int value span) = signed_decimal value
piece_text (piece.Text value span) = quoted_text value
piece_text (piece.Bool value span) = truth_text value
piece_text (piece.Name name) = name.text
piece_text (piece.Slot node attribute) = node.text ++ codes "." ++ attribute.text
piece_text (piece.Not span) = codes "not "
piece_text (piece.Minus span) = codes "-"
piece_text (piece.Binary sign span) = codes " " ++ sign_text sign ++ codes " "

-- An operand that has this text: in parentheses where it is made by an operator itself.
abbrev pub operand : Tree → List ℕ → List ℕ
operand (Leaf p) text = text
operand (Not span a) text = codes "(" ++ text ++ codes ")"
operand (Minus span a) text = codes "(" ++ text ++ codes ")"
operand (Binary sign span a b) text = codes "(" ++ text ++ codes ")"

-- The text of an expression: an operator with its operands.
abbrev pub tree_text : Tree → List ℕ
tree_text (Leaf p) = piece_text p
tree_text (Not span a) = piece_text (piece.Not span) ++ operand a (tree_text a)
tree_text (Minus span a) = piece_text (piece.Minus span) ++ operand a (tree_text a)
tree_text (Binary sign span a b) =
    operand a (tree_text a) ++ piece_text (piece.Binary sign span) ++ operand b (tree_text b)

abbrev pub expr_text : NameExpr → List ℕ
expr_text expr = tree_text (expr_tree expr)

-- Texts with a comma and a space between each two.
abbrev pub commas : List (List ℕ) → List ℕ
commas [] = []
commas (text ∷ texts) = text ++ flat_map (λ next. codes ", " ++ next) texts

abbrev pub direction_text : Direction → List ℕ
direction_text direction.In = codes "in"
direction_text direction.Out = codes "out"

-- A parameter: its direction, its name and its kind.
abbrev pub param_text : Param → List ℕ
param_text param =
    direction_text param.direction ++ codes " " ++ param.name.text ++ codes ": " ++ param.kind.text

abbrev pub params_text : List Param → List ℕ
params_text params = codes "(" ++ commas (map param_text params) ++ codes ")"

abbrev pub mark_text : Mark → List ℕ
mark_text mark.Preserve = codes "preserve"
mark_text mark.Create = codes "create"
mark_text mark.Delete = codes "delete"

-- A node with its class, or an edge with its ends and its reference.
abbrev pub element_text : Element → List ℕ
element_text (element.Node name class) = codes "node " ++ name.text ++ codes ": " ++ class.text
element_text (element.Edge source target reference) =
    codes "edge " ++ source.text ++ codes " -> " ++ target.text ++ codes ": " ++ reference.text

-- A simple item, without its semicolon.
abbrev pub simple_text : Simple → List ℕ
simple_text (simple.Marked mark element) = mark_text mark ++ codes " " ++ element_text element
simple_text (simple.Set node attribute value) =
    codes "set " ++ node.text ++ codes "." ++ attribute.text ++ codes " = " ++ expr_text value
simple_text (simple.Where word test) = codes "where " ++ expr_text test

-- A line of a block, at this margin: two spaces a level.
abbrev pub line : List ℕ → List ℕ → List ℕ
line margin text = margin ++ text ++ codes ";\n"

-- A block: its opening line, its lines, and its closing line.
abbrev pub block : List ℕ → List ℕ → List ℕ → List ℕ
block margin opening lines = margin ++ opening ++ codes " {\n" ++ lines ++ margin ++ codes "}\n"

-- The lines of a rule or a unit are indented by one level, those of a block in a rule by two.
abbrev pub one_level : List ℕ
one_level = codes "  "

abbrev pub two_levels : List ℕ
two_levels = codes "    "

abbrev pub element_line : Element → List ℕ
element_line element = line two_levels (element_text element)

abbrev pub simple_line : Simple → List ℕ
simple_line simple = line two_levels (simple_text simple)

-- An item of a rule: a line, or a block.
abbrev pub item_text : Item → List ℕ
item_text (item.Simple simple) = line one_level (simple_text simple)
item_text (item.Forbid elements) = block one_level (codes "forbid") (flat_map element_line elements)
item_text (item.Require elements) =
    block one_level (codes "require") (flat_map element_line elements)
item_text (item.Multi simples) = block one_level (codes "multi") (flat_map simple_line simples)

abbrev pub minus_text : Bool → List ℕ
minus_text true = codes "-"
minus_text false = []

-- A value in a call.
abbrev pub atom_text : Atom → List ℕ
atom_text (atom.Int minus value span) = minus_text minus ++ signed_decimal value
atom_text (atom.Text value span) = quoted_text value
atom_text (atom.Bool value span) = truth_text value
atom_text (atom.Name name) = name.text

-- What is given to a parameter, or where what it gives back goes.
abbrev pub bind_text : Bind → List ℕ
bind_text (bind.Give parameter value) = parameter.text ++ codes " = " ++ atom_text value
bind_text (bind.Take parameter variable) = parameter.text ++ codes " > " ++ variable.text

-- A call, with its binds in parentheses.
abbrev pub call_text : Call → List ℕ
call_text call = call.callee.text ++ codes "(" ++ commas (map bind_text call.binds) ++ codes ")"

-- A line with a call, which begins so.
abbrev pub call_line : List ℕ → Call → List ℕ
call_line front call = line one_level (front ++ call_text call)

abbrev pub count_text : Count → List ℕ
count_text (count.Int value span) = signed_decimal value
count_text (count.Param name) = name.text

-- What a unit's opening line says of its body.
abbrev pub body_kind : Body → List ℕ
body_kind (body.Sequential calls) = codes "sequential"
body_kind (body.Independent calls) = codes "independent"
body_kind (body.Priority calls) = codes "priority"
body_kind (body.Conditional test chosen otherwise) = codes "conditional"
body_kind (body.Loop call) = codes "loop"
body_kind (body.Iterated count call) = codes "iterated " ++ count_text count

abbrev pub else_line : Option Call → List ℕ
else_line None = []
else_line (Some call) = call_line (codes "else ") call

-- The lines of a unit.
abbrev pub body_lines : Body → List ℕ
body_lines (body.Sequential calls) = flat_map (call_line []) calls
body_lines (body.Independent calls) = flat_map (call_line []) calls
body_lines (body.Priority calls) = flat_map (call_line []) calls
body_lines (body.Conditional test chosen otherwise) =
    call_line (codes "if ") test ++ call_line (codes "then ") chosen ++ else_line otherwise
body_lines (body.Loop call) = call_line [] call
body_lines (body.Iterated count call) = call_line [] call

-- A rule or a unit.
abbrev pub definition_text : Definition → List ℕ
definition_text (definition.Rule rule) =
    block [] (codes "rule " ++ rule.name.text ++ params_text rule.params)
    (flat_map item_text rule.items)
definition_text (definition.Unit unit) =
    block [] (codes "unit " ++ unit.name.text ++ params_text unit.params ++ codes " "
    ++ body_kind unit.body) (body_lines unit.body)

-- One definition after another, an empty line between two.
abbrev pub canonical_text : List Definition → List ℕ
canonical_text [] = []
canonical_text (definition ∷ definitions) =
    definition_text definition ++ flat_map (λ next. codes "\n" ++ definition_text next) definitions
