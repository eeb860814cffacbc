-- Syntax without its spans: each is replaced by one that is nowhere. Two that are the same then are
-- the same but for spans.
use Rattle.std.specs.Prelude.{◌≡◌, List, map, Option, Some, None, refl}
use Rattle.std.proofs.Common.{◌∙◌}
use Rattle.hs_expr.specs.declared.Span.{Span}
use Rattle.hs_expr.specs.declared.Name.{Name}
use Rattle.hs_expr.specs.declared.NameExpr.{NameExpr}
use Rattle.hs_expr.specs.declared.Piece.{Piece}
use Rattle.hs_expr.specs.declared.Piece.TheVariants as piece
use Rattle.hs_expr.specs.Trees.{operands}
use Rattle.hs_expr.proofs.OneTree.{one-map}
use Rattle.hs_text.specs.declared.syntax.Param.{Param}
use Rattle.hs_text.specs.declared.syntax.Element.{Element}
use Rattle.hs_text.specs.declared.syntax.Element.TheVariants as element
use Rattle.hs_text.specs.declared.syntax.Simple.{Simple}
use Rattle.hs_text.specs.declared.syntax.Simple.TheVariants as simple
use Rattle.hs_text.specs.declared.syntax.Item.{Item}
use Rattle.hs_text.specs.declared.syntax.Item.TheVariants as item
use Rattle.hs_text.specs.declared.syntax.Atom.{Atom}
use Rattle.hs_text.specs.declared.syntax.Atom.TheVariants as atom
use Rattle.hs_text.specs.declared.syntax.Bind.{Bind}
use Rattle.hs_text.specs.declared.syntax.Bind.TheVariants as bind
use Rattle.hs_text.specs.declared.syntax.Call.{Call}
use Rattle.hs_text.specs.declared.syntax.Count.{Count}
use Rattle.hs_text.specs.declared.syntax.Count.TheVariants as count
use Rattle.hs_text.specs.declared.syntax.Body.{Body}
use Rattle.hs_text.specs.declared.syntax.Body.TheVariants as body
use Rattle.hs_text.specs.declared.syntax.Definition.{Definition}
use Rattle.hs_text.specs.declared.syntax.Definition.TheVariants as definition

abbrev pub nowhere : Span
nowhere = record { start = 0; end = 0; line = 0; column = 0 }

abbrev pub unplaced_name : Name → Name
unplaced_name name = record { text = name.text; span = nowhere }

abbrev pub unplaced_piece : Piece → Piece
unplaced_piece (piece.Int value span) = piece.Int value nowhere
unplaced_piece (piece.Text value span) = piece.Text value nowhere
unplaced_piece (piece.Bool value span) = piece.Bool value nowhere
unplaced_piece (piece.Name name) = piece.Name (unplaced_name name)
unplaced_piece (piece.Slot node attribute) =
    piece.Slot (unplaced_name node) (unplaced_name attribute)
unplaced_piece (piece.Not span) = piece.Not nowhere
unplaced_piece (piece.Minus span) = piece.Minus nowhere
unplaced_piece (piece.Binary sign span) = piece.Binary sign nowhere

-- It takes as many operands.
pub unplaced_operands : (p : Piece) → operands (unplaced_piece p) ≡ operands p
unplaced_operands (piece.Int value span) = refl
unplaced_operands (piece.Text value span) = refl
unplaced_operands (piece.Bool value span) = refl
unplaced_operands (piece.Name name) = refl
unplaced_operands (piece.Slot node attribute) = refl
unplaced_operands (piece.Not span) = refl
unplaced_operands (piece.Minus span) = refl
unplaced_operands (piece.Binary sign span) = refl

abbrev pub unplaced_expr : NameExpr → NameExpr
unplaced_expr expr = record {
  pieces = map unplaced_piece expr.pieces;
  one = one-map unplaced_piece unplaced_operands expr.pieces ∙ expr.one;
}

abbrev pub unplaced_param : Param → Param
unplaced_param param = record {
  direction = param.direction;
  name = unplaced_name param.name;
  kind = unplaced_name param.kind;
}

abbrev pub unplaced_element : Element → Element
unplaced_element (element.Node name class) = element.Node (unplaced_name name) (unplaced_name class)
unplaced_element (element.Edge source target reference) =
    element.Edge (unplaced_name source) (unplaced_name target) (unplaced_name reference)

abbrev pub unplaced_simple : Simple → Simple
unplaced_simple (simple.Marked mark element) = simple.Marked mark (unplaced_element element)
unplaced_simple (simple.Set node attribute value) =
    simple.Set (unplaced_name node) (unplaced_name attribute) (unplaced_expr value)
unplaced_simple (simple.Where word test) = simple.Where nowhere (unplaced_expr test)

abbrev pub unplaced_item : Item → Item
unplaced_item (item.Simple simple) = item.Simple (unplaced_simple simple)
unplaced_item (item.Forbid elements) = item.Forbid (map unplaced_element elements)
unplaced_item (item.Require elements) = item.Require (map unplaced_element elements)
unplaced_item (item.Multi simples) = item.Multi (map unplaced_simple simples)

abbrev pub unplaced_atom : Atom → Atom
unplaced_atom (atom.Int minus value span) = atom.Int minus value nowhere
unplaced_atom (atom.Text value span) = atom.Text value nowhere
unplaced_atom (atom.Bool value span) = atom.Bool value nowhere
unplaced_atom (atom.Name name) = atom.Name (unplaced_name name)

abbrev pub unplaced_bind : Bind → Bind
unplaced_bind (bind.Give parameter value) =
    bind.Give (unplaced_name parameter) (unplaced_atom value)
unplaced_bind (bind.Take parameter variable) =
    bind.Take (unplaced_name parameter) (unplaced_name variable)

abbrev pub unplaced_call : Call → Call
unplaced_call call = record {
  callee = unplaced_name call.callee;
  binds = map unplaced_bind call.binds;
}

abbrev pub unplaced_count : Count → Count
unplaced_count (count.Int value span) = count.Int value nowhere
unplaced_count (count.Param name) = count.Param (unplaced_name name)

abbrev pub unplaced_else : Option Call → Option Call
unplaced_else None = None
unplaced_else (Some call) = Some (unplaced_call call)

abbrev pub unplaced_body : Body → Body
unplaced_body (body.Sequential calls) = body.Sequential (map unplaced_call calls)
unplaced_body (body.Independent calls) = body.Independent (map unplaced_call calls)
unplaced_body (body.Priority calls) = body.Priority (map unplaced_call calls)
unplaced_body (body.Conditional test then otherwise) =
    body.Conditional (unplaced_call test) (unplaced_call then) (unplaced_else otherwise)
unplaced_body (body.Loop call) = body.Loop (unplaced_call call)
unplaced_body (body.Iterated count call) = body.Iterated (unplaced_count count) (unplaced_call call)

abbrev pub unplaced_definition : Definition → Definition
unplaced_definition (definition.Rule rule) =
    definition.Rule (record {
      name = unplaced_name rule.name;
      params = map unplaced_param rule.params;
      items = map unplaced_item rule.items;
    })
unplaced_definition (definition.Unit unit) =
    definition.Unit (record {
      name = unplaced_name unit.name;
      params = map unplaced_param unit.params;
      body = unplaced_body unit.body;
    })

abbrev pub unplaced : List Definition → List Definition
unplaced = map unplaced_definition
