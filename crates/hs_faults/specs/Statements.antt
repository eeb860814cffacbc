-- What a rule says of its nodes: edges, sets and conditions, each with its block.
use Rattle.std.specs.Prelude.{ℕ, List, [], ◌∷◌}
use Rattle.std.specs.List.{flat_map}
use Rattle.hs_expr.specs.declared.Name.{Name}
use Rattle.hs_expr.specs.declared.NameExpr.{NameExpr}
use Rattle.hs_expr.specs.declared.Span.{Span}
use Rattle.hs_expr.specs.Verdict.{each}
use Rattle.hs_text.specs.declared.syntax.Element.{Element}
use Rattle.hs_text.specs.declared.syntax.Element.TheVariants as element
use Rattle.hs_text.specs.declared.syntax.Item.{Item}
use Rattle.hs_text.specs.declared.syntax.Item.TheVariants as item
use Rattle.hs_text.specs.declared.syntax.Mark.{Mark}
use Rattle.hs_text.specs.declared.syntax.Mark.TheVariants.{Preserve}
use Rattle.hs_text.specs.declared.syntax.Simple.{Simple}
use Rattle.hs_text.specs.declared.syntax.Simple.TheVariants as simple
use Rattle.hs_faults.specs.declared.nodes.BlockId.{BlockId}
use Rattle.hs_faults.specs.declared.nodes.BlockId.TheVariants.{Kernel, Pattern, Multi}

pub data Statement : Type 0 where
  Edge : BlockId → Mark → Name → Name → Name → Statement
  Set : BlockId → Name → Name → NameExpr → Statement
  Where : BlockId → Span → NameExpr → Statement

abbrev pub statement_of_element : BlockId → Mark → Element → List Statement
statement_of_element block mark (element.Node name class) = []
statement_of_element block mark (element.Edge source target reference) =
    Edge block mark source target reference ∷ []

abbrev pub statement_of_simple : BlockId → Simple → List Statement
statement_of_simple block (simple.Marked mark element) = statement_of_element block mark element
statement_of_simple block (simple.Set node attribute value) = Set block node attribute value ∷ []
statement_of_simple block (simple.Where word test) = Where block word test ∷ []

-- The statements of an item, which has this place. The edges of a forbid or require block are
-- preserved.
abbrev pub statements_of_item : ℕ → Item → List Statement
statements_of_item i (item.Simple simple) = statement_of_simple Kernel simple
statements_of_item i (item.Forbid elements) =
    flat_map (statement_of_element (Pattern i) Preserve) elements
statements_of_item i (item.Require elements) =
    flat_map (statement_of_element (Pattern i) Preserve) elements
statements_of_item i (item.Multi simples) = flat_map (statement_of_simple (Multi i)) simples

-- All statements of the rule that has these items, in written order.
abbrev pub statements : List Item → List Statement
statements items = each statements_of_item items
