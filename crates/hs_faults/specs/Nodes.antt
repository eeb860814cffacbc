-- The nodes that a rule declares, those of its blocks among them.
use Rattle.std.specs.Prelude.{ℕ, List, [], ◌∷◌}
use Rattle.std.specs.List.{flat_map}
use Rattle.hs_expr.specs.Verdict.{each}
use Rattle.hs_text.specs.declared.syntax.Element.{Element}
use Rattle.hs_text.specs.declared.syntax.Element.TheVariants as element
use Rattle.hs_text.specs.declared.syntax.Item.{Item}
use Rattle.hs_text.specs.declared.syntax.Item.TheVariants as item
use Rattle.hs_text.specs.declared.syntax.Mark.{Mark}
use Rattle.hs_text.specs.declared.syntax.Mark.TheVariants.{Preserve}
use Rattle.hs_text.specs.declared.syntax.Simple.{Simple}
use Rattle.hs_text.specs.declared.syntax.Simple.TheVariants as simple
use Rattle.hs_faults.specs.declared.nodes.DeclaredNode.{DeclaredNode}
use Rattle.hs_faults.specs.declared.nodes.BlockId.{BlockId}
use Rattle.hs_faults.specs.declared.nodes.BlockId.TheVariants.{Kernel, Pattern, Multi}
use Rattle.hs_faults.specs.Numbers.{numbered_nodes}

-- The node that an element declares, if it declares one.
abbrev pub node_of_element : BlockId → Mark → Element → List DeclaredNode
node_of_element block mark (element.Node name class) =
    record { name = name; class = class; mark = mark; block = block; number = 0 } ∷ []
node_of_element block mark (element.Edge source target reference) = []

abbrev pub node_of_simple : BlockId → Simple → List DeclaredNode
node_of_simple block (simple.Marked mark element) = node_of_element block mark element
node_of_simple block (simple.Set node attribute value) = []
node_of_simple block (simple.Where word test) = []

-- The nodes of an item, which has this place. Those of a forbid or require block have no mark of
-- their own, and are preserved.
abbrev pub nodes_of_item : ℕ → Item → List DeclaredNode
nodes_of_item i (item.Simple simple) = node_of_simple Kernel simple
nodes_of_item i (item.Forbid elements) = flat_map (node_of_element (Pattern i) Preserve) elements
nodes_of_item i (item.Require elements) = flat_map (node_of_element (Pattern i) Preserve) elements
nodes_of_item i (item.Multi simples) = flat_map (node_of_simple (Multi i)) simples

-- All nodes of the rule that has these items, in written order, and not numbered_nodes yet.
abbrev pub written_nodes : List Item → List DeclaredNode
written_nodes items = each nodes_of_item items

-- The same nodes with their numbers.
abbrev pub declared_nodes : List Item → List DeclaredNode
declared_nodes items = numbered_nodes (written_nodes items)
