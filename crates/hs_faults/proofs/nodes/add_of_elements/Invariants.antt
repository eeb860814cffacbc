use Rattle.std.proofs.Common.{◌≡◌, ◌++◌, drop}
use Rattle.std.specs.List.{flat_map}
use Rattle.hs_text.specs.declared.syntax.Mark.TheVariants.{Preserve}
use Rattle.hs_faults.specs.Nodes.{node_of_element}
use Rattle.hs_faults.proofs.nodes.add_of_elements.Given as goal

abbrev pub invariant-loop-element : goal.invariant-loop-element
invariant-loop-element l = l.nodes ++ flat_map (node_of_element l.block Preserve) (drop l.element-index l.elements) ≡ l.fn.nodes ++ flat_map (node_of_element l.block Preserve) l.elements
