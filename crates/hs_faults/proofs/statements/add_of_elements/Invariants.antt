use Rattle.std.proofs.Common.{◌≡◌, ◌++◌, drop}
use Rattle.std.specs.List.{flat_map}
use Rattle.hs_text.specs.declared.syntax.Mark.TheVariants.{Preserve}
use Rattle.hs_faults.specs.Statements.{statement_of_element}
use Rattle.hs_faults.proofs.statements.add_of_elements.Given as goal

abbrev pub invariant-loop-element : goal.invariant-loop-element
invariant-loop-element l = l.all ++ flat_map (statement_of_element l.block Preserve) (drop l.element-index l.elements) ≡ l.fn.all ++ flat_map (statement_of_element l.block Preserve) l.elements
