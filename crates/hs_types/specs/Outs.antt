-- What an application gives back: the names of the objects of its out parameters.
use Rattle.std.specs.Prelude.{ℕ, ◌+◌, List, Option, Some}
use Rattle.std.specs.List.{position}
use Rattle.std.specs.Option.{option_and_then}
use Rattle.hs_types.specs.declared.graph.Graph.{Graph}
use Rattle.hs_types.specs.declared.matching.Match.{Match}
use Rattle.hs_types.specs.declared.plan.End.{End}
use Rattle.hs_types.specs.declared.plan.End.TheVariants.{Old, New}
use Rattle.hs_types.specs.declared.rule.Rule.{Rule}
use Rattle.hs_expr.specs.Lists.{same_text}
use Rattle.hs_types.specs.Plan.{end_of}
use Rattle.hs_types.specs.TypedGraph.{hash_name, name_at}

-- The name that an end has after the step: an object of the graph keeps its own, one that is made
-- gets the next of its turn.
abbrev pub name_of_end : Graph → End → Option (List ℕ)
name_of_end g (Old n) = name_at g n
name_of_end g (New i) = Some (hash_name (g.next_name + i))

-- The name of the object of the kernel's node that a parameter names, where the rule is applied at
-- this match.
abbrev pub out_of : Graph → Rule → Match → List ℕ → Option (List ℕ)
out_of g rule f name =
    option_and_then (λ n. name_of_end g (end_of rule.shape.nodes f.nodes n))
    (position (λ node. same_text node.name name) rule.shape.nodes)
