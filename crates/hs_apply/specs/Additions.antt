-- The plans of rules that only add.
use Rattle.std.specs.Prelude.{◌≤◌, ◌≡◌, [], length}
use Rattle.hs_types.specs.declared.graph.Graph.{Graph}
use Rattle.hs_types.specs.declared.matching.Match.{Match}
use Rattle.hs_types.specs.declared.meta.Metamodel.{Metamodel}
use Rattle.hs_types.specs.declared.rule.Rule.{Rule}
use Rattle.hs_types.specs.Additions.{OnlyAdds}
use Rattle.hs_types.specs.Arguments.{no_args}
use Rattle.hs_types.specs.Plan.{Plan, plan_of}

-- The plan drops and writes nothing.
pub record OnlyMakes (plan : Plan) : Type 0 where
  pub objects_stay : plan.drop_objects ≡ []
  pub edges_stay : plan.drop_edges ≡ []
  pub slots_stay : plan.writes ≡ []

-- The plan of a rule that only adds drops and writes nothing, and makes no more than the rule
-- names.
abbrev pub AdditionsOnlyMake : Type 0
AdditionsOnlyMake = (m : Metamodel) (g : Graph) (rule : Rule) (f : Match) → OnlyAdds rule →
    OnlyMakes (plan_of m g rule no_args f)
    × (length (plan_of m g rule no_args f).make_objects ≤ length rule.shape.nodes)
    × (length (plan_of m g rule no_args f).make_edges ≤ length rule.shape.edges)
