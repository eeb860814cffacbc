use Rattle.std.proofs.Common.{◌≡◌, ◌++◌, drop}
use Rattle.std.specs.List.{flat_map}
use Rattle.hs_graph.specs.Problems as spec
use Rattle.hs_graph.proofs.validation.add_feature_problems.Given as goal

abbrev pub invariant-loop-feature : goal.invariant-loop-feature
invariant-loop-feature l = l.problems ++ flat_map (spec.feature_problems_by l.meta l.outgoing l.object) (drop l.feature-index l.features) ≡ l.fn.problems ++ flat_map (spec.feature_problems_by l.meta l.outgoing l.object) l.features
