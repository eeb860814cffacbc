use Rattle.std.proofs.Common.{IsTrue, ◌↔◌, subst, sym}
use Rattle.hs_reach.specs.Reaching.{TargetsAreVertices}
use Rattle.hs_reach.proofs.Targets.{says_targets}
use Rattle.hs_reach.proofs.vertices.targets_are_vertices.Goals as goal

pub returns : goal.returns
returns c = subst (λ b. IsTrue b ↔ TargetsAreVertices c.args.graph.now) (sym c.all_within.ensures) (says_targets c.args.graph.now)
