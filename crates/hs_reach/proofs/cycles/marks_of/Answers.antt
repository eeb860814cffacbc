use Rattle.hs_reach.proofs.Marks.{each-back}
use Rattle.std.proofs.Common.{ap, false, get_or, ◌∙◌}
use Rattle.hs_reach.proofs.cycles.marks_of.Goals as goal

pub returns : goal.returns
returns c = λ n.
    ap (λ marks. get_or marks n false) c.loop-vertex.invariant
    ∙ each-back c.args.graph.now c.args.components.now c.loop-vertex.vertex n c.requires.whole c.requires.components c.loop-vertex-test.false
