use Rattle.std.proofs.Common.{◌∙◌, ◌++◌, ◌∷◌, [], ap, sym}
use Rattle.hs_reach.proofs.Ranges.{vertices-more}
use Rattle.hs_reach.proofs.kosaraju.all_vertices.Goals as goal

pub loop-vertex-preserved : goal.loop-vertex-preserved
loop-vertex-preserved c = c.in_ok-push.ensures.items ∙ ap (λ vertices. vertices ++ c.loop-vertex.vertex ∷ []) c.loop-vertex.invariant ∙ sym (vertices-more c.loop-vertex.vertex)
