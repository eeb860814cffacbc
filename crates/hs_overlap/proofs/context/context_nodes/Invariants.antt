use Rattle.std.proofs.Common.{◌<◌}
use Rattle.hs_types.specs.Elements.{Node as NodeAt}
use Rattle.hs_overlap.specs.Contexts.{IsInContext}
use Rattle.hs_overlap.specs.SubShapes.{AreThose}
use Rattle.hs_overlap.proofs.context.context_nodes.Given as goal

abbrev pub invariant-loop-i : goal.invariant-loop-i
invariant-loop-i l = AreThose (λ i. (i < l.i) × IsInContext l.shape (NodeAt i)) l.numbers
