use Rattle.std.proofs.Common.{◌<◌}
use Rattle.hs_types.specs.Elements.{Edge as EdgeAt}
use Rattle.hs_overlap.specs.Contexts.{IsInContext}
use Rattle.hs_overlap.specs.SubShapes.{AreThose}
use Rattle.hs_overlap.proofs.context.context_edges.Given as goal

abbrev pub invariant-loop-i : goal.invariant-loop-i
invariant-loop-i l = AreThose (λ i. (i < l.i) × IsInContext l.shape (EdgeAt i)) l.numbers
