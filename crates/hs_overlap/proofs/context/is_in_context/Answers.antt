use Rattle.hs_overlap.proofs.Needed.{context_needed, needed_context}
use Rattle.hs_overlap.proofs.context.is_in_context.Goals as goal

pub returns : goal.returns
returns c = ((λ t. needed_context c.args.shape.now c.args.i (c.is_needed.ensures.0 t)), (λ h. c.is_needed.ensures.1 (context_needed c.args.shape.now c.args.i h)))
