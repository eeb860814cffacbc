use Rattle.std.proofs.Common.{◌≡◌, ◌<◌, ◌++◌, ◌∷◌, [], length, arith}
use Rattle.hs_types.specs.Elements.{Node as NodeAt}
use Rattle.hs_overlap.specs.Contexts.{IsInContext}
use Rattle.hs_overlap.proofs.Needed.{node_there}
use Rattle.hs_overlap.proofs.Those.{those_all, those_push, those_skip}
use Rattle.hs_overlap.proofs.context.context_nodes.Goals as goal
use Rattle.hs_overlap.proofs.context.context_nodes.Goals.{then-is_in_context+in_ok-push, else-is_in_context}

pub loop-i-preserved : goal.loop-i-preserved
loop-i-preserved c = elim c.if-is_in_context.branch [
  | then-is_in_context+in_ok-push w ↦
      let pushed : w.push.new.self ≡ c.loop-i.numbers ++ c.loop-i.i ∷ [] = w.in_ok-push.ensures.ok in
      let h = c.is_in_context.ensures.0 w.if-is_in_context.true in
      rw (w.numbers-is, pushed) (those_push (λ i. IsInContext c.args.shape.now (NodeAt i)) c.loop-i.i c.loop-i.numbers c.loop-i.invariant (h))
  | else-is_in_context w ↦
      rw w.numbers-is (those_skip (λ i. IsInContext c.args.shape.now (NodeAt i)) c.loop-i.i c.loop-i.numbers c.loop-i.invariant (λ h. let yes = c.is_in_context.ensures.1 (h) in let no_ = w.if-is_in_context.false in cc))
]

pub returns : goal.returns
returns c = those_all (λ i. IsInContext c.args.shape.now (NodeAt i)) c.loop-i.i c.loop-i.numbers c.loop-i.invariant (λ i h. let l : i < length c.args.shape.now.nodes = node_there c.args.shape.now c.requires i h in omega arith)
