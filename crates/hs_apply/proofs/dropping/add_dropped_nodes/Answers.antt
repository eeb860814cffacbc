use Rattle.std.proofs.Common.{◌++◌, sym, ap, ◌∙◌, append-nil, append_assoc, arith}
use Rattle.hs_types.specs.declared.rule.PatternNode.{PatternNode}
use Rattle.hs_types.specs.Pattern.{is_drop, left_nodes}
use Rattle.hs_apply.proofs.Dropped.{beside_done, beside_next, beside_skipped}
use Rattle.hs_apply.proofs.dropping.add_dropped_nodes.Goals.{then-is_dropped_node+in_ok-push, else-is_dropped_node}
use Rattle.hs_apply.proofs.dropping.add_dropped_nodes.Goals as goal

pub loop-index-preserved : goal.loop-index-preserved
loop-index-preserved c = elim c.if-is_dropped_node.branch [
  | then-is_dropped_node+in_ok-push w ↦ let next = beside_next (λ (node : PatternNode). is_drop node.mark) (left_nodes c.args.nodes.now) c.args.images.now c.loop-index.index (sym c.is_dropped_node.ensures ∙ w.if-is_dropped_node.true) c.loop-index-test.true in let inv = rw next at c.loop-index.invariant in rw (w.dropped-is, w.in_ok-push.ensures.ok) (append_assoc c.loop-index.dropped _ _ ∙ inv)
  | else-is_dropped_node w ↦ let next = beside_skipped (λ (node : PatternNode). is_drop node.mark) (left_nodes c.args.nodes.now) c.args.images.now c.loop-index.index (sym c.is_dropped_node.ensures ∙ w.if-is_dropped_node.false) c.loop-index-test.true in rw w.dropped-is (rw next at c.loop-index.invariant)
]

pub returns : goal.returns
returns c = sym (append-nil c.loop-index.dropped) ∙ ap (λ r. c.loop-index.dropped ++ r) (sym (beside_done (λ (node : PatternNode). is_drop node.mark) (left_nodes c.args.nodes.now) c.args.images.now c.loop-index.index (omega (arith, c.loop-index-test.false)))) ∙ c.loop-index.invariant
