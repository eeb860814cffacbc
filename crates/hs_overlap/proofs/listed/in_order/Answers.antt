use Rattle.std.proofs.Common.{◌<◌, ◌+◌, ◌-◌, length, arith, refl}
use Rattle.std.proofs.lemmas.Option.{slice_get_within}
use Rattle.hs_overlap.proofs.Orders.{all_from_next, pairs_at}
use Rattle.hs_overlap.proofs.listed.in_order.Goals as goal

pub returns-then-not-is_before_at : goal.returns-then-not-is_before_at
returns-then-not-is_before_at c = (
  (λ t. absurd cc),
  (λ h.
      let yes = c.is_before_at.ensures.1 (λ a b at at'. pairs_at c.args.span.now h (c.loop-i.i - 1) c.loop-i.i a b (omega arith) at at') in let no_ = c.if-not-is_before_at.true in cc),
)

pub returns : goal.returns
returns c = ((λ t. all_from_next c.args.span.now (λ k a b at at'. let below : k + 1 < length c.args.span.now = slice_get_within c.args.span.now (k + 1) b at' in c.loop-i.invariant k a b (omega arith) at at')), (λ h. refl))
