use Rattle.hs_overlap.proofs.Fronts.{can_meet_from, can_meet_to}
use Rattle.hs_overlap.proofs.listed.is_listed.Goals as goal

pub returns-then-in_order : goal.returns-then-in_order
returns-then-in_order c = (
  (λ t. record { order = c.in_order.ensures.0 c.if-in_order.true; pairs = λ q held. can_meet_from c.args.first.now c.args.second.now q (c.all_can_meet.ensures.0 t q held) }),
  (λ h. c.all_can_meet.ensures.1 (λ q held. can_meet_to c.args.first.now c.args.second.now q (h.pairs q held))),
)
