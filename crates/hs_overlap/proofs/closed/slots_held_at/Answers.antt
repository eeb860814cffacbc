use Rattle.std.proofs.Common.{◌<◌, length, arith, refl, inl, inr, rules}
use Rattle.std.proofs.lemmas.Bool.{cases_eq}
use Rattle.std.proofs.lemmas.Option.{slice_get_within}
use Rattle.hs_overlap.proofs.closed.slots_held_at.Goals as goal

pub returns-then-not-is_slot_held : goal.returns-then-not-is_slot_held
returns-then-not-is_slot_held c = ((λ t. absurd cc), (λ h. let yes = c.is_slot_held.ensures.1 (h c.loop-l.l) in let no_ = c.if-not-is_slot_held.true in cc))

pub loop-l-preserved : goal.loop-l-preserved
loop-l-preserved c = λ l b w s. elim (cases_eq l c.loop-l.l) [
  | inl e ↦ rw e (c.is_slot_held.ensures.0 (search rules) w (rw e at s))
  | inr ne ↦ c.loop-l.invariant l (omega arith) w s
]

pub returns : goal.returns
returns c = ((λ t l w s. let below : l < length c.args.second.now.slots = slice_get_within c.args.second.now.slots l s.other s.second.at in c.loop-l.invariant l (omega arith) w s), (λ h. refl))
