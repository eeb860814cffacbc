use Rattle.std.proofs.Common.{◌<◌, length, arith, refl, inl, inr, rules}
use Rattle.std.proofs.lemmas.Bool.{cases_eq}
use Rattle.std.proofs.lemmas.Option.{slice_get_within}
use Rattle.hs_overlap.proofs.closed.slots_held.Goals as goal

pub loop-k-preserved : goal.loop-k-preserved
loop-k-preserved c = λ k b. elim (cases_eq k c.loop-k.k) [
  | inl e ↦ rw e (c.slots_held_at.ensures.0 (search rules))
  | inr ne ↦ c.loop-k.invariant k (omega arith)
]

pub returns : goal.returns
returns c = ((λ t k l w s. let below : k < length c.args.first.now.slots = slice_get_within c.args.first.now.slots k w.slot w.left.at in c.loop-k.invariant k (omega arith) l w s), (λ h. refl))
