use Rattle.std.proofs.Common.{◌<◌, length, arith, refl, inl, inr, rules}
use Rattle.std.proofs.lemmas.Bool.{cases_eq}
use Rattle.std.proofs.lemmas.Option.{slice_get_within}
use Rattle.hs_overlap.proofs.closed.takes_at.Goals as goal

pub loop-y-preserved : goal.loop-y-preserved
loop-y-preserved c = λ y l left. elim (cases_eq y c.loop-y.y) [
  | inl e ↦ rw e (c.is_taken_at.ensures.0 (search rules) (rw e at left))
  | inr ne ↦ c.loop-y.invariant y (omega arith) left
]

pub returns : goal.returns
returns c = ((λ t y left. let below : y < length c.args.second.now.edges = slice_get_within c.args.second.now.edges y left.edge left.there in c.loop-y.invariant y (omega arith) left), (λ h. refl))
