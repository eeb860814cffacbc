use Rattle.std.proofs.Common.{arith, sym, inl, inr, subst}
use Rattle.hs_overlap.specs.declared.pair.Pair.TheVariants.{Node}
use Rattle.hs_overlap.specs.Contexts.{of_first, IsDeleted}
use Rattle.hs_overlap.proofs.Taken.{taken_at_cases}
use Rattle.hs_overlap.proofs.listed.has_deleted.Goals as goal

pub loop-pair-preserved : goal.loop-pair-preserved
loop-pair-preserved c = λ h. elim (taken_at_cases c.args.span.now c.loop-pair.pair-index (Node 0 0) h.pair (omega arith) h.held) [
  | inl early ↦ c.loop-pair.invariant (record { pair = h.pair; held = early; deleted = h.deleted })
  | inr now ↦ let yes = c.is_deleted.ensures.1 (subst (λ z. IsDeleted c.args.first.now (of_first z)) (sym now) h.deleted) in let no_ = c.if-is_deleted.false in cc
]
