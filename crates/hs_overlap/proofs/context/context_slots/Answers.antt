use Rattle.std.proofs.Common.{◌≡◌, ◌<◌, ◌++◌, ◌∷◌, [], length, inl, arith}
use Rattle.std.proofs.lemmas.Option.{slice_get_within}
use Rattle.hs_types.specs.Elements.{Slot as SlotAt}
use Rattle.hs_overlap.specs.Contexts.{IsInContext}
use Rattle.hs_overlap.proofs.LeftElements.{context_slot}
use Rattle.hs_overlap.proofs.Those.{those_all, those_push, those_skip}
use Rattle.hs_overlap.proofs.context.context_slots.Goals as goal
use Rattle.hs_overlap.proofs.context.context_slots.Goals.{then-is_written_slot+in_ok-push, else-is_written_slot}

pub loop-i-preserved : goal.loop-i-preserved
loop-i-preserved c = elim c.if-is_written_slot.branch [
  | then-is_written_slot+in_ok-push w ↦
      let pushed : w.push.new.self ≡ c.loop-i.numbers ++ c.loop-i.i ∷ [] = w.in_ok-push.ensures.ok in
      let h = c.is_written_slot.ensures.0 w.if-is_written_slot.true in
      rw (w.numbers-is, pushed) (those_push (λ i. IsInContext c.args.shape.now (SlotAt i)) c.loop-i.i c.loop-i.numbers c.loop-i.invariant (inl h))
  | else-is_written_slot w ↦
      rw w.numbers-is (those_skip (λ i. IsInContext c.args.shape.now (SlotAt i)) c.loop-i.i c.loop-i.numbers c.loop-i.invariant (λ h. let yes = c.is_written_slot.ensures.1 (context_slot c.args.shape.now c.loop-i.i h) in let no_ = w.if-is_written_slot.false in cc))
]

pub returns : goal.returns
returns c = those_all (λ i. IsInContext c.args.shape.now (SlotAt i)) c.loop-i.i c.loop-i.numbers c.loop-i.invariant (λ i h. let d = context_slot c.args.shape.now i h in let l : i < length c.args.shape.now.slots = slice_get_within c.args.shape.now.slots i d.slot d.left.at in omega arith)
