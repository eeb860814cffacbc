use Rattle.std.proofs.Common.{rules, ◌≡◌, [], ◌∷◌, ◌++◌, List, map, sym, ap, ◌∙◌, subst}
use Rattle.hs_types.specs.declared.plan.Write.{Write}
use Rattle.hs_types.specs.Step.{object_after}
use Rattle.hs_types.specs.Writing.{AreKeyed}
use Rattle.hs_types.proofs.Writes.{keyed_written, rewritten_both, rewritten_none}
use Rattle.hs_types.proofs.writing.write_slots.Goals as goal

pub loop-write-preserved : goal.loop-write-preserved
loop-write-preserved c =
    let popped : c.loop-write.writes.items ≡ c.pop.new.self.items ++ c.in-Some.write ∷ [] = search rules in
    record {
      whole = ap (map (object_after c.pop.new.self.items)) c.write_one.ensures.items ∙ (rewritten_both c.pop.new.self.items (c.in-Some.write ∷ []) c.loop-write.objects.items ∙ (ap (λ (ws : List Write). map (object_after ws) c.loop-write.objects.items) (sym popped) ∙ c.loop-write.invariant.whole));
      keyed = subst AreKeyed (sym c.write_one.ensures.items) (keyed_written (c.in-Some.write ∷ []) c.loop-write.objects.items c.loop-write.invariant.keyed);
      length = c.write_one.ensures.len ∙ c.loop-write.invariant.length;
      capacity = c.write_one.ensures.capacity ∙ c.loop-write.invariant.capacity;
    }

pub returns-clause-items : goal.returns-clause-items
returns-clause-items c =
    let spent : c.loop-write.writes.items ≡ [] = search rules in
    sym (rewritten_none c.loop-write.objects.items) ∙ (ap (λ (ws : List Write). map (object_after ws) c.loop-write.objects.items) (sym spent) ∙ c.loop-write.invariant.whole)
