use Rattle.std.proofs.Common.{refl, sym, ◌∙◌, slice_get, Some, ◌≡◌}
use Rattle.std.proofs.lemmas.Option.{slice_get_read}
use Rattle.hs_expr.proofs.Verdicts.{verdict-next, verdict-here}
use Rattle.hs_expr.proofs.check.check_each.Goals as goal

pub returns-in-Err : goal.returns-in-Err
returns-in-Err g c = λ finds h.
    let at : slice_get c.args.items.now c.loop-i.i ≡ Some c.index-items-i.result = slice_get_read _ _ _ _ refl c.loop-i-test.true c.index-items-i.is in
    let found = h c.loop-i.i _ _ at c.in-Err.ensures in
    sym (verdict-here finds _ _ _ _ at (sym found)) ∙ c.loop-i.invariant finds h

pub loop-i-preserved : goal.loop-i-preserved
loop-i-preserved g c = λ finds h.
    let at : slice_get c.args.items.now c.loop-i.i ≡ Some c.index-items-i.result = slice_get_read _ _ _ _ refl c.loop-i-test.true c.index-items-i.is in
    let found = h c.loop-i.i _ _ at c.in-Ok.ensures in
    sym (verdict-next finds _ _ _ at (sym found)) ∙ c.loop-i.invariant finds h
