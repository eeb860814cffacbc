use Rattle.std.proofs.Common.{◌≡◌, Some, slice_get, refl}
use Rattle.std.proofs.lemmas.Option.{slice_get_read}
use Rattle.hs_types.specs.Copies.{copies_from}
use Rattle.hs_types.specs.PlainMatch.{kernel_of}
use Rattle.hs_apply.specs.Blocks.{with_copies}
use Rattle.hs_apply.proofs.Blocks.{copies_step}
use Rattle.hs_apply.proofs.planning.add_all_copies.Goals as goal

pub loop-index-preserved : goal.loop-index-preserved
loop-index-preserved g c =
    let at : slice_get c.args.rule.now.multis c.loop-index.index ≡ Some c.index-multis-index.result = rw (← c.as_slice-multis.ensures) (slice_get_read _ _ _ _ refl c.loop-index-test.true c.index-multis-index.is) in
    copies_step (g.H.Host.metamodel c.args.host.now) (g.H.Host.graph c.args.host.now) c.args.rule.now c.args.args.now (kernel_of c.args.found.now) c.args.found.now.copies c.loop-index.index c.index-multis-index.result c.copies_at-copies.result.now (record { plan = c.loop-index.plan; count = c.loop-index.count }) (record { plan = c.add_copies.new.plan; count = c.in_ok-count.count }) (with_copies (g.H.Host.metamodel c.args.host.now) (g.H.Host.graph c.args.host.now) c.args.rule.now c.args.args.now (kernel_of c.args.found.now) (record { plan = c.args.plan.now; count = 0 }) (copies_from c.args.rule.now.multis c.args.found.now.copies)) at c.copies_at-copies.ensures c.in_ok-count.ensures c.loop-index.invariant
