use Rattle.std.proofs.Common.{◌<◌, length, get_or, refl, arith}
use Rattle.std.proofs.lemmas.List.{get_or_default}
use Rattle.hs_overlap.specs.declared.pair.Pair.{Pair}
use Rattle.hs_overlap.specs.declared.pair.Pair.TheVariants.{Node}
use Rattle.hs_overlap.proofs.Fills.{fills_more, refused_never}
use Rattle.hs_overlap.proofs.partners.partners_of.Goals as goal

pub returns-in_default-clause-none : goal.returns-in_default-clause-none
returns-in_default-clause-none c = λ e m.
    let l : c.loop-pair.pair-index < length c.args.span.now = omega arith in
    let q : Pair = get_or c.args.span.now c.loop-pair.pair-index (Node 0 0) in
    refused_never c.loop-pair.partners c.args.span.now c.loop-pair.pair-index q l (get_or_default c.args.span.now c.loop-pair.pair-index (Node 0 0) q l) c.loop-pair.invariant (c.in_default.ensures.none refl) m

pub loop-pair-preserved : goal.loop-pair-preserved
loop-pair-preserved c =
    let l : c.loop-pair.pair-index < length c.args.span.now = omega arith in
    let q : Pair = get_or c.args.span.now c.loop-pair.pair-index (Node 0 0) in
    fills_more c.loop-pair.partners c.in-Some.next c.args.span.now c.loop-pair.pair-index q l (get_or_default c.args.span.now c.loop-pair.pair-index (Node 0 0) q l) c.loop-pair.invariant c.in-Some.ensures.some
