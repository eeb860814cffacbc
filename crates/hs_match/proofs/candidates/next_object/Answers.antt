use Rattle.std.proofs.Common.{◌≡◌, ◌≤◌, ◌++◌, slice_get, Some, refl}
use Rattle.std.proofs.lemmas.Option.{slice_get_read}
use Rattle.hs_types.specs.declared.graph.Object.{Object}
use Rattle.hs_match.specs.Candidates.{MayBe}
use Rattle.hs_match.proofs.Scans.{skip_one, least_here, none_left, free_here, free_stands}
use Rattle.hs_match.proofs.candidates.next_object.Goals as goal

pub returns-then-may_be : goal.returns-then-may_be
returns-then-may_be c =
    let at : slice_get c.objects-objects.result.now c.loop-i.i ≡ Some c.index-objects-i.result = slice_get_read _ _ _ _ refl c.loop-i-test.true c.index-objects-i.is in
    let there : slice_get c.args.graph.now.graph.objects c.loop-i.i ≡ Some c.index-objects-i.result = rw c.objects-objects.ensures at at in
    let late : c.args.from ≤ c.index-objects-i.result.number = c.first_from-i.ensures.from c.loop-i.i c.index-objects-i.result at c.loop-i.auto.i in
    least_here (λ (object : Object). object.number) (MayBe c.args.meta.now c.args.class (c.args.base.now ++ c.args.taken.now)) _ _ _ c.loop-i.i _ c.requires c.loop-i.invariant there late
    (free_here _ _ _ _ c.loop-i.i _ c.requires there (c.if-may_be.ensures.0 refl))
    (free_stands _ _ _ _)

pub loop-i-preserved : goal.loop-i-preserved
loop-i-preserved c =
    let at : slice_get c.objects-objects.result.now c.loop-i.i ≡ Some c.index-objects-i.result = slice_get_read _ _ _ _ refl c.loop-i-test.true c.index-objects-i.is in
    let there : slice_get c.args.graph.now.graph.objects c.loop-i.i ≡ Some c.index-objects-i.result = rw c.objects-objects.ensures at at in
    skip_one (λ (object : Object). object.number) (MayBe c.args.meta.now c.args.class (c.args.base.now ++ c.args.taken.now)) c.args.graph.now.graph.objects c.args.from c.loop-i.i c.index-objects-i.result
    c.loop-i.invariant there (λ late passes. let t = c.if-may_be.ensures.1 passes in cc)

pub returns : goal.returns
returns c =
    none_left (λ (object : Object). object.number) (MayBe c.args.meta.now c.args.class (c.args.base.now ++ c.args.taken.now)) _ _ _ c.loop-i.i c.loop-i.invariant
    (rw c.objects-objects.ensures at c.loop-i-test.false) (free_stands _ _ _ _)
