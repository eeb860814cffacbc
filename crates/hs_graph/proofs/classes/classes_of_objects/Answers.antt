use Rattle.std.proofs.Common.{◌≡◌, ◌∙◌, refl, sym, slice_get, Some}
use Rattle.std.proofs.lemmas.Option.{slice_get_read}
use Rattle.hs_expr.proofs.Verdicts.{verdict-here}
use Rattle.hs_graph.specs.Faults as spec
use Rattle.hs_expr.specs.declared.failure.Failure.TheVariants.{Fault}
use Rattle.hs_expr.proofs.Faults.{verdict-from_fails}
use Rattle.hs_graph.proofs.classes.classes_of_objects.Goals as goal

pub returns-in-Err : goal.returns-in-Err
returns-in-Err c =
    let objects = c.args.objects.now in
    let object = c.index-objects-i.result in
    let at : slice_get objects c.loop-i.i ≡ Some object = slice_get_read _ _ _ _ refl c.loop-i-test.true c.index-objects-i.is in
    sym c.loop-i.invariant.faults
    ∙ verdict-here (spec.object_class_faults_at c.args.meta.now) objects c.loop-i.i object c.in-Err.fault at (verdict-from_fails (spec.object_class_faults_at c.args.meta.now c.loop-i.i object) _ (Fault c.in-Err.fault) (sym c.in-Err.ensures))
