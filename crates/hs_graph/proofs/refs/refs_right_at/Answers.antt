use Rattle.std.proofs.Common.{◌∙◌, ap, get_or}
use Rattle.hs_expr.specs.Verdict.{verdict, each}
use Rattle.hs_graph.specs.Faults as spec
use Rattle.hs_graph.specs.Lookups.{class_of_object, object_names}
use Rattle.hs_graph.proofs.Lists.{class_at_place}
use Rattle.hs_graph.proofs.refs.refs_right_at.Goals as goal

pub returns : goal.returns
returns c = λ objects are known at.
    let names = object_names objects in
    c.refs_right_in.ensures names known
    ∙ ap (λ refs. verdict (each (spec.ref_faults_at c.args.meta.now names c.args.classes.now (get_or c.args.classes.now c.args.i 0) c.args.i) refs)) c.as_slice.ensures
    ∙ ap (λ class. verdict (each (spec.ref_faults_at c.args.meta.now names c.args.classes.now class c.args.i) c.args.object.now.refs)) (class_at_place c.args.meta.now objects c.args.classes.now c.args.i c.args.object.now are at)
    ∙ ap (λ classes. verdict (each (spec.ref_faults_at c.args.meta.now names classes (class_of_object c.args.meta.now c.args.object.now) c.args.i) c.args.object.now.refs)) are
