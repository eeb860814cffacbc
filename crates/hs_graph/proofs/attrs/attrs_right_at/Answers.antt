use Rattle.std.proofs.Common.{◌∙◌, ap, get_or}
use Rattle.hs_expr.specs.Verdict.{verdict, each}
use Rattle.hs_graph.specs.Faults as spec
use Rattle.hs_graph.proofs.Lists.{class_at_place}
use Rattle.hs_graph.proofs.attrs.attrs_right_at.Goals as goal

pub returns : goal.returns
returns c = λ objects are at.
    c.attrs_right_in.ensures
    ∙ ap (λ attrs. verdict (each (spec.attr_faults_at c.args.meta.now (get_or c.args.classes.now c.args.i 0) c.args.i) attrs)) c.as_slice.ensures
    ∙ ap (λ class. verdict (each (spec.attr_faults_at c.args.meta.now class c.args.i) c.args.object.now.attrs)) (class_at_place c.args.meta.now objects c.args.classes.now c.args.i c.args.object.now are at)
