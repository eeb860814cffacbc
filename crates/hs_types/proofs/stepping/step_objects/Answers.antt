use Rattle.std.proofs.Common.{sym, subst, not}
use Rattle.hs_types.specs.declared.graph.Object.{Object}
use Rattle.hs_expr.specs.Lists.{has}
use Rattle.hs_types.specs.Writing.{AreKeyed}
use Rattle.hs_types.proofs.Keyed.{keyed_filter}
use Rattle.hs_types.proofs.stepping.step_objects.Goals as goal

pub write_slots-requires : goal.write_slots-requires
write_slots-requires c = subst AreKeyed (sym c.drop_objects.ensures.items) (keyed_filter (λ (o : Object). not (has c.args.dropped.items o.number)) c.args.objects.now.items c.requires.keyed)
