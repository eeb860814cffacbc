use Rattle.std.proofs.Common.{◌↔◌, map, drop}
use Rattle.hs_types.specs.declared.graph.Object.{Object}
use Rattle.hs_expr.specs.Lists.{Rise}
use Rattle.hs_match.proofs.form.objects_rise.Given as goal

abbrev pub invariant-loop-object : goal.invariant-loop-object
invariant-loop-object l = Rise l.low (map (λ (object : Object). object.number) (drop l.object-index l.objects)) l.next ↔ Rise 0 (map (λ (object : Object). object.number) l.objects) l.next
