use Rattle.std.proofs.Common.{◌≡◌, sym, rules, Some, None, slice_get}
use Rattle.hs_types.specs.declared.graph.Object.{Object}
use Rattle.hs_match.proofs.Ordered.{find_here, place_none, place_other}
use Rattle.hs_match.proofs.lookup.find_object.Goals as goal

pub returns-then-object-number : goal.returns-then-object-number
returns-then-object-number c =
    let at : slice_get c.args.graph.now.graph.objects c.first_from-place.result ≡ Some c.in-Some.object.now = search rules in
    rw (← c.if-object-number.true) (sym (find_here (λ (object : Object). object.number) _ _ _ c.requires at))

pub returns-else-object-number : goal.returns-else-object-number
returns-else-object-number c =
    let at : slice_get c.args.graph.now.graph.objects c.first_from-place.result ≡ Some c.in-Some.object.now = search rules in
    let from = c.first_from-place.ensures in
    sym (place_other (λ (object : Object). object.number) c.args.graph.now.graph.objects c.args.number c.first_from-place.result c.in-Some.object.now c.requires (search (rules, from.before)) (search (rules, from.from)) at c.if-object-number.false)

pub returns-in-None : goal.returns-in-None
returns-in-None c =
    let at : slice_get c.args.graph.now.graph.objects c.first_from-place.result ≡ None = search rules in
    let from = c.first_from-place.ensures in
    sym (place_none (λ (object : Object). object.number) c.args.graph.now.graph.objects c.args.number c.first_from-place.result (search (rules, from.before)) at)
