use Rattle.std.proofs.Common.{◌≡◌, ◌∙◌, ◌++◌, ◌∷◌, ◌+◌, ℕ, Bool, List, Option, Some, append_assoc, drop, eqb, false, get_or, map, slice_get, refl, ap, subst, sym}
use Rattle.std.proofs.lemmas.List.{drop_more}
use Rattle.std.proofs.lemmas.Option.{slice_get_read}
use Rattle.std.specs.List.{flat_map, position}
use Rattle.std.specs.Option.{option_map_or}
use Rattle.hs_expr.specs.Lists.{Rise}
use Rattle.hs_types.specs.Reachability.{reaches}
use Rattle.hs_types.specs.declared.graph.Object.{Object}
use Rattle.hs_graph.specs.Problems as spec
use Rattle.hs_graph.specs.declared.problem.Problem.{Problem}
use Rattle.hs_graph.proofs.Numbered.{index_by_number}
use Rattle.hs_graph.proofs.validation.problems.Goals as goal

pub add_problems_at-requires-clause-marked : goal.add_problems_at-requires-clause-marked
add_problems_at-requires-clause-marked c =
    let objects = c.objects-objects.result.now in
    let object = c.index-objects-i.result in
    let rise = subst (λ (os : List Object). Rise 0 (map (λ (o : Object). o.number) os) c.args.graph.now.graph.next_object) (sym c.objects-objects.ensures) c.requires.objects_rise in
    let at : slice_get objects c.loop-i.i ≡ Some object = slice_get_read _ _ _ _ refl c.loop-i-test.true c.index-objects-i.is in
    let index : spec.index_of c.args.graph.now.graph object.number ≡ Some c.loop-i.i =
    ap (λ (os : List Object). position (λ (o : Object). eqb o.number object.number) os) (sym c.objects-objects.ensures)
    ∙ index_by_number (λ (o : Object). o.number) objects c.args.graph.now.graph.next_object c.loop-i.i object.number object rise at refl in
    c.is_marked-is_in_itself.ensures ∙ ap (λ (marks : List Bool). get_or marks c.loop-i.i false) c.as_slice.ensures ∙ c.in_ok-cycles.ensures c.loop-i.i
    ∙ sym (ap (λ (o : Option ℕ). option_map_or (λ i. reaches (spec.containment_lists c.args.meta.now c.args.graph.now.graph) i i) o false) index)

pub loop-i-preserved : goal.loop-i-preserved
loop-i-preserved c =
    let f = spec.problems_at c.args.meta.now c.args.graph.now.graph in
    let objects = c.objects-objects.result.now in
    let object = c.index-objects-i.result in
    let more : drop c.loop-i.i objects ≡ object ∷ drop (c.loop-i.i + 1) objects =
    drop_more objects c.loop-i.i object c.loop-i-test.true ∙ ap (λ o. o ∷ drop (c.loop-i.i + 1) objects) (sym c.index-objects-i.is) in
    ap (λ (ps : List Problem). ps ++ flat_map f (drop (c.loop-i.i + 1) objects)) c.in_ok-add_problems_at.ensures
    ∙ append_assoc c.loop-i.problems (f object) (flat_map f (drop (c.loop-i.i + 1) objects))
    ∙ ap (λ (os : List Object). c.loop-i.problems ++ flat_map f os) (sym more) ∙ c.loop-i.invariant
