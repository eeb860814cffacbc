use Rattle.std.proofs.Common.{ℕ, List, [], Err, drop, ◌≡◌, ◌<◌, ◌∙◌, refl, ap, sym, subst, cond, length, get_or, take, true, false, max, is_some, slice_get, Some, arith}
use Rattle.std.proofs.lemmas.Int.{clamps}
use Rattle.std.proofs.lemmas.List.{drop_all, get_or-map, length-map, take_all}
use Rattle.std.proofs.lemmas.Option.{slice_get_read}
use Rattle.hs_expr.proofs.Verdicts.{verdict-here, verdict-next}
use Rattle.hs_expr.specs.Lists.{same_text}
use Rattle.hs_graph.specs.declared.raw.RawObject.{RawObject}
use Rattle.hs_expr.specs.Verdict.{each_from, verdict}
use Rattle.hs_graph.specs.Faults as spec
use Rattle.hs_graph.specs.Lookups as lookups
use Rattle.hs_graph.specs.Meaning as meaning
use Rattle.hs_graph.specs.Names as name_spec
use Rattle.hs_graph.proofs.Naming.{passed, neither, next_step, second}
use Rattle.hs_graph.proofs.Places.{new_place}
use Rattle.hs_graph.proofs.numbers.names_of.Goals as goal

pub loop-i-preserved : goal.loop-i-preserved
loop-i-preserved c =
    let objects = c.args.objects.now in
    let object = c.index-objects-i.result in
    let names = lookups.object_names objects in
    let at : slice_get objects c.loop-i.i ≡ Some object = slice_get_read _ _ _ _ refl c.loop-i-test.true c.index-objects-i.is in
    let within : c.loop-i.i < length names = omega (arith, length-map objects (λ (o : RawObject). o.name)) in
    let here : get_or names c.loop-i.i object.name ≡ object.name =
    get_or-map (λ (o : RawObject). o.name) objects c.loop-i.i object object.name c.loop-i-test.true ∙ ap (λ (o : RawObject). o.name) (sym c.index-objects-i.is) in
    let text : c.as_str-name.result.now ≡ object.name = c.as_str-name.ensures in
    let fit = subst (λ (t : List ℕ). (name_spec.is_object_name t ≡ true) × (c.in-Some.next ≡ name_spec.next_after t)) text (passed (name_spec.is_object_name c.as_str-name.result.now) (name_spec.next_after c.as_str-name.result.now) c.in-Some.next c.in-Some.ensures) in
    let new : is_some (lookups.place_of (take c.loop-i.i names) object.name) ≡ false =
    subst (λ (t : List ℕ). is_some (lookups.place_of (take c.loop-i.i names) t) ≡ false) text (ap is_some (sym (c.loop-i.invariant.known c.as_str-name.result.now)) ∙ sym c.in_ok-add_name.ensures.known ∙ c.if-branch.false) in
    record {
      faults = sym (verdict-next (spec.name_faults_at objects) objects c.loop-i.i object at (neither _ _ _ _ fit.0 new)) ∙ c.loop-i.invariant.faults;
      known = λ other. c.in_ok-add_name.ensures.added other
          ∙ ap (λ (t : List ℕ). cond (same_text t other) (Some c.loop-i.i) (lookups.number_named c.loop-i.numbers other)) text
          ∙ ap (cond (same_text object.name other) (Some c.loop-i.i)) (c.loop-i.invariant.known other) ∙ sym (new_place names c.loop-i.i object.name other within here new);
      next = next_step objects c.loop-i.i object c.loop-i.next_name c.larger-next_name.result c.loop-i-test.true c.index-objects-i.is (c.larger-next_name.ensures ∙ ap (max c.loop-i.next_name) fit.1) ∙ c.loop-i.invariant.next;
    }

pub returns-then-branch : goal.returns-then-branch
returns-then-branch c =
    let objects = c.args.objects.now in
    let object = c.index-objects-i.result in
    let names = lookups.object_names objects in
    let at : slice_get objects c.loop-i.i ≡ Some object = slice_get_read _ _ _ _ refl c.loop-i-test.true c.index-objects-i.is in
    let text : c.as_str-name.result.now ≡ object.name = c.as_str-name.ensures in
    let fit = subst (λ (t : List ℕ). (name_spec.is_object_name t ≡ true) × (c.in-Some.next ≡ name_spec.next_after t)) text (passed (name_spec.is_object_name c.as_str-name.result.now) (name_spec.next_after c.as_str-name.result.now) c.in-Some.next c.in-Some.ensures) in
    let known : is_some (lookups.place_of (take c.loop-i.i names) object.name) ≡ true =
    subst (λ (t : List ℕ). is_some (lookups.place_of (take c.loop-i.i names) t) ≡ true) text (ap is_some (sym (c.loop-i.invariant.known c.as_str-name.result.now)) ∙ sym c.in_ok-add_name.ensures.known ∙ c.if-branch.true) in
    sym c.loop-i.invariant.faults
    ∙ verdict-here (spec.name_faults_at objects) objects c.loop-i.i object c.fault-then-branch.result at (second _ _ _ _ fit.0 known ∙ ap Err (sym c.fault-then-branch.ensures))

pub returns : goal.returns
returns c =
    let objects = c.args.objects.now in
    let names = lookups.object_names objects in
    let over : drop c.loop-i.i objects ≡ [] = drop_all c.loop-i.i objects c.loop-i-test.false in
    let whole : take c.loop-i.i names ≡ names = take_all c.loop-i.i names (let past = c.loop-i-test.false in omega (arith, past, length-map objects (λ (o : RawObject). o.name))) in
    let next : max c.loop-i.next_name 0 ≡ meaning.next_name_after names =
    ap (λ (os : List RawObject). max c.loop-i.next_name (meaning.next_name_after (lookups.object_names os))) (sym over) ∙ c.loop-i.invariant.next in (
      sym c.loop-i.invariant.faults ∙ ap (λ os. verdict (each_from (spec.name_faults_at objects) c.loop-i.i os)) over,
      (λ name. c.loop-i.invariant.known name ∙ ap (λ ts. lookups.place_of ts name) whole, omega (arith, clamps, next)),
    )
