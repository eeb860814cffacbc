use Rattle.std.proofs.Common.{◌≡◌, ◌+◌, ◌∙◌, ◌∷◌, ◌++◌, ◌<◌, ℕ, List, get_or, [], ap, length, arith}
use Rattle.std.proofs.lemmas.List.{get_or_read, length_push}
use Rattle.std.proofs.lemmas.List.FromFn.{get_or-map-range_with_len, length-map-range_with_len}
use Rattle.std.specs.Vec.Iter.{into_iter_items}
use Rattle.hs_types.specs.declared.meta.Metamodel.{Metamodel}
use Rattle.hs_meta.specs.Meaning as spec
use Rattle.hs_meta.proofs.Assembled.{made_more}
use Rattle.hs_meta.proofs.metamodel.meta_of.Goals as goal

pub bounds-features-number : goal.bounds-features-number
bounds-features-number c =
    let here = ap length c.in-Some.ensures.steps.0 in
    let long = ap length c.requires.found ∙ length-map-range_with_len (spec.features_at c.args.classes) 0 (length c.args.classes) in
    omega (arith, c.loop-class.invariant.count, c.len-number.ensures)

pub loop-class-preserved : goal.loop-class-preserved
loop-class-preserved c =
    let here : into_iter_items c.loop-class.class-iterator ≡ c.in-Some.class ∷ into_iter_items c.next.new.self = c.in-Some.ensures.steps.0 in
    let gone = c.in-Some.ensures.steps.1 in
    let long = ap length here in
    let m = c.loop-class.meta in
    let new = c.add_class.new.meta in
    let done = c.in_ok-add_class.ensures c.args.classes c.requires.numbered in
    let within : length m.classes < length c.args.classes = omega (arith, c.loop-class.invariant.count) in
    let wide : length c.args.features.now ≡ length c.args.classes = ap length c.requires.found ∙ length-map-range_with_len (spec.features_at c.args.classes) 0 (length c.args.classes) in
    let number : c.len-number.result < length c.args.classes = omega (arith, c.len-number.ensures) in
    let found : c.in_ok-features.features ≡ spec.features_at c.args.classes (length m.classes) =
    c.in_ok-features.ensures.cases
    ∙ get_or_read c.args.features.now c.len-number.result c.index-features-number.result (omega arith) c.index-features-number.is []
    ∙ ap (λ (ls : List (List ℕ)). get_or ls c.len-number.result []) c.requires.found
    ∙ get_or-map-range_with_len (spec.features_at c.args.classes) 0 (length c.args.classes) c.len-number.result c.len-number.result [] (omega arith) (omega arith)
    ∙ ap (spec.features_at c.args.classes) c.len-number.ensures in
    let more : length new.classes ≡ length m.classes + 1 = ap (λ (m : Metamodel). length m.classes) done ∙ length_push m.classes _ in
    record {
      format = ap (λ (m : Metamodel). m.format) done ∙ c.loop-class.invariant.format;
      classes = made_more (λ k class. spec.class_of_raw c.args.classes k class ∷ []) m.classes _ new.classes c.in-Some.class _ _ (length m.classes) (length new.classes) here more c.loop-class.invariant.classes
          (ap (λ (m : Metamodel). m.classes) done ∙ ap (λ fs. m.classes ++ (record { name = c.in-Some.class.name; is_abstract = c.in-Some.class.is_abstract; supers = spec.direct_supers c.args.classes c.in-Some.class; features = fs }) ∷ []) found);
      features = made_more (spec.own_features c.args.classes) m.features _ new.features c.in-Some.class _ _ (length m.classes) (length new.classes) here more c.loop-class.invariant.features
          (ap (λ (m : Metamodel). m.features) done ∙ ap (λ n. m.features ++ spec.own_features c.args.classes n c.in-Some.class) c.len-number.ensures);
      count = let e = c.loop-class.invariant.count in omega arith;
      left = let e = c.loop-class.invariant.left in omega arith;
    }
