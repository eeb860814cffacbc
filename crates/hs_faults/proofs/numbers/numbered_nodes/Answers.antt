use Rattle.std.proofs.Common.{drop, rules, ◌+◌, ◌<◌, ◌≡◌, ◌∙◌, ◌∷◌, [], ap, sym, subst, length, take, arith}
use Rattle.std.proofs.lemmas.List.{length_push}
use Rattle.std.specs.Vec.Iter.{into_iter_items}
use Rattle.hs_faults.specs.Numbers.{HasCounts, number_of_node, with_number}
use Rattle.hs_faults.specs.declared.nodes.DeclaredNode.{DeclaredNode}
use Rattle.hs_faults.proofs.Numbering.{made_more, next_node}
use Rattle.hs_faults.proofs.numbers.numbered_nodes.Goals as goal

pub loop-node-preserved : goal.loop-node-preserved
loop-node-preserved c =
    let here : into_iter_items c.loop-node.node-iterator ≡ c.in-Some.node ∷ into_iter_items c.next.new.self = c.in-Some.ensures.steps.0 in
    let gone = c.in-Some.ensures.steps.1 in
    let nodes = c.args.nodes in
    let all = c.loop-node.all in
    let long = ap length here in
    let low : length all < length nodes = omega (arith, c.loop-node.invariant.count) in
    let next = next_node nodes (into_iter_items c.loop-node.node-iterator) (into_iter_items c.next.new.self) (length all) c.in-Some.node c.loop-node.invariant.rest here low in
    let put = c.in_ok-add_numbered.ensures.all nodes (take (length all) nodes) (search rules) c.loop-node.invariant.counted in
    let more : length c.add_numbered.new.all ≡ length all + 1 = ap length put ∙ length_push all _ in
    record {
      whole = made_more (λ i (node : DeclaredNode). with_number (number_of_node nodes (take i nodes) node) node ∷ []) all _ c.add_numbered.new.all (into_iter_items c.loop-node.node-iterator) (into_iter_items c.next.new.self) c.in-Some.node (length all) (length c.add_numbered.new.all) here more c.loop-node.invariant.whole put;
      counted = subst (HasCounts c.add_numbered.new.counts) (sym (ap (λ n. take n nodes) more ∙ next.0)) (c.in_ok-add_numbered.ensures.counts (take (length all) nodes) c.loop-node.invariant.counted);
      rest = next.1 ∙ ap (λ n. drop n nodes) (sym more);
      count = let e = c.loop-node.invariant.count in omega arith;
      left = let e = c.loop-node.invariant.left in omega arith;
    }
