use Rattle.std.proofs.Common.{◌≡◌, ◌+◌, ◌++◌, ◌∷◌, [], drop, length, take}
use Rattle.std.specs.Vec.Iter.{into_iter_items, into_iter_len}
use Rattle.hs_expr.specs.Verdict.{each_from}
use Rattle.hs_faults.specs.Numbers.{HasCounts, number_of_node, numbered_nodes, with_number}
use Rattle.hs_faults.proofs.numbers.numbered_nodes.Given as goal

abbrev pub invariant-loop-node : goal.invariant-loop-node
invariant-loop-node l = record {
  whole : l.all ++ each_from (λ i node. with_number (number_of_node l.fn.nodes (take i l.fn.nodes) node) node ∷ []) (length l.all) (into_iter_items l.node-iterator) ≡ numbered_nodes l.fn.nodes;
  counted : HasCounts l.counts (take (length l.all) l.fn.nodes);
  rest : into_iter_items l.node-iterator ≡ drop (length l.all) l.fn.nodes;
  count : length l.all + length (into_iter_items l.node-iterator) ≡ length l.fn.nodes;
  left : into_iter_len l.node-iterator ≡ length (into_iter_items l.node-iterator);
}
