use Rattle.std.proofs.Common.{◌↔◌, map, drop}
use Rattle.hs_types.specs.declared.graph.Edge.{Edge}
use Rattle.hs_expr.specs.Lists.{Rise}
use Rattle.hs_match.proofs.form.edges_rise.Given as goal

abbrev pub invariant-loop-edge : goal.invariant-loop-edge
invariant-loop-edge l = Rise l.low (map (λ (edge : Edge). edge.number) (drop l.edge-index l.edges)) l.next ↔ Rise 0 (map (λ (edge : Edge). edge.number) l.edges) l.next
