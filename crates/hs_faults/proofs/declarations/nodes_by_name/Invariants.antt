use Rattle.std.proofs.Common.{◌≡◌, drop, take}
use Rattle.hs_expr.specs.Verdict.{each_from, verdict}
use Rattle.hs_faults.specs.Declarations.{faults_of_nodes, node_faults}
use Rattle.hs_faults.specs.Named.{Knows}
use Rattle.hs_faults.proofs.declarations.nodes_by_name.Given as goal

abbrev pub invariant-loop-node : goal.invariant-loop-node
invariant-loop-node l = record {
  known : Knows (λ other. other.name) l.known (take l.node-index l.nodes);
  rest : verdict (each_from (λ i node. node_faults l.meta (take i l.nodes) node) l.node-index (drop l.node-index l.nodes)) ≡ verdict (faults_of_nodes l.meta l.nodes);
}
