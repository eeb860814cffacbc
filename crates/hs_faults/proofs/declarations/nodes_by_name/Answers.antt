use Rattle.std.proofs.Common.{◌≡◌, take, sym}
use Rattle.hs_faults.proofs.Failures.{fails_here, handed_on}
use Rattle.hs_faults.specs.Declarations.{faults_of_nodes, node_faults}
use Rattle.hs_expr.specs.Verdict.{verdict}
use Rattle.hs_faults.proofs.declarations.nodes_by_name.Goals as goal

pub returns-in_err-check_node : goal.returns-in_err-check_node
returns-in_err-check_node c =
    handed_on (λ index. index ≡ c.args.nodes.now) c.from_residual.result c.in_err-check_node.field-0.0 (verdict (faults_of_nodes c.args.meta.now c.args.nodes.now)) c.from_residual.ensures.1
    (fails_here (λ i node. node_faults c.args.meta.now (take i c.args.nodes.now) node) c.args.nodes.now c.loop-node.node-index c.node-item.result c.in_err-check_node.field-0.0 (verdict (faults_of_nodes c.args.meta.now c.args.nodes.now))
    c.loop-node-test.true (sym c.node-item.is) c.loop-node.invariant.rest
    (c.in_err-check_node.ensures.fault (take c.loop-node.node-index c.args.nodes.now) c.loop-node.invariant.known))
