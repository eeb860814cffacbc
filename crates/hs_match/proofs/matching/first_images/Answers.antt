use Rattle.std.proofs.Common.{◌≡◌, ◌+◌, length}
use Rattle.hs_types.specs.Pattern.{left_nodes, left_edges}
use Rattle.hs_match.specs.Kernel.{kernel_search}
use Rattle.hs_match.specs.View.{sought}
use Rattle.hs_match.proofs.Valid.{least_as, none_as}
use Rattle.hs_match.proofs.matching.first_images.Goals as goal

pub returns-clause-least : goal.returns-clause-least
returns-clause-least c =
    let same : sought c.new.result ≡ kernel_search c.args.meta.now c.args.graph.now.graph c.args.shape.now = rw (c.as_slice-nodes.ensures, c.as_slice-edges.ensures) at c.new.ensures.sought in
    let size : c.new.result.node_count + c.new.result.edge_count ≡ length (left_nodes c.args.shape.now.nodes) + length (left_edges c.args.shape.now.edges) =
    rw (c.as_slice-nodes.ensures, c.as_slice-edges.ensures) at c.new.ensures.size in
    least_as _ _ _ _ c.least.result size same c.least.ensures.least

pub returns-clause-none : goal.returns-clause-none
returns-clause-none c =
    let same : sought c.new.result ≡ kernel_search c.args.meta.now c.args.graph.now.graph c.args.shape.now = rw (c.as_slice-nodes.ensures, c.as_slice-edges.ensures) at c.new.ensures.sought in
    let size : c.new.result.node_count + c.new.result.edge_count ≡ length (left_nodes c.args.shape.now.nodes) + length (left_edges c.args.shape.now.edges) =
    rw (c.as_slice-nodes.ensures, c.as_slice-edges.ensures) at c.new.ensures.size in
    none_as _ _ _ _ c.least.result size same c.least.ensures.none
