use Rattle.std.proofs.Common.{◌≡◌, ◌<◌, length, slice_get, Some, sym}
use Rattle.hs_types.specs.Pattern.{left_nodes, left_edges}
use Rattle.hs_match.specs.View.{sought}
use Rattle.hs_match.proofs.Images.{link_whole}
use Rattle.hs_match.proofs.extending.Extending.link.Goals as goal

pub returns-then-is_some : goal.returns-then-is_some
returns-then-is_some c =
    let e = c.args.self.now in
    let at : slice_get (left_edges e.edges.now) c.loop-place.place ≡ Some c.in-Some.edge.now = sym c.in-Some.ensures in
    let short : length c.args.front.now < length (left_nodes e.nodes.now) = rw e.nodes_counted at c.requires in
    link_whole (sought e) c.args.front.now c.loop-place.place c.in-Some.edge.now c.link_of-link.result at short c.link_of-link.ensures
