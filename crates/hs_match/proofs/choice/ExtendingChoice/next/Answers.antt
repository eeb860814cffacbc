use Rattle.std.proofs.Common.{◌++◌, ◌∷◌, [], ◌+◌, ◌-◌, ◌≤◌, ◌≡◌, length, slice_get, Some, take, drop, sym}
use Rattle.hs_search.specs.Choice.{IsChoice}
use Rattle.hs_types.specs.Pattern.{left_nodes, left_edges}
use Rattle.hs_match.specs.Candidates.{IsNextFrom}
use Rattle.hs_match.specs.Extending.{AreImages, IsFreeImage}
use Rattle.hs_match.specs.View.{sought}
use Rattle.hs_match.proofs.Images.{object_passed, object_none, edge_in_choice_at, next_passed, next_none}
use Rattle.hs_match.proofs.Ordered.{none_past}
use Rattle.hs_match.proofs.Scans.{some_and}
use Rattle.hs_match.proofs.choice.ExtendingChoice.next.Goals as goal

pub returns-in-Some-clause-passed : goal.returns-in-Some-clause-passed
returns-in-Some-clause-passed c =
    let at : slice_get (left_nodes c.args.self.now.nodes.now) (length c.args.front.now) ≡ Some c.in-Some.node.now = sym c.in-Some.ensures in
    object_passed (sought c.args.self.now) _ c.args.front.now c.in-Some.node.now c.args.from c.next_node_image.result at c.next_node_image.ensures.passed

pub returns-in-Some-clause-none : goal.returns-in-Some-clause-none
returns-in-Some-clause-none c =
    let at : slice_get (left_nodes c.args.self.now.nodes.now) (length c.args.front.now) ≡ Some c.in-Some.node.now = sym c.in-Some.ensures in
    object_none (sought c.args.self.now) _ c.args.front.now c.in-Some.node.now c.args.from c.next_node_image.result at c.next_node_image.ensures.none

pub returns-in-None-clause-passed : goal.returns-in-None-clause-passed
returns-in-None-clause-passed c =
    let e = c.args.self.now in
    let front = c.args.front.now in
    let past : length (left_nodes e.nodes.now) ≤ length front = none_past (left_nodes e.nodes.now) (length front) (sym c.in-None.ensures) in
    let found = some_and (slice_get (left_edges e.edges.now) (length front - e.node_count)) (λ edge. IsNextFrom (IsFreeImage (sought e) (take e.node_count front) (drop e.node_count front) edge) c.args.from c.next_edge_image.result)
    c.next_edge_image.ensures in
    next_passed _ (λ y rest. IsChoice (e.node_count + e.edge_count) (AreImages (sought e)) ((front ++ y ∷ []) ++ rest)) c.args.from c.next_edge_image.result found.2
    (λ y rest choice. edge_in_choice_at (sought e) _ e.node_count front y rest found.0 e.nodes_counted past found.1 choice)

pub returns-in-None-clause-none : goal.returns-in-None-clause-none
returns-in-None-clause-none c =
    let e = c.args.self.now in
    let front = c.args.front.now in
    let past : length (left_nodes e.nodes.now) ≤ length front = none_past (left_nodes e.nodes.now) (length front) (sym c.in-None.ensures) in
    let found = some_and (slice_get (left_edges e.edges.now) (length front - e.node_count)) (λ edge. IsNextFrom (IsFreeImage (sought e) (take e.node_count front) (drop e.node_count front) edge) c.args.from c.next_edge_image.result)
    c.next_edge_image.ensures in
    next_none _ (λ y rest. IsChoice (e.node_count + e.edge_count) (AreImages (sought e)) ((front ++ y ∷ []) ++ rest)) c.args.from c.next_edge_image.result found.2
    (λ y rest choice. edge_in_choice_at (sought e) _ e.node_count front y rest found.0 e.nodes_counted past found.1 choice)
