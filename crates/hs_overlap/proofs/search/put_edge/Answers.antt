use Rattle.std.proofs.Common.{◌≡◌, ◌<◌, List, Contains, length, sym, ap, ◌∙◌, arith, rules, Some, slice_get}
use Rattle.std.proofs.lemmas.Option.{slice_get_within}
use Rattle.hs_overlap.specs.Overlaps.{EdgesMeet}
use Rattle.hs_overlap.specs.Completions.{put}
use Rattle.hs_overlap.specs.Tests.{EndsPut, EdgesFit}
use Rattle.hs_overlap.proofs.Puts.{edge_alone}
use Rattle.hs_overlap.proofs.Steps.{EdgesHeld, edge_grown, edge_put, edge_there, edges_held, free_less, no_edge}
use Rattle.hs_overlap.proofs.search.put_edge.Goals as goal
use Rattle.hs_overlap.proofs.search.put_edge.Goals.{then-not-edges_fit-via-then-not-edges_fit, then-not-edges_fit-via-else-not-edges_fit+then-is_taken}

pub returns-in_default-clause-whole : goal.returns-in_default-clause-whole
returns-in_default-clause-whole c = λ span overlap front g has.
    let n : EdgesMeet (Contains overlap) c.args.first.now c.args.second.now c.args.x c.args.y = edge_there c.args.meta.now c.args.first.now c.args.second.now span c.args.partners.now overlap c.args.x c.args.y g has in
    no_edge (slice_get c.args.first.now.edges c.args.x) (sym c.in_default.ensures) n.one n.first.at

pub returns-in_default-edge-clause-whole : goal.returns-in_default-edge-clause-whole
returns-in_default-edge-clause-whole c = λ span overlap front g has.
    let n : EdgesMeet (Contains overlap) c.args.first.now c.args.second.now c.args.x c.args.y = edge_there c.args.meta.now c.args.first.now c.args.second.now span c.args.partners.now overlap c.args.x c.args.y g has in
    no_edge (slice_get c.args.second.now.edges c.args.y) (sym c.in_default-edge.ensures) n.other n.second.at

pub returns-then-not-edges_fit-clause-whole : goal.returns-then-not-edges_fit-clause-whole
returns-then-not-edges_fit-clause-whole c = λ span overlap front g has.
    elim c.then-not-edges_fit.branch [
      | then-not-edges_fit-via-then-not-edges_fit w ↦
          let h : EdgesHeld overlap c.in-Some.one.now c.in-Some-edge.other.now = edges_held c.args.meta.now c.args.first.now c.args.second.now span c.args.partners.now overlap c.args.x c.args.y c.in-Some.one.now c.in-Some-edge.other.now front g has c.requires.free (sym c.in-Some.ensures) (sym c.in-Some-edge.ensures) in
          let t = c.edges_fit.ensures.1 h.fit in let f = w.if-not-edges_fit.true in cc
      | then-not-edges_fit-via-else-not-edges_fit+then-is_taken w ↦
          let h = w.is_taken.ensures.0 w.if-is_taken.true in
          edge_alone c.args.meta.now c.args.first.now c.args.second.now span c.args.partners.now front overlap g c.args.x c.args.y c.requires.free has h.0 h.1
    ]

pub returns-in_default-put_ends-clause-whole : goal.returns-in_default-put_ends-clause-whole
returns-in_default-put_ends-clause-whole c = λ span overlap front g has.
    let h : EdgesHeld overlap c.in-Some.one.now c.in-Some-edge.other.now = edges_held c.args.meta.now c.args.first.now c.args.second.now span c.args.partners.now overlap c.args.x c.args.y c.in-Some.one.now c.in-Some-edge.other.now front g has c.requires.free (sym c.in-Some.ensures) (sym c.in-Some-edge.ensures) in
    c.in_default-put_ends.ensures.whole span overlap front g h.sources h.targets

pub with_edge-requires : goal.with_edge-requires
with_edge-requires c = let below : c.args.x < length c.args.first.now.edges = slice_get_within c.args.first.now.edges c.args.x c.in-Some.one.now (sym c.in-Some.ensures) in omega (arith, below, c.requires.few_edges)

pub returns-clause-some : goal.returns-clause-some
returns-clause-some c = λ span front.
    let below : c.args.x < length c.args.first.now.edges = slice_get_within c.args.first.now.edges c.args.x c.in-Some.one.now (sym c.in-Some.ensures) in
    let fit : EdgesFit c.in-Some.one.now c.in-Some-edge.other.now = c.edges_fit.ensures.0 (search rules) in
    edge_put c.args.meta.now c.args.first.now c.args.second.now span c.args.partners.now c.in-Some-put_ends.next c.with_edge.result c.in-Some.one.now c.in-Some-edge.other.now c.args.x c.args.y
    (sym c.in-Some.ensures) (sym c.in-Some-edge.ensures) fit c.requires.free (λ k h. let t = c.is_taken.ensures.1 (k, h) in let f = c.if-is_taken.false in cc)
    (c.in-Some-put_ends.ensures.some span front) c.in-Some-put_ends.ensures.edges (omega (arith, below, c.requires.few_edges, c.with_edge.ensures.long)) c.with_edge.ensures.nodes c.with_edge.ensures.edges

pub returns-clause-whole : goal.returns-clause-whole
returns-clause-whole c = λ span overlap front g has.
    let below : c.args.x < length c.args.first.now.edges = slice_get_within c.args.first.now.edges c.args.x c.in-Some.one.now (sym c.in-Some.ensures) in
    let h : EdgesHeld overlap c.in-Some.one.now c.in-Some-edge.other.now = edges_held c.args.meta.now c.args.first.now c.args.second.now span c.args.partners.now overlap c.args.x c.args.y c.in-Some.one.now c.in-Some-edge.other.now front g has c.requires.free (sym c.in-Some.ensures) (sym c.in-Some-edge.ensures) in
    let ends : EndsPut c.args.meta.now c.args.first.now c.args.second.now span c.args.partners.now c.in-Some.one.now c.in-Some-edge.other.now c.in-Some-put_ends.next = c.in-Some-put_ends.ensures.some span front in
    edge_grown c.args.meta.now c.args.first.now c.args.second.now span c.in-Some-put_ends.next c.with_edge.result overlap c.args.x c.args.y ends.front
    (c.in-Some-put_ends.ensures.whole span overlap front g h.sources h.targets) (omega (arith, below, c.requires.few_edges, c.with_edge.ensures.long)) has c.with_edge.ensures.nodes c.with_edge.ensures.edges

pub returns-clause-fewer : goal.returns-clause-fewer
returns-clause-fewer c =
    let below : c.args.x < length c.args.first.now.edges = slice_get_within c.args.first.now.edges c.args.x c.in-Some.one.now (sym c.in-Some.ensures) in
    let same : c.in-Some-put_ends.next.edges ≡ c.args.partners.now.edges = c.in-Some-put_ends.ensures.edges in
    let after : c.with_edge.result.edges ≡ put c.args.partners.now.edges c.args.x (Some c.args.y) = c.with_edge.ensures.edges ∙ ap (λ z. put z c.args.x (Some c.args.y)) same in
    let long : length c.args.partners.now.edges ≡ 16 = ap (λ (z : List _). length z) (sym same) ∙ c.with_edge.ensures.long in
    rw after (free_less c.args.partners.now.edges c.args.x c.args.y c.requires.free (omega (arith, below, c.requires.few_edges, long)))
