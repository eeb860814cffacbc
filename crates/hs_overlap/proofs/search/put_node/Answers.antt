use Rattle.std.proofs.Common.{◌≡◌, ◌<◌, length, sym, ◌∙◌, arith}
use Rattle.std.proofs.lemmas.Option.{slice_get_within}
use Rattle.hs_overlap.specs.Overlaps.{NodesMeet}
use Rattle.hs_overlap.specs.Tests.{CanPair}
use Rattle.hs_overlap.proofs.Puts.{node_same}
use Rattle.hs_overlap.proofs.Steps.{can_pair, node_grown, node_put}
use Rattle.hs_overlap.proofs.search.put_node.Goals as goal

pub returns-else-k-j-clause-whole : goal.returns-else-k-j-clause-whole
returns-else-k-j-clause-whole c = λ span overlap front g has.
    let here : c.in-Some.k ≡ c.args.j = node_same c.args.meta.now c.args.first.now c.args.second.now span c.args.partners.now front overlap g c.args.i c.args.j c.in-Some.k (sym c.partner.ensures ∙ c.in-Some.is) has in
    let ne = c.if-k-j.false in absurd (ne here)

pub returns-then-can_pair-clause-some : goal.returns-then-can_pair-clause-some
returns-then-can_pair-clause-some c = λ span front.
    let can : CanPair c.args.meta.now c.args.first.now c.args.second.now c.args.partners.now c.args.i c.args.j = c.can_pair.ensures.0 c.if-can_pair.true in
    let meet : NodesMeet c.args.meta.now c.args.first.now c.args.second.now c.args.i c.args.j = can.meet in
    let below : c.args.i < length c.args.first.now.nodes = slice_get_within c.args.first.now.nodes c.args.i meet.one meet.first.at in
    node_put c.args.meta.now c.args.first.now c.args.second.now span c.args.partners.now front c.args.i c.args.j (sym c.partner.ensures ∙ c.in-None.is) (omega (arith, below, c.requires.few, c.with_node.ensures.long)) can c.with_node.result c.with_node.ensures.nodes c.with_node.ensures.edges

pub returns-then-can_pair-clause-whole : goal.returns-then-can_pair-clause-whole
returns-then-can_pair-clause-whole c = λ span overlap front g has.
    let can : CanPair c.args.meta.now c.args.first.now c.args.second.now c.args.partners.now c.args.i c.args.j = c.can_pair.ensures.0 c.if-can_pair.true in
    let meet : NodesMeet c.args.meta.now c.args.first.now c.args.second.now c.args.i c.args.j = can.meet in
    let below : c.args.i < length c.args.first.now.nodes = slice_get_within c.args.first.now.nodes c.args.i meet.one meet.first.at in
    node_grown c.args.meta.now c.args.first.now c.args.second.now span c.args.partners.now front overlap g c.args.i c.args.j (omega (arith, below, c.requires.few, c.with_node.ensures.long)) has c.with_node.result c.with_node.ensures.nodes c.with_node.ensures.edges

pub returns-else-can_pair-clause-whole : goal.returns-else-can_pair-clause-whole
returns-else-can_pair-clause-whole c = λ span overlap front g has.
    let can : CanPair c.args.meta.now c.args.first.now c.args.second.now c.args.partners.now c.args.i c.args.j = can_pair c.args.meta.now c.args.first.now c.args.second.now span c.args.partners.now front overlap g c.args.i c.args.j (sym c.partner.ensures ∙ c.in-None.is) has in
    let t = c.can_pair.ensures.1 can in let f = c.if-can_pair.false in cc
