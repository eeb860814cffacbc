use Rattle.std.proofs.Common.{◌≡◌, ◌≤◌, ◌++◌, ◌⊎◌, List, subst, slice_get, Some, inl, inr, arith, length}
use Rattle.std.specs.Prelude.{slice_index_or}
use Rattle.std.proofs.lemmas.Option.{slice_get-get_or, slice_get_within}
use Rattle.hs_types.specs.declared.graph.Edge.{Edge}
use Rattle.hs_match.specs.Candidates.{IsFree}
use Rattle.hs_match.specs.Linked.{IsLinked, IsLinkedBefore, Takes, Keeps, far_end}
use Rattle.hs_match.proofs.Links.{takes_next, keeps_next, IsNextFrom-iff}
use Rattle.hs_match.proofs.link.next_end.Goals as goal

pub loop-i-preserved : goal.loop-i-preserved
loop-i-preserved c =
    let edge : Edge = slice_index_or c.edges-edges.result.now c.loop-i.i (record { number = 0; source = 0; reference = 0; target = 0 }) in
    let at : slice_get c.edges-edges.result.now c.loop-i.i ≡ Some edge = slice_get-get_or c.edges-edges.result.now c.loop-i.i _ c.loop-i-test.true in
    let there : slice_get c.args.graph.now.graph.edges c.loop-i.i ≡ Some edge = subst (λ (xs : List Edge). slice_get xs c.loop-i.i ≡ Some edge) c.edges-edges.ensures at in
    let told : Takes (IsFree c.args.meta.now c.args.graph.now.graph c.args.class (c.args.base.now ++ c.args.taken.now)) c.args.from (far_end c.args.link edge) c.loop-i.least c.lesser-least.result
    ⊎ Keeps (IsFree c.args.meta.now c.args.graph.now.graph c.args.class (c.args.base.now ++ c.args.taken.now)) c.args.from (far_end c.args.link edge) c.loop-i.least c.lesser-least.result =
    rw c.far_end-end.ensures at c.lesser-least.ensures in
    elim told [
      | inl taken ↦ takes_next _ c.args.graph.now.graph c.args.link c.loop-i.i c.args.from edge c.loop-i.least _ there c.loop-i.invariant taken
      | inr kept ↦ keeps_next _ c.args.graph.now.graph c.args.link c.loop-i.i c.args.from edge c.loop-i.least _ there c.loop-i.invariant kept
    ]

pub returns : goal.returns
returns c =
    let free = IsFree c.args.meta.now c.args.graph.now.graph c.args.class (c.args.base.now ++ c.args.taken.now) in
    let long : length c.args.graph.now.graph.edges ≤ c.loop-i.i = rw c.edges-edges.ensures at c.loop-i-test.false in
    IsNextFrom-iff (λ y. free y × IsLinkedBefore c.args.graph.now.graph c.args.link c.loop-i.i y) (λ y. free y × IsLinked c.args.graph.now.graph c.args.link y) c.args.from c.loop-i.least
    (λ y p. (p.0, record { place = p.1.place; edge = p.1.edge; at = p.1.at; leads = p.1.leads }))
    (λ y q. let within = slice_get_within c.args.graph.now.graph.edges q.1.place q.1.edge q.1.at in (q.0, record { place = q.1.place; edge = q.1.edge; at = q.1.at; before = omega (arith, within); leads = q.1.leads }))
    c.loop-i.invariant
