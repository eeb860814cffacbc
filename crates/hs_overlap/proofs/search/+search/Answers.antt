use Rattle.std.proofs.Common.{refl, arith, inl, inr}
use Rattle.std.proofs.lemmas.Bool.{cases_eq}
use Rattle.hs_overlap.specs.declared.pair.Pair.TheVariants.{Edge}
use Rattle.hs_overlap.specs.Completions.{Completes, IsPut, IsForced, CanComplete}
use Rattle.hs_overlap.proofs.Grown.{HasPartner, forced_partner, grown, grows_less}
use Rattle.hs_overlap.proofs.search.+search.Goals as goal

pub returns-in_default-clause-sound : goal.returns-in_default-clause-sound
returns-in_default-clause-sound t c = λ h one other span front. grown c.args.meta.now c.args.first.now c.args.second.now one other span c.args.partners.now front (c.in_default.ensures.none refl)

pub loop-y-preserved-in_default-put_edge : goal.loop-y-preserved-in_default-put_edge
loop-y-preserved-in_default-put_edge t c = λ y l span overlap front g has. elim (cases_eq y c.loop-y.y) [
  | inl e ↦ c.in_default-put_edge.ensures.whole span overlap front g (rw e at has)
  | inr ne ↦ c.loop-y.invariant y (omega arith) span overlap front g has
]

pub returns-then-search-clause-sound : goal.returns-then-search-clause-sound
returns-then-search-clause-sound t c = λ h one other span front.
    let put : IsPut c.args.meta.now c.args.first.now c.args.second.now span c.args.partners.now (Edge c.in-Some.x c.loop-y.y) c.in-Some-put_edge.next = c.in-Some-put_edge.ensures.some span front in
    let more : CanComplete c.args.meta.now c.args.first.now c.args.second.now span c.in-Some-put_edge.next = c.search.ensures.sound c.if-search.true one other span put.front in
    (more.0, grows_less c.args.meta.now c.args.first.now c.args.second.now span c.args.partners.now c.in-Some-put_edge.next more.0 put.within more.1)

pub loop-y-preserved : goal.loop-y-preserved
loop-y-preserved t c = λ y l span overlap front g has. elim (cases_eq y c.loop-y.y) [
  | inl e ↦
      let put : IsPut c.args.meta.now c.args.first.now c.args.second.now span c.args.partners.now (Edge c.in-Some.x c.loop-y.y) c.in-Some-put_edge.next = c.in-Some-put_edge.ensures.some span front in
      let more : Completes c.args.meta.now c.args.first.now c.args.second.now span c.in-Some-put_edge.next overlap = c.in-Some-put_edge.ensures.whole span overlap front g (rw e at has) in
      let yes = c.search.ensures.whole span overlap put.front more in let no_ = c.if-search.false in cc
  | inr ne ↦ c.loop-y.invariant y (omega arith) span overlap front g has
]

pub returns-clause-whole : goal.returns-clause-whole
returns-clause-whole t c = λ span overlap front g.
    let forced : IsForced c.args.first.now c.args.second.now c.args.partners.now c.in-Some.x = c.in-Some.ensures.some in
    let h : HasPartner c.args.second.now overlap c.in-Some.x = forced_partner c.args.meta.now c.args.first.now c.args.second.now span c.args.partners.now overlap c.in-Some.x g forced in
    absurd (c.loop-y.invariant h.edge (let b = h.below in omega arith) span overlap front g h.held)
