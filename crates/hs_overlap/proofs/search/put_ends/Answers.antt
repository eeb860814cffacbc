use Rattle.hs_overlap.specs.declared.pair.Pair.TheVariants.{Node}
use Rattle.hs_overlap.specs.Completions.{Completes, IsPut}
use Rattle.hs_overlap.specs.Tests.{EndsPut}
use Rattle.hs_overlap.proofs.Steps.{ends_put, if_some}
use Rattle.hs_overlap.proofs.search.put_ends.Goals as goal

pub returns-in-Some-clause-some : goal.returns-in-Some-clause-some
returns-in-Some-clause-some c = λ span front.
    let m = c.args.meta.now in let r = c.args.first.now in let p = c.args.second.now in let e = c.args.one.now in let f = c.args.other.now in let s = c.args.partners.now in let t = c.in-Some.next in
    let a : IsPut m r p span s (Node e.source f.source) t = rw (← c.from-one_source.ensures, ← c.from-other_source.ensures) (c.in-Some.ensures.some span front) in
    if_some c.put_node-in-Some.result (IsPut m r p span t (Node e.target f.target)) (EndsPut m r p span s e f) (λ u b. ends_put m r p span s t u e f a b)
    (rw (← c.from-one_target.ensures, ← c.from-other_target.ensures) (c.put_node-in-Some.ensures.some span a.front))

pub returns-in-Some-clause-whole : goal.returns-in-Some-clause-whole
returns-in-Some-clause-whole c = λ span overlap front g sources targets.
    let m = c.args.meta.now in let r = c.args.first.now in let p = c.args.second.now in let e = c.args.one.now in let f = c.args.other.now in let s = c.args.partners.now in let t = c.in-Some.next in
    let a : IsPut m r p span s (Node e.source f.source) t = rw (← c.from-one_source.ensures, ← c.from-other_source.ensures) (c.in-Some.ensures.some span front) in
    let h : Completes m r p span t overlap = c.in-Some.ensures.whole span overlap front g (rw (c.from-one_source.ensures, c.from-other_source.ensures) sources) in
    c.put_node-in-Some.ensures.whole span overlap a.front h (rw (c.from-one_target.ensures, c.from-other_target.ensures) targets)

pub returns-in-None-clause-whole : goal.returns-in-None-clause-whole
returns-in-None-clause-whole c = λ span overlap front g sources targets.
    c.in-None.ensures.whole span overlap front g (rw (c.from-one_source.ensures, c.from-other_source.ensures) sources)
