use Rattle.std.proofs.Common.{refl}
use Rattle.hs_overlap.specs.Completions.{IsNearlyClosed}
use Rattle.hs_overlap.specs.Tests.{Fills}
use Rattle.hs_overlap.proofs.Fronts.{front_of, glued_of, grows_of, map_of_glued, tests_of}
use Rattle.hs_overlap.proofs.closed.has_closed_overlap.Goals as goal

pub returns-then-passes_tests : goal.returns-then-passes_tests
returns-then-passes_tests c =
    let m = c.args.meta.now in let r = c.args.first.now in let p = c.args.second.now in let span = c.args.span.now in let s = c.in-Some.partners in
    let fills : Fills s span = c.in-Some.ensures.some in
    let front : IsNearlyClosed m r p span s = front_of m r p span s c.requires.formed fills (c.passes_tests.ensures.0 c.if-passes_tests.true) in (
      (λ t. glued_of m r p span s (c.search.ensures.sound t c.requires.one c.requires.other span front)),
      (λ g. c.search.ensures.whole span g.overlap front (grows_of m r p span c.requires.formed g s fills)),
    )

pub returns-else-passes_tests : goal.returns-else-passes_tests
returns-else-passes_tests c =
    let m = c.args.meta.now in let r = c.args.first.now in let p = c.args.second.now in let span = c.args.span.now in let s = c.in-Some.partners in
    let fills : Fills s span = c.in-Some.ensures.some in (
      (λ t. let no_ = c.if-passes_tests.false in absurd cc),
      (λ g. c.passes_tests.ensures.1 (tests_of m r p span c.requires.formed g s fills)),
    )

pub returns-in-None : goal.returns-in-None
returns-in-None c = ((λ t. absurd cc), (λ g. absurd (c.in-None.ensures.none refl (map_of_glued c.args.meta.now c.args.first.now c.args.second.now c.args.span.now c.requires.formed g c.requires.few c.requires.few_edges))))
