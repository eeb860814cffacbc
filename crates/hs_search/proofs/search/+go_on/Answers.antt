use Rattle.std.proofs.Common.{◌≡◌, ◌+◌, ◌≤◌, ◌≢◌, ◌∷◌, ◌++◌, [], length, arith, rules}
use Rattle.std.specs.Prelude.{option_copied}
use Rattle.std.proofs.lemmas.List.{length_push}
use Rattle.hs_search.specs.Choice.{EachFits}
use Rattle.hs_search.specs.Search.{floor}
use Rattle.hs_search.proofs.Steps.{EachFits-push, Passed, Passed-floor, Passed-skip, Passed-next, Passed-all, best-first, popped}
use Rattle.hs_search.proofs.search.+go_on.Goals as goal

pub search-init : goal.search-init
search-init g t c =
    let start : c.from-from.result ≡ floor (option_copied c.args.bound) = search rules in
    record {
      same = search rules;
      above = omega arith;
      within = omega arith;
      passed = rw start (Passed-floor (g.C.Choice.size c.args.choice.now) (g.C.Choice.Good c.args.choice.now) (option_copied c.args.bound) c.args.numbers.now.items);
    }

pub go_on-requires : goal.go_on-requires
go_on-requires g t c κs within =
    let same : c.search.numbers.items ≡ c.args.numbers.now.items = c.search.invariant.same in
    let pushed : c.push.new.self.items ≡ c.args.numbers.now.items ++ c.in-Some.x ∷ [] = cc (c.push.ensures.items) in
    let fit : g.C.Choice.Fits c.args.choice.now c.args.numbers.now.items c.in-Some.x = rw (c.as_slice-in-search.ensures.value, same) at c.in-Some.ensures.fits in
    let fits : EachFits (g.C.Choice.Fits c.args.choice.now) [] c.push.new.self.items =
    rw pushed (EachFits-push (g.C.Choice.Fits c.args.choice.now) [] c.args.numbers.now.items c.in-Some.x c.requires.each_fits fit) in
    let longer : length c.push.new.self.items ≡ length c.args.numbers.now.items + 1 = rw pushed (length_push c.args.numbers.now.items c.in-Some.x) in
    let short : length c.args.numbers.now.items ≢ g.C.Choice.size c.args.choice.now = λ e. c.if-len-size.false (cc) in
    (omega arith, (within, (c.requires.room, (omega arith, fits))))

pub returns-then-go_on-clause-found : goal.returns-then-go_on-clause-found
returns-then-go_on-clause-found g t c =
    let same : c.search.numbers.items ≡ c.args.numbers.now.items = c.search.invariant.same in
    let pushed : c.push.new.self.items ≡ c.args.numbers.now.items ++ c.in-Some.x ∷ [] = cc (c.push.ensures.items) in
    let here : Passed (g.C.Choice.size c.args.choice.now) (g.C.Choice.Good c.args.choice.now) (option_copied c.args.bound) c.args.numbers.now.items c.in-Some.x =
    Passed-skip _ _ _ _ c.search.from _ (rw same at c.search.invariant.passed) (rw (c.as_slice-in-search.ensures.value, same) at c.in-Some.ensures.passed) in
    best-first _ _ _ _ _ _ _ here c.bound_after.ensures (rw pushed at c.if-go_on.ensures.found) (λ e. c.if-len-size.false (cc))

pub search-preserved : goal.search-preserved
search-preserved g t c =
    let same : c.search.numbers.items ≡ c.args.numbers.now.items = c.search.invariant.same in
    let pushed : c.push.new.self.items ≡ c.args.numbers.now.items ++ c.in-Some.x ∷ [] = cc (c.push.ensures.items) in
    let back : c.pop.new.self.items ≡ c.args.numbers.now.items = popped _ _ _ _ _ c.if-go_on.ensures.same pushed c.pop.ensures.rest in
    let here : Passed (g.C.Choice.size c.args.choice.now) (g.C.Choice.Good c.args.choice.now) (option_copied c.args.bound) c.args.numbers.now.items c.in-Some.x =
    Passed-skip _ _ _ _ c.search.from _ (rw same at c.search.invariant.passed) (rw (c.as_slice-in-search.ensures.value, same) at c.in-Some.ensures.passed) in
    let next : c.from-from-in-Some.result ≡ c.in-Some.x = search rules in
    let above : c.search.from ≤ c.in-Some.x = c.in-Some.ensures.from in
    record {
      same = back;
      above = omega arith;
      within = omega arith;
      passed = rw (back, next) (Passed-next _ _ _ _ _ _ here c.bound_after.ensures (rw pushed at c.if-go_on.ensures.none));
    }

pub returns-clause-none : goal.returns-clause-none
returns-clause-none g t c =
    let same : c.search.numbers.items ≡ c.args.numbers.now.items = c.search.invariant.same in
    Passed-all _ _ _ _ c.search.from (rw same at c.search.invariant.passed) (rw (c.as_slice-in-search.ensures.value, same) at c.in_default.ensures.none) (λ e. c.if-len-size.false (cc))
