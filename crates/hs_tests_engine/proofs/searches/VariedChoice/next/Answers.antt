use Rattle.std.proofs.Common.{◌<◌, ◌≤◌, ◌≡◌, arith, rules, Contains}
use Rattle.hs_tests_engine.proofs.Varying.{not-new}
use Rattle.hs_tests_engine.proofs.searches.VariedChoice.next.Goals as goal
use borrow.Author.Count.{below_more}

pub returns-in_default-clause-none : goal.returns-in_default-clause-none
returns-in_default-clause-none c = λ y late. not-new _ _ _ _ y (λ new. c.in_default.ensures (let small : y < c.args.self.now.below = new.small in omega arith))

pub loop-x-init : goal.loop-x-init
loop-x-init c = λ y late early. absurd (let start : c.in-Ok.start ≡ c.args.from = c.in-Ok.ensures.1 in omega arith)

pub returns-then-not-contains-clause-passed : goal.returns-then-not-contains-clause-passed
returns-then-not-contains-clause-passed c = λ y late early. not-new _ _ _ _ y (λ new. new.fresh (c.loop-x.invariant y late early))

pub loop-x-preserved : goal.loop-x-preserved
loop-x-preserved c =
    let here : Contains c.args.front.now c.loop-x.x-counter = search rules in
    λ y late early. below_more (λ y. c.args.from ≤ y → Contains c.args.front.now y) c.loop-x.x-counter (λ y early late. c.loop-x.invariant y late early) (λ late. here) y early late

pub returns-clause-none : goal.returns-clause-none
returns-clause-none c = λ y late. not-new _ _ _ _ y (λ new. new.fresh (c.loop-x.invariant y late (let small : y < c.args.self.now.below = new.small in omega arith)))
