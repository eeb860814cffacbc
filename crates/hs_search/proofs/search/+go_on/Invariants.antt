use Rattle.std.proofs.Common.{◌≡◌, ◌-◌, ◌^◌, ◌≤◌, length}
use Rattle.std.specs.Prelude.{option_copied}
use Rattle.hs_search.specs.Search.{floor}
use Rattle.hs_search.proofs.Steps.{Passed}
use Rattle.hs_search.proofs.search.+go_on.Given as goal

abbrev pub decreases-go_on : goal.decreases-go_on
decreases-go_on g l = g.C.Choice.size l.choice.now - length l.numbers.now.items

abbrev pub invariant-search : goal.invariant-search
invariant-search g l = record {
  same : l.numbers.items ≡ l.initial.numbers.items;
  above : floor (option_copied l.bound) ≤ l.from;
  within : l.from ≤ 2 ^ 32;
  passed : Passed (g.C.Choice.size l.choice) (g.C.Choice.Good l.choice) (option_copied l.bound) l.numbers.items l.from;
}

abbrev pub decreases-search : goal.decreases-search
decreases-search g l = 2 ^ 32 - l.from
