use Rattle.hs_search.proofs.Steps.{none-at-all}
use Rattle.hs_search.proofs.search.least.Goals as goal

pub returns-else-go_on-clause-none : goal.returns-else-go_on-clause-none
returns-else-go_on-clause-none g c = none-at-all _ _ _ c.new-numbers.ensures c.if-go_on.ensures.none
