use Rattle.std.proofs.Common.{refl}
use Rattle.hs_types.specs.Metamodel.{itself, above}
use Rattle.hs_laws.proofs.examples.metamodels.Goals as goal

pub returns-clause-no_loop : goal.returns-clause-no_loop
returns-clause-no_loop c h = h.no_cycle 0 0 refl (itself 0)

pub returns-clause-up : goal.returns-clause-up
returns-clause-up c = above 1 0 0 refl (itself 0)

pub returns-clause-common : goal.returns-clause-common
returns-clause-common c = (1, refl, above 1 0 0 refl (itself 0), itself 1)
