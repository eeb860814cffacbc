use Rattle.hs_meta.proofs.IsMeta.{metamodel_of-is_meta, metamodel_of-is_small}
use Rattle.hs_meta.proofs.laws.metamodels_are_denoted.Goals as goal

pub returns-clause-whole : goal.returns-clause-whole
returns-clause-whole c = metamodel_of-is_meta

pub returns-clause-small : goal.returns-clause-small
returns-clause-small c = metamodel_of-is_small
