use Rattle.hs_types.specs.Metamodel.{itself}
use Rattle.hs_laws.proofs.Classes.{Conforms-antisym, Conforms-trans, attribute-down, feature-down}
use Rattle.hs_laws.proofs.conformance.conformance_is_an_order.Goals as goal

pub returns-clause-reflexive : goal.returns-clause-reflexive
returns-clause-reflexive c = λ m d. itself d

pub returns-clause-transitive : goal.returns-clause-transitive
returns-clause-transitive c = Conforms-trans

pub returns-clause-antisymmetric : goal.returns-clause-antisymmetric
returns-clause-antisymmetric c = Conforms-antisym

pub returns-clause-features : goal.returns-clause-features
returns-clause-features c = λ m a b f w k h. feature-down m f w a b k h

pub returns-clause-attributes : goal.returns-clause-attributes
returns-clause-attributes c = λ m a b f w k h. attribute-down m f w a b k h
