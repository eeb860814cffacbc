use Rattle.hs_laws.proofs.Earlier.{IsFirst-same, IsFirstOf-same, IsLeast-same, IsNext-same, IsNextOf-same, IsValid-same}
use Rattle.hs_laws.proofs.order.least_is_unique.Goals as goal

pub returns-clause-by_kernel : goal.returns-clause-by_kernel
returns-clause-by_kernel c = IsValid-same

pub returns-clause-least : goal.returns-clause-least
returns-clause-least c = IsLeast-same

pub returns-clause-first : goal.returns-clause-first
returns-clause-first c = IsFirst-same

pub returns-clause-next : goal.returns-clause-next
returns-clause-next c = IsNext-same

pub returns-clause-first_extension : goal.returns-clause-first_extension
returns-clause-first_extension c = λ m g base part f a b h k. IsFirstOf-same _ a b h k

pub returns-clause-next_extension : goal.returns-clause-next_extension
returns-clause-next_extension c = λ m g base part f after a b h k. IsNextOf-same _ after a b h k
