use Rattle.hs_laws.proofs.Lawful.{IsUnlawfulAt-same, IsUnlawfulAt-unlawful}
use Rattle.hs_laws.proofs.Unlawful.{lawful_or_unlawful}
use Rattle.hs_laws.proofs.journals.lawful_or_not.Goals as goal

pub returns-clause-one_cause : goal.returns-clause-one_cause
returns-clause-one_cause c = IsUnlawfulAt-same

pub returns-clause-not_both : goal.returns-clause-not_both
returns-clause-not_both c = IsUnlawfulAt-unlawful

pub returns-clause-not_neither : goal.returns-clause-not_neither
returns-clause-not_neither c = lawful_or_unlawful
