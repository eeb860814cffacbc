use Rattle.hs_laws.proofs.Lawful.{IsLawful-take, after_journal-typed, rules_of}
use Rattle.hs_laws.proofs.journals.journals_stay_lawful.Goals as goal

pub returns-clause-prefixes : goal.returns-clause-prefixes
returns-clause-prefixes c = IsLawful-take

pub returns-clause-typed : goal.returns-clause-typed
returns-clause-typed c = λ rules opening entries n formed. after_journal-typed rules opening entries n formed.0 (rules_of rules formed)
