use Rattle.hs_laws.proofs.Lawful.{after_try-typed, after_what-typed, rules_of}
use Rattle.hs_laws.proofs.journals.attempts_stay_typed.Goals as goal

pub returns-clause-attempts : goal.returns-clause-attempts
returns-clause-attempts c = λ rules g tried formed. after_try-typed rules g tried formed.0 (rules_of rules formed)

pub returns-clause-entries : goal.returns-clause-entries
returns-clause-entries c = λ rules g entry formed. after_what-typed rules g entry.what formed.0 (rules_of rules formed)
