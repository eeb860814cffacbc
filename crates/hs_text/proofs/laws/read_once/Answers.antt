use Rattle.hs_text.proofs.ReadOnce.{no-fault, one-fault, one-syntax}
use Rattle.hs_text.proofs.laws.read_once.Goals as goal

pub returns-clause-syntax : goal.returns-clause-syntax
returns-clause-syntax c = one-syntax c.lexed_once.ensures

pub returns-clause-fault : goal.returns-clause-fault
returns-clause-fault c = one-fault c.lexed_once.ensures

pub returns-clause-never_both : goal.returns-clause-never_both
returns-clause-never_both c = no-fault c.lexed_once.ensures
