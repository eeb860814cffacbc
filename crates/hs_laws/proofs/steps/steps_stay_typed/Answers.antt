use Rattle.hs_laws.proofs.Planned.{IsTyped-applied}
use Rattle.hs_laws.proofs.steps.steps_stay_typed.Goals as goal

pub returns-clause-typed : goal.returns-clause-typed
returns-clause-typed c = IsTyped-applied
