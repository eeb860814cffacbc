use Rattle.hs_laws.proofs.Spared.{IsSupported-kept, plan_of-kept}
use Rattle.hs_laws.proofs.sparing.spared_matches_stay_valid.Goals as goal

pub returns-clause-valid : goal.returns-clause-valid
returns-clause-valid c = IsSupported-kept

pub returns-clause-same_plan : goal.returns-clause-same_plan
returns-clause-same_plan c = plan_of-kept
