use Rattle.hs_laws.proofs.Fitting.{plan-fits}
use Rattle.hs_laws.proofs.steps.plans_fit.Goals as goal

pub returns : goal.returns
returns c = plan-fits
