use Rattle.hs_laws.proofs.Fitting.{plan-fits}
use Rattle.hs_laws.proofs.hosts.plans_can_be_installed.Goals as goal

pub returns : goal.returns
returns c = λ m g rule args f is formed typed valid within. record { fits = plan-fits m g rule args f is formed typed valid; objects_drawn = within.0; edges_drawn = within.1 }
