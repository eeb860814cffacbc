use Rattle.hs_laws.proofs.Coming.{edges-come, objects-come, values-come}
use Rattle.hs_laws.proofs.steps.steps_bring_what_they_name.Goals as goal

pub returns-clause-objects_come : goal.returns-clause-objects_come
returns-clause-objects_come c = objects-come

pub returns-clause-edges_come : goal.returns-clause-edges_come
returns-clause-edges_come c = edges-come

pub returns-clause-values_come : goal.returns-clause-values_come
returns-clause-values_come c = values-come
