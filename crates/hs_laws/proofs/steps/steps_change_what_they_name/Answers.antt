use Rattle.hs_types.proofs.AfterStep.{edge-old, edge_numbered-kept, value_at-kept}
use Rattle.hs_laws.proofs.Stepped.{edge-gone, object-from, object-gone, object-stays}
use Rattle.hs_laws.proofs.steps.steps_change_what_they_name.Goals as goal

pub returns-clause-objects_stay : goal.returns-clause-objects_stay
returns-clause-objects_stay c = object-stays

pub returns-clause-slots_stay : goal.returns-clause-slots_stay
returns-clause-slots_stay c = value_at-kept

pub returns-clause-edges_stay : goal.returns-clause-edges_stay
returns-clause-edges_stay c = edge_numbered-kept

pub returns-clause-objects_go : goal.returns-clause-objects_go
returns-clause-objects_go c = object-gone

pub returns-clause-edges_go : goal.returns-clause-edges_go
returns-clause-edges_go c = edge-gone

pub returns-clause-no_object_comes : goal.returns-clause-no_object_comes
returns-clause-no_object_comes c = object-from

pub returns-clause-no_edge_comes : goal.returns-clause-no_edge_comes
returns-clause-no_edge_comes c = edge-old
