use Rattle.std.proofs.Common.{codes}
use Rattle.serde_json.specs.Find.{get}
use Rattle.serde_json.specs.View.{view}
use Rattle.hs_json.specs.Reading.{graph_or_empty, in_graph}
use Rattle.hs_json.proofs.Sound.{graph_typed}
use Rattle.hs_json.proofs.reading.graph_part.Goals as goal

pub returns-clause-typed : goal.returns-clause-typed
returns-clause-typed c =
    let laws = c.models_are_sound.ensures in
    let meant = graph_or_empty c.args.meta.now (get (codes "graph") (view c.args.value.now)) in
    graph_typed laws.empty laws.graph c.args.meta.now (get (codes "graph") (view c.args.value.now)) c.fault_with.result c.is_metamodel.ensures.sound c.is_metamodel.ensures.small (c.fault_with.ensures in_graph meant c.graph_at.ensures (λ fault made h. h))
