use Rattle.hs_types.specs.Copies.{all_dropped_edges}
use Rattle.hs_laws.proofs.Stepped.{never_dangles}
use Rattle.hs_laws.proofs.steps.nothing_dangles_without_deletion.Goals as goal

pub returns : goal.returns
returns c = λ g rule f a b. never_dangles g rule f (all_dropped_edges rule f) a b
