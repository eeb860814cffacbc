use Rattle.hs_session.proofs.TriedOnce.{tried_once}
use Rattle.hs_session.proofs.laws.rules_are_tried_once.Goals as goal

pub returns : goal.returns
returns c = λ rules rule args fuel number made course. tried_once rules rule fuel args made course
