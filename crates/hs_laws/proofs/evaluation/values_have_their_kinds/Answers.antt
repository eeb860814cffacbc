use Rattle.hs_laws.proofs.ValueKinds.{values-have_kinds}
use Rattle.hs_laws.proofs.evaluation.values_have_their_kinds.Goals as goal

pub returns : goal.returns
returns c = values-have_kinds
