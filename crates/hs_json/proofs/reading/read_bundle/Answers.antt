use Rattle.hs_json.proofs.Sound.{given_sound}
use Rattle.hs_json.proofs.reading.read_bundle.Goals as goal

pub returns-clause-sound : goal.returns-clause-sound
returns-clause-sound c =
    let laws = c.models_are_sound.ensures in
    given_sound laws.whole laws.small laws.empty laws.graph _ _ c.bundle_of.ensures
