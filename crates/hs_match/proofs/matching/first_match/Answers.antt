use Rattle.hs_match.proofs.Valid.{least_valid, none_valid}
use Rattle.hs_match.proofs.matching.first_match.Goals as goal

pub returns-in_ok-match_of-in-Some : goal.returns-in_ok-match_of-in-Some
returns-in_ok-match_of-in-Some c = least_valid _ _ _ _ _ c.requires.only_adds c.in_ok-match_of-in-Some.ensures c.in-Some.ensures.least

pub returns-in-None : goal.returns-in-None
returns-in-None c = none_valid _ _ _ c.in-None.ensures.none
