-- Entries that are lawful at their places and applied at the least matches.
use Rattle.std.specs.Prelude.{◌≡◌, ◌⊎◌, List, [], ◌∷◌, true}
use Rattle.hs_types.specs.declared.entry.Entry.{Entry}
use Rattle.hs_types.specs.Journal.{IsLawfulEntry}
use Rattle.hs_types.specs.Rules.{Rules}
use Rattle.hs_session.specs.Requests.{Asked, is_of}
use Rattle.hs_session.specs.SerialReport.{AreLeast}
use Rattle.hs_session.specs.Standing.{Standing, entry_place}

-- The entry is of one of these requests.
abbrev pub IsAmong : List Asked → Entry → Type 0
IsAmong [] e = ⊥
IsAmong (k ∷ ks) e = (is_of k e ≡ true) ⊎ IsAmong ks e

abbrev pub IsSound : Rules → Standing → Type 0
IsSound rules s = IsLawfulEntry rules s.before s.graph (entry_place s) s.entry × AreLeast rules s
