use Rattle.std.proofs.Common.{◌≡◌, ◌++◌, drop}
use Rattle.hs_meta.specs.Ranks.{ranks}
use Rattle.hs_meta.proofs.features.ranks_of.Given as goal

abbrev pub invariant-loop-row : goal.invariant-loop-row
invariant-loop-row l = l.ranks ++ ranks (drop l.row-index l.rows) ≡ ranks l.rows
