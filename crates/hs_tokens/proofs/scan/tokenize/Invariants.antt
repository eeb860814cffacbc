use Rattle.std.proofs.Common.{◌-◌, length}
use Rattle.hs_tokens.proofs.Positions.{ReadSoFar}
use Rattle.hs_tokens.proofs.scan.tokenize.Given as goal

abbrev pub invariant-loop-position : goal.invariant-loop-position
invariant-loop-position l = ReadSoFar l.chars l.position l.tokens.items

abbrev pub decreases-loop-position : goal.decreases-loop-position
decreases-loop-position l = length l.chars - l.position.index
