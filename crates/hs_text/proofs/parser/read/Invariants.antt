use Rattle.std.proofs.Common.{take}
use Rattle.hs_text.proofs.Whole.{Stands}
use Rattle.hs_text.proofs.parser.read.Given as goal

abbrev pub invariant-loop-token : goal.invariant-loop-token
invariant-loop-token l = Stands l.source (take l.token-index l.token-items) l.stack l.builder
