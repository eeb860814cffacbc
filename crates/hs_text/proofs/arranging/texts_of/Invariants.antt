use Rattle.std.proofs.Common.{◌-◌, length, take}
use Rattle.hs_text.specs.Canonical.{expr_text}
use Rattle.hs_text.proofs.Arranged.{IsArranged}
use Rattle.hs_text.proofs.arranging.texts_of.Given as goal

abbrev pub invariant-loop-i : goal.invariant-loop-i
invariant-loop-i l = IsArranged (take (length l.pieces - l.i) l.pieces) l.tasks l.texts (expr_text l.expr)
