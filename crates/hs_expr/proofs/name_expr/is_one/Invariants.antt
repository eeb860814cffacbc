use Rattle.std.proofs.Common.{◌≡◌, ◌≤◌, drop}
use Rattle.hs_expr.proofs.OneTree.{is_one_from}
use Rattle.hs_expr.proofs.name_expr.is_one.Given as goal

abbrev pub invariant-loop-piece : goal.invariant-loop-piece
invariant-loop-piece l = record {
  few : l.trees ≤ l.piece-index;
  counted : is_one_from l.trees (drop l.piece-index l.pieces) ≡ is_one_from 0 l.pieces;
}
