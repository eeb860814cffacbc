use Rattle.std.proofs.Common.{◌≡◌, [], drop}
use Rattle.hs_eval.specs.Stacks.{stack_after_all}
use Rattle.hs_eval.proofs.checks.run.Given as goal

-- the pieces that are left give what all pieces give
abbrev pub invariant-loop-piece : goal.invariant-loop-piece
invariant-loop-piece g l = stack_after_all (g.C.Scope.names l.scope) (drop l.piece-index l.pieces) l.stack ≡ stack_after_all (g.C.Scope.names l.scope) l.pieces []
