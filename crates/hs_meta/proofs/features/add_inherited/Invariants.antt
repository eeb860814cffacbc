use Rattle.std.proofs.Common.{ℕ, List}
use Rattle.hs_meta.specs.Inheriting.{AreFoundBefore}
use Rattle.hs_meta.proofs.features.add_inherited.Given as goal

abbrev pub invariant-loop-c : goal.invariant-loop-c
invariant-loop-c l = (own : List (List ℕ)) → AreFoundBefore l.supers own l.ranks l.rank 0 l.fn.made → AreFoundBefore l.supers own l.ranks l.rank l.c l.made
