use Rattle.std.proofs.Common.{◌≡◌, length}
use Rattle.hs_meta.specs.Inheriting.{AreFoundBefore}
use Rattle.hs_meta.proofs.features.with_inherited.Given as goal

abbrev pub invariant-loop-rank : goal.invariant-loop-rank
invariant-loop-rank l = record {
  long : length l.made.items ≡ length l.supers;
  found : AreFoundBefore l.supers l.fn.own l.ranks l.rank 0 l.made.items;
}
